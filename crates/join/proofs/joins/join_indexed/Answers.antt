-- `join::joins::join_indexed` meets its contract.
use Rattle.join.proofs.CallCases.{join-header, join-counted}
use mathlib.Core.Path.{◌≡◌}
use borrow.Author.Rules.{rules}
use Rattle.std.specs.Prelude.{Err}
use Rattle.basis.proofs.Tests.{told}
use Rattle.store.specs.Calls.{indexed_way}
use Rattle.join.proofs.joins.join_indexed.Goals as goal

pub returns-in_err-h : goal.returns-in_err-h
returns-in_err-h c =
    let passed : c.from_residual.result ≡ Err c.in_err-h.field-0.0 = search rules in
    rw passed (join-header (indexed_way c.args.index.now c.args.space.now) c.args.space.now c.args.first c.args.second c.args.pairs.now c.args.target c.args.copies.now _ (told c.in_err-h.was c.read_header.ensures))

pub returns : goal.returns
returns c = join-counted c.args.index.now c.args.space.now c.args.first c.args.second c.args.pairs.now c.args.target c.args.copies.now _ _ _ _ _ _ c.wide.ensures.0 c.wide-2.ensures.0 c.wide-3.ensures.0 (told c.in_ok-h.was c.read_header.ensures) c.join_in.ensures
