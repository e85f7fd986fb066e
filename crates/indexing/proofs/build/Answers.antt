-- `indexing::build` meets its contract.
use borrow.Author.Rules.{rules}
use mathlib.Core.Path.{◌≡◌}
use Rattle.std.specs.Prelude.{Err}
use Rattle.basis.proofs.Tests.{told}
use Rattle.indexing.proofs.BuildCases.{header_refused, header-sound}
use Rattle.space.proofs.HeaderLaws.{header-bounds}
use Rattle.indexing.proofs.build.Goals as goal

pub returns-in_err-h : goal.returns-in_err-h
returns-in_err-h c =
    let passed : c.from_residual.result ≡ Err c.in_err-h.field-0.0 = search rules in
    rw passed (header_refused c.args.space.now c.args.index.now _ (told c.in_err-h.was c.read_header.ensures))

pub build_in-requires : goal.build_in-requires
build_in-requires c = header-bounds _ _ (told c.in_ok-h.was c.read_header.ensures)

pub returns : goal.returns
returns c = header-sound c.args.space.now c.args.index.now _ (told c.in_ok-h.was c.read_header.ensures) c.build_in.result _ c.build_in.ensures
