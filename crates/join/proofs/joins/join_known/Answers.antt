-- `join::joins::join_known` meets its contract.
use Rattle.join.proofs.CallCases.{number-used, read-root, first-unread, second-unread, target-unread, root-unread, parties-in}
use mathlib.Core.Path.{◌≡◌}
use native.Mathlib.Omega.{arith}
use Rattle.std.specs.Prelude.{Some, None, Err}
use Rattle.basis.specs.declared.refusals.Refusal.TheVariants as refusal
use Rattle.basis.proofs.Tests.{told}
use Rattle.trie.specs.Index.{search_indexed}
use Rattle.join.proofs.joins.join_known.Goals as goal

pub read_subgoal-requires : goal.read_subgoal-requires
read_subgoal-requires c = number-used c.args.space.now c.args.h c.args.a.first c.requires.0 c.requires.1

pub returns-in_err-f : goal.returns-in_err-f
returns-in_err-f c =
    let damaged : c.read_subgoal.result ≡ None = grind arith in
    let passed : c.from_residual.result ≡ Err refusal.Records = grind arith in
    rw passed (first-unread (search_indexed c.args.asked.now.index.now c.args.h.nodes) c.args.space.now c.args.h c.args.a.first c.args.a.second c.args.asked.now.pairs.now c.args.a.target c.args.asked.now.copies.now c.requires (told damaged c.read_subgoal.ensures))

pub read_subgoal-requires-2 : goal.read_subgoal-requires-2
read_subgoal-requires-2 c = number-used c.args.space.now c.args.h c.args.a.second c.requires.0 c.requires.2

pub returns-in_err-g : goal.returns-in_err-g
returns-in_err-g c =
    let first : c.read_subgoal.result ≡ Some c.in_ok-f.f = grind arith in
    let damaged : c.read_subgoal-2.result ≡ None = grind arith in
    let passed : c.from_residual-in_err-g.result ≡ Err refusal.Records = grind arith in
    rw passed (second-unread (search_indexed c.args.asked.now.index.now c.args.h.nodes) c.args.space.now c.args.h c.args.a.first c.args.a.second c.args.asked.now.pairs.now c.args.a.target c.args.asked.now.copies.now c.requires c.in_ok-f.f (told first c.read_subgoal.ensures) (told damaged c.read_subgoal-2.ensures))

pub read_subgoal-requires-3 : goal.read_subgoal-requires-3
read_subgoal-requires-3 c = number-used c.args.space.now c.args.h c.args.a.target c.requires.0 c.requires.3

pub returns-in_err-t : goal.returns-in_err-t
returns-in_err-t c =
    let first : c.read_subgoal.result ≡ Some c.in_ok-f.f = grind arith in
    let second : c.read_subgoal-2.result ≡ Some c.in_ok-g.g = grind arith in
    let damaged : c.read_subgoal-3.result ≡ None = grind arith in
    let passed : c.from_residual-in_err-t.result ≡ Err refusal.Records = grind arith in
    rw passed (target-unread (search_indexed c.args.asked.now.index.now c.args.h.nodes) c.args.space.now c.args.h c.args.a.first c.args.a.second c.args.asked.now.pairs.now c.args.a.target c.args.asked.now.copies.now c.requires c.in_ok-f.f (told first c.read_subgoal.ensures) c.in_ok-g.g (told second c.read_subgoal-2.ensures) (told damaged c.read_subgoal-3.ensures))

pub is_root-requires : goal.is_root-requires
is_root-requires c =
    let third : c.read_subgoal-3.result ≡ Some c.in_ok-t.t = grind arith in
    ((number-used c.args.space.now c.args.h c.args.a.target c.requires.0 c.requires.3).0, read-root c.args.space.now c.args.h c.args.a.target c.in_ok-t.t (told third c.read_subgoal-3.ensures))

pub join_parties-requires : goal.join_parties-requires
join_parties-requires c =
    let first : c.read_subgoal.result ≡ Some c.in_ok-f.f = grind arith in
    let second : c.read_subgoal-2.result ≡ Some c.in_ok-g.g = grind arith in
    let third : c.read_subgoal-3.result ≡ Some c.in_ok-t.t = grind arith in
    parties-in (search_indexed c.args.asked.now.index.now c.args.h.nodes) c.args.space.now c.args.h c.args.a.first c.args.a.second c.args.asked.now.pairs.now c.args.a.target c.args.asked.now.copies.now c.requires c.in_ok-f.f (told first c.read_subgoal.ensures) c.in_ok-g.g (told second c.read_subgoal-2.ensures) c.in_ok-t.t (told third c.read_subgoal-3.ensures) (told c.is_root.ensures c.if-is_root.true)

pub returns : goal.returns
returns c =
    let first : c.read_subgoal.result ≡ Some c.in_ok-f.f = grind arith in
    let second : c.read_subgoal-2.result ≡ Some c.in_ok-g.g = grind arith in
    let third : c.read_subgoal-3.result ≡ Some c.in_ok-t.t = grind arith in
    root-unread (search_indexed c.args.asked.now.index.now c.args.h.nodes) c.args.space.now c.args.h c.args.a.first c.args.a.second c.args.asked.now.pairs.now c.args.a.target c.args.asked.now.copies.now c.requires c.in_ok-f.f (told first c.read_subgoal.ensures) c.in_ok-g.g (told second c.read_subgoal-2.ensures) c.in_ok-t.t (told third c.read_subgoal-3.ensures) (told c.is_root.ensures c.if-is_root.false)
