-- `why_new` meets its contract.
use native.Mathlib.Omega.{arith}
use mathlib.Core.Path.{◌≡◌}
use Rattle.std.specs.Prelude.{Err, None, Some}
use Rattle.basis.specs.declared.refusals.Refusal.TheVariants as refusal
use borrow.Author.Rules.{rules}
use Rattle.reasons.proofs.WhyCases.{new_none, new-astray, new-lost, new-found}
use Rattle.reasons.specs.Clauses.{Descends}
use Rattle.reasons.proofs.why_new.Goals as goal

pub returns-then-n-eq0 : goal.returns-then-n-eq0
returns-then-n-eq0 c = new_none c.args.space.now c.args.h c.args.parent c.args.n c.if-n-eq0.true

pub descend-requires : goal.descend-requires
descend-requires c = c.requires.0

pub returns-in_err-leaf : goal.returns-in_err-leaf
returns-in_err-leaf c =
    let damaged : c.descend.result ≡ None = grind arith in
    let passed : c.from_residual.result ≡ Err refusal.Records = grind arith in
    rw passed (new-astray c.args.space.now c.args.h c.args.parent c.args.n c.if-n-eq0.false (rw damaged at c.descend.ensures))

pub subgoal_of-requires : goal.subgoal_of-requires
subgoal_of-requires c =
    let came : c.descend.result ≡ Some c.in_ok-leaf.leaf = grind arith in
    let down : Descends c.args.space.now c.args.h c.args.parent (Some c.in_ok-leaf.leaf) = rw came at c.descend.ensures in
    (c.requires.0.0, down.1)

pub returns-in_err-s : goal.returns-in_err-s
returns-in_err-s c =
    let came : c.descend.result ≡ Some c.in_ok-leaf.leaf = grind arith in
    let passed : c.from_residual-in_err-s.result ≡ Err c.in_err-s.field-0.0 = search rules in
    rw passed (new-lost c.args.space.now c.args.h c.args.parent c.args.n c.if-n-eq0.false _ (rw came at c.descend.ensures) _ (rw c.in_err-s.was at c.subgoal_of.ensures))

pub returns : goal.returns
returns c =
    let came : c.descend.result ≡ Some c.in_ok-leaf.leaf = grind arith in
    new-found c.args.space.now c.args.h c.args.parent c.args.n c.if-n-eq0.false _ (rw came at c.descend.ensures) _ (rw c.in_ok-s.was at c.subgoal_of.ensures)
