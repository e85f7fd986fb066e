-- `take_in_hand` meets its contract: the tokens passed are copied, and the terms that begin among them are noted.
use Prim.Native.Nat.{◌<◌}
use native.Mathlib.Omega.{arith}
use mathlib.Core.Path.{◌≡◌, sym, ◌∙◌}
use lib.ListN.{length, length-set}
use borrow.Author.Rules.{rules}
use Rattle.parts.proofs.Taking.{Taking, taking-none, place-free, taking-place, opens, shuts, passes, counts, taking-open, taking-token, taking-end}
use Rattle.parts.proofs.take_in_hand.Goals as goal
use Rattle.parts.proofs.take_in_hand.Goals.{then-due-eq0, else-due-eq0, then-depth-eq0, else-depth-eq0}

pub loop-at-init : goal.loop-at-init
loop-at-init c = taking-none _ _ _ _ c.requires

pub offset_bounds-held-begun : goal.offset_bounds-held-begun
offset_bounds-held-begun c = let h = place-free _ _ _ _ _ _ _ _ _ c.loop-at.invariant c.loop-at-test.true c.if-due-eq0.true in search rules

pub bounds-held-begun : goal.bounds-held-begun
bounds-held-begun c = let h = place-free _ _ _ _ _ _ _ _ _ c.loop-at.invariant c.loop-at-test.true c.if-due-eq0.true in search rules

pub overflow_add-begun : goal.overflow_add-begun
overflow_add-begun c = let h = place-free _ _ _ _ _ _ _ _ _ c.loop-at.invariant c.loop-at-test.true c.if-due-eq0.true in search rules

pub loop-at-preserved-then-c-eq-BLIST : goal.loop-at-preserved-then-c-eq-BLIST
loop-at-preserved-then-c-eq-BLIST c =
    let t : Taking c.args.edition c.args.m c.args.form.now c.args.held.now c.if-due-eq0.held c.loop-at.at c.if-due-eq0.begun c.if-due-eq0.due c.loop-at.depth × (0 < c.if-due-eq0.due) = elim c.if-due-eq0.branch [
      | then-due-eq0 w ↦ (rw (w.held-is, w.begun-is, w.due-is) (taking-place _ _ _ _ _ _ _ _ _ c.loop-at.invariant c.loop-at-test.true w.if-due-eq0.true), omega (arith, w.due-is))
      | else-due-eq0 w ↦ (rw (w.held-is, w.begun-is, w.due-is) c.loop-at.invariant, omega (arith, w.due-is, w.if-due-eq0.false))
    ] in
    taking-token _ _ _ _ _ _ _ _ _ t.0 c.loop-at-test.true _ _ t.1 (opens _ _ _ _ c.if-c-eq-BLIST.true) (search rules) (search rules)

pub overflow_sub-depth : goal.overflow_sub-depth
overflow_sub-depth c = taking-open _ _ _ _ _ _ _ _ _ c.loop-at.invariant c.loop-at-test.true (sym c.closes.ensures ∙ c.if-closes.true)

pub loop-at-preserved-then-closes : goal.loop-at-preserved-then-closes
loop-at-preserved-then-closes c =
    let t : Taking c.args.edition c.args.m c.args.form.now c.args.held.now c.if-due-eq0.held c.loop-at.at c.if-due-eq0.begun c.if-due-eq0.due c.loop-at.depth × (0 < c.if-due-eq0.due) = elim c.if-due-eq0.branch [
      | then-due-eq0 w ↦ (rw (w.held-is, w.begun-is, w.due-is) (taking-place _ _ _ _ _ _ _ _ _ c.loop-at.invariant c.loop-at-test.true w.if-due-eq0.true), omega (arith, w.due-is))
      | else-due-eq0 w ↦ (rw (w.held-is, w.begun-is, w.due-is) c.loop-at.invariant, omega (arith, w.due-is, w.if-due-eq0.false))
    ] in
    taking-token _ _ _ _ _ _ _ _ _ t.0 c.loop-at-test.true _ _ t.1 (shuts _ _ _ _ c.if-c-eq-BLIST.false (sym c.closes.ensures ∙ c.if-closes.true)) (search rules) (search rules)

pub loop-at-preserved : goal.loop-at-preserved
loop-at-preserved c =
    let t : Taking c.args.edition c.args.m c.args.form.now c.args.held.now c.if-due-eq0.held c.loop-at.at c.if-due-eq0.begun c.if-due-eq0.due c.loop-at.depth × (0 < c.if-due-eq0.due) = elim c.if-due-eq0.branch [
      | then-due-eq0 w ↦ (rw (w.held-is, w.begun-is, w.due-is) (taking-place _ _ _ _ _ _ _ _ _ c.loop-at.invariant c.loop-at-test.true w.if-due-eq0.true), omega (arith, w.due-is))
      | else-due-eq0 w ↦ (rw (w.held-is, w.begun-is, w.due-is) c.loop-at.invariant, omega (arith, w.due-is, w.if-due-eq0.false))
    ] in
    elim c.if-depth-eq0.branch [
      | then-depth-eq0 w ↦ rw w.due-is (taking-token _ _ _ _ _ _ _ _ _ t.0 c.loop-at-test.true _ _ t.1 (counts _ _ _ _ c.if-c-eq-BLIST.false (sym c.closes.ensures ∙ c.if-closes.false) (omega (arith, w.if-depth-eq0.true)) _ _ w.arguments_of.ensures.0 w.due_after-due.ensures) (search rules) (search rules))
      | else-depth-eq0 w ↦ rw w.due-is (taking-token _ _ _ _ _ _ _ _ _ t.0 c.loop-at-test.true _ _ t.1 (passes _ _ _ _ c.if-c-eq-BLIST.false (sym c.closes.ensures ∙ c.if-closes.false) (omega (arith, w.if-depth-eq0.false))) (search rules) (search rules))
    ]

pub shape_of-held : goal.shape_of-held
shape_of-held c = simp length-set c.loop-at.invariant.size

pub returns : goal.returns
returns c =
    let e : c.loop-at.at ≡ length c.args.form.now = omega (arith, c.loop-at-test.false, c.loop-at.auto.at-end) in
    rw (← e) (taking-end _ _ _ _ _ _ _ _ _ c.loop-at.invariant c.requires.ground c.loop-at-test.false)
