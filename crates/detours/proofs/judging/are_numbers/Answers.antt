-- `detours::judging::are_numbers` meets its contract.
use Prim.Native.Nat.{ℕ, suc, ◌+◌}
use mathlib.Core.Path.{◌≡◌, sym, ap, ◌∙◌}
use native.Mathlib.Omega.{arith}
use borrow.Author.Rules.{rules}
use lib.ListN.{drop}
use Rattle.plain.specs.Detours.{all_within}
use Rattle.detours.proofs.GoalCases.{within-zero, within-above, within_on, within-ended}
use Rattle.detours.proofs.judging.are_numbers.Goals.{then-s-eq0-via-then-s-eq0, then-s-eq0-via-else-s-eq0+then-subgoals-s}
use Rattle.detours.proofs.judging.are_numbers.Goals as goal

one_more_lem : (i : ℕ) → suc i ≡ i + 1
one_more_lem i = omega arith

pub returns-then-s-eq0 : goal.returns-then-s-eq0
returns-then-s-eq0 c = elim c.then-s-eq0.branch [
  | then-s-eq0-via-then-s-eq0 w ↦
      within-zero c.args.subgoals c.args.goals.now c.loop-goal.goal-index (search rules) c.loop-goal.invariant
      (sym c.wide-s.ensures.0 ∙ w.if-s-eq0.true)
  | then-s-eq0-via-else-s-eq0+then-subgoals-s w ↦
      within-above c.args.subgoals c.args.goals.now c.loop-goal.goal-index (search rules) c.loop-goal.invariant
      (λ z. w.if-s-eq0.false (c.wide-s.ensures.0 ∙ z)) (omega (arith, c.wide-s.ensures.0))
]

pub loop-goal-preserved : goal.loop-goal-preserved
loop-goal-preserved c =
    within_on c.args.subgoals c.args.goals.now c.loop-goal.goal-index (search rules) c.loop-goal.invariant
    (λ z. c.if-s-eq0.false (c.wide-s.ensures.0 ∙ z)) (omega (arith, c.wide-s.ensures.0))
    ∙ ap (λ (k : ℕ). all_within c.args.subgoals (drop k c.args.goals.now)) (one_more_lem c.loop-goal.goal-index)

pub returns : goal.returns
returns c = within-ended c.args.subgoals c.args.goals.now c.loop-goal.goal-index (omega arith) c.loop-goal.invariant
