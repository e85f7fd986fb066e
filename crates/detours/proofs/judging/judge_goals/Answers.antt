-- `detours::judging::judge_goals` meets its contract.
use mathlib.Core.Path.{◌≡◌, refl}
use native.Mathlib.Omega.{arith}
use borrow.Author.Rules.{rules}
use Rattle.std.specs.Prelude.{Err, None, Some}
use Rattle.basis.specs.declared.refusals.Refusal.TheVariants as refusal
use Rattle.detours.proofs.GoalCases.{within-each, told-goal, judging-begun, judging-damaged, judging-on, judging-ended}
use Rattle.detours.proofs.judging.judge_goals.Goals as goal

pub loop-goal-init : goal.loop-goal-init
loop-goal-init c = judging-begun c.args.table.now c.args.goals.now

pub judge_goal-requires : goal.judge_goal-requires
judge_goal-requires c =
    let x = within-each c.args.table.now.head.subgoals c.args.goals.now c.requires c.loop-goal.goal-index (search rules) in
    (omega (arith, x.0, c.wide.ensures.0), omega (arith, x.1, c.wide.ensures.0))

pub loop-goal-preserved : goal.loop-goal-preserved
loop-goal-preserved c =
    let came : c.judge_goal.result ≡ Some c.in_ok-judged.judged = grind arith in
    judging-on c.args.table.now c.args.goals.now c.loop-goal.goal-index c.loop-goal.opened c.loop-goal.fit
    c.loop-goal.invariant _ (omega arith) _ _ _ (search rules)
    (told-goal c.args.table.now (Some c.in_ok-judged.judged) c.wide.ensures.0
    (rw came at c.judge_goal.ensures)) refl refl

pub returns-in_err-judged : goal.returns-in_err-judged
returns-in_err-judged c =
    let damaged : c.judge_goal.result ≡ None = grind arith in
    let passed : c.from_residual.result ≡ Err refusal.Records = grind arith in
    rw passed (judging-damaged c.args.table.now c.args.goals.now c.loop-goal.goal-index c.loop-goal.opened c.loop-goal.fit
    c.loop-goal.invariant (search rules) (told-goal c.args.table.now None c.wide.ensures.0
    (rw damaged at c.judge_goal.ensures)))

pub returns : goal.returns
returns c =
    judging-ended c.args.table.now c.args.goals.now c.loop-goal.goal-index c.loop-goal.opened c.loop-goal.fit
    c.loop-goal.invariant (omega (arith, c.loop-goal.invariant.within)) c.requires _ c.ruling.ensures
