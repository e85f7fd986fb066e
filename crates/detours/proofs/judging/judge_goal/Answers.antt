-- `detours::judging::judge_goal` meets its contract.
use mathlib.Core.Path.{◌≡◌, refl}
use Rattle.std.specs.Prelude.{None}
use borrow.Author.Rules.{rules}
use Rattle.basis.proofs.Tests.{told}
use Rattle.detours.proofs.GoalCases.{goal-damaged, goal-is, goal-first, goal-severed, goal-sound}
use Rattle.detours.proofs.judging.judge_goal.Goals as goal

pub returns-in_err-g : goal.returns-in_err-g
returns-in_err-g c =
    let passed : c.from_residual.result ≡ None = search rules in
    rw passed (goal-damaged c.args.table.now c.args.s (told c.in_err-g.was c.read_subgoal.ensures))

pub judge_answers-requires : goal.judge_answers-requires
judge_answers-requires c =
    record {
      is = goal-is c.args.table.now c.args.s c.in_ok-g.g (told c.in_ok-g.was c.read_subgoal.ensures);
      first_le_answers = goal-first c.args.table.now c.args.s c.in_ok-g.g (told c.in_ok-g.was c.read_subgoal.ensures);
    }

pub returns-in_err-fits : goal.returns-in_err-fits
returns-in_err-fits c =
    let passed : c.from_residual-in_err-fits.result ≡ None = search rules in
    rw passed (goal-severed c.args.table.now c.args.s (rw c.in_err-fits.was at c.judge_answers.ensures))

pub returns : goal.returns
returns c =
    goal-sound c.args.table.now c.args.s c.in_ok-g.g
    (told c.in_ok-g.was c.read_subgoal.ensures) _ _
    refl (rw c.in_ok-fits.was at c.judge_answers.ensures)
