use Rattle.detours.proofs.GoalCases.{Judging}
use Rattle.detours.proofs.judging.judge_goals.Given as goal

abbrev pub invariant-loop-goal : goal.invariant-loop-goal
invariant-loop-goal l = Judging l.table l.goals l.goal-index l.opened l.fit
