use mathlib.Core.Path.{◌≡◌}
use lib.ListN.{drop}
use Rattle.plain.specs.Detours.{all_within}
use Rattle.detours.proofs.judging.are_numbers.Given as goal

abbrev pub invariant-loop-goal : goal.invariant-loop-goal
invariant-loop-goal l = all_within l.subgoals l.goals ≡ all_within l.subgoals (drop l.goal-index l.goals)
