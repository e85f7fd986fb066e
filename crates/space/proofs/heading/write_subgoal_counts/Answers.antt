-- `space::heading::write_subgoal_counts` meets its contract.
use lib.ListN.{length-set}
use native.Mathlib.Omega.{arith}
use Rattle.space.proofs.heading.write_subgoal_counts.Goals as goal

pub bounds-space-2 : goal.bounds-space-2
bounds-space-2 c = simp length-set (omega arith)
