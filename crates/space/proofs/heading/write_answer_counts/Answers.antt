-- `space::heading::write_answer_counts` meets its contract.
use lib.ListN.{length-set}
use native.Mathlib.Omega.{arith}
use Rattle.space.proofs.heading.write_answer_counts.Goals as goal

pub bounds-space-3 : goal.bounds-space-3
bounds-space-3 c = simp length-set (omega arith)
