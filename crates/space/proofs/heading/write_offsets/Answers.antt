-- `space::heading::write_offsets` meets its contract.
use lib.ListN.{length-set}
use native.Mathlib.Omega.{arith}
use Rattle.space.proofs.heading.write_offsets.Goals as goal

pub bounds-space-6 : goal.bounds-space-6
bounds-space-6 c = simp length-set (omega arith)

pub bounds-space-7 : goal.bounds-space-7
bounds-space-7 c = simp length-set (omega arith)
