use Rattle.indexing.proofs.EnterCases.{Passing}
use Rattle.indexing.specs.Parts.{tries_in}
use Prim.Native.Nat.{◌-◌}
use Rattle.indexing.proofs.entering.is_crowded.Given as goal

abbrev pub invariant-loop-child : goal.invariant-loop-child
invariant-loop-child l = Passing (tries_in l.space l.h) l.n l.child l.count

abbrev pub decreases-loop-child : goal.decreases-loop-child
decreases-loop-child l = 9 - l.count
