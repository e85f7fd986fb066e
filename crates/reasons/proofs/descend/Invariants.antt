use Prim.Native.Nat.{◌-◌}
use Rattle.reasons.proofs.WhyCases.{Descending}
use Rattle.reasons.proofs.descend.Given as goal

abbrev pub invariant-loop-child : goal.invariant-loop-child
invariant-loop-child l = Descending l.space l.h l.from l.n l.child

abbrev pub decreases-loop-child : goal.decreases-loop-child
decreases-loop-child l = l.h.nodes - l.n
