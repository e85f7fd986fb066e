use Prim.Native.Nat.{◌-◌}
use lib.ListN.{length}
use Rattle.parts.proofs.Matching.{Passed}
use Rattle.parts.proofs.matches.Given as goal

abbrev pub invariant-loop-i : goal.invariant-loop-i
invariant-loop-i l = Passed l.pairs l.outer l.inner l.i

abbrev pub decreases-loop-i : goal.decreases-loop-i
decreases-loop-i l = length l.pairs - l.i
