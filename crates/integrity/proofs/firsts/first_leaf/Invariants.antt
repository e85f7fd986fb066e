use Prim.Native.Nat.{◌-◌}
use Rattle.integrity.proofs.FirstCases.{Descending}
use Rattle.integrity.proofs.firsts.first_leaf.Given as goal

abbrev pub invariant-loop-y : goal.invariant-loop-y
invariant-loop-y l = Descending l.table l.i l.j

abbrev pub decreases-loop-y : goal.decreases-loop-y
decreases-loop-y l = l.table.head.nodes - l.j
