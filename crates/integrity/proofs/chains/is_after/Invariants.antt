use Rattle.store.proofs.ChainMeasure.{ahead}
use Rattle.integrity.proofs.ChainCases.{Searching}
use Rattle.integrity.proofs.chains.is_after.Given as goal

abbrev pub invariant-loop-b : goal.invariant-loop-b
invariant-loop-b l = Searching l.table l.first l.a l.b

abbrev pub decreases-loop-b : goal.decreases-loop-b
decreases-loop-b l = ahead l.table.head.answers l.b
