use Rattle.store.proofs.ChainMeasure.{ahead}
use Rattle.integrity.proofs.ChainCases.{Counting}
use Rattle.integrity.proofs.chains.chain_length.Given as goal

abbrev pub invariant-loop-a : goal.invariant-loop-a
invariant-loop-a l = Counting l.table l.first l.a l.count

abbrev pub decreases-loop-a : goal.decreases-loop-a
decreases-loop-a l = ahead l.table.head.answers l.a
