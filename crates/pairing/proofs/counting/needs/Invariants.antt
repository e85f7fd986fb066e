use lib.ListN.{length}
use Rattle.trie.specs.Index.{search_indexed}
use Rattle.pairing.specs.Pairing.{to_come}
use Rattle.pairing.proofs.NeedLaws.{Needing}
use Rattle.pairing.proofs.counting.needs.Given as goal

abbrev pub invariant-loop-n : goal.invariant-loop-n
invariant-loop-n l = Needing (search_indexed l.asked.index.now l.x.h.nodes) l.space l.x l.root l.asked.pairs.now l.asked.copies.now l.walk.at l.walk.first l.walk.form l.i l.y

abbrev pub decreases-loop-n : goal.decreases-loop-n
decreases-loop-n l = length (to_come l.space l.x l.asked.pairs.now l.asked.copies.now l.walk.at l.walk.first)
