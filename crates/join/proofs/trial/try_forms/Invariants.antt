use lib.ListN.{length}
use Rattle.trie.specs.Index.{search_indexed}
use Rattle.pairing.specs.Pairing.{to_come}
use Rattle.join.proofs.TrialLoop.{Trying}
use Rattle.join.proofs.trial.try_forms.Given as goal

abbrev pub invariant-loop-n : goal.invariant-loop-n
invariant-loop-n l = Trying (search_indexed l.asked.index.now l.x.h.nodes) l.initial.space l.x l.free l.root l.asked.pairs.now l.asked.copies.now l.space l.walk.at l.walk.first l.walk.form l.y

abbrev pub decreases-loop-n : goal.decreases-loop-n
decreases-loop-n l = length (to_come l.initial.space l.x l.asked.pairs.now l.asked.copies.now l.walk.at l.walk.first)
