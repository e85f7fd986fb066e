use mathlib.Core.Path.{◌≡◌}
use lib.ListN.{length}
use Rattle.trie.specs.Index.{search_indexed}
use Rattle.pairing.specs.Pairing.{to_come}
use Rattle.join.proofs.EnterLaws.{Entering}
use Rattle.join.proofs.entering.enter.Given as goal

abbrev pub invariant-loop-n : goal.invariant-loop-n
invariant-loop-n l = Entering (search_indexed l.asked.index.now l.initial.y.h.nodes) l.initial.space l.initial.y l.s l.asked.pairs.now l.asked.copies.now l.space l.y l.walk.at l.walk.first l.walk.form × (length l.space ≡ length l.initial.space)

abbrev pub decreases-loop-n : goal.decreases-loop-n
decreases-loop-n l = length (to_come l.space l.y l.asked.pairs.now l.asked.copies.now l.walk.at l.walk.first)
