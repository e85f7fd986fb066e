use mathlib.Core.Path.{◌≡◌}
use Rattle.pairing.proofs.FindLaws.{Finding}
use Rattle.pairing.specs.Pairing.{hand, forms_from}
use lib.ListN.{length}
use Rattle.pairing.proofs.cursors.find_match.Given as goal

abbrev pub invariant-loop-b : goal.invariant-loop-b
invariant-loop-b l = Finding l.space l.x l.asked.pairs.now l.asked.copies.now l.from l.first l.b l.form × (length l.second ≡ hand)

abbrev pub decreases-loop-b : goal.decreases-loop-b
decreases-loop-b l = length (forms_from l.space l.x.h l.x.second.number l.b)
