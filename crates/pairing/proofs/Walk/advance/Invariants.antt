use Rattle.pairing.proofs.AdvanceLaws.{Advancing}
use Rattle.pairing.specs.Pairing.{forms_from}
use lib.ListN.{length}
use Rattle.pairing.proofs.Walk.advance.Given as goal

abbrev pub invariant-loop-inner : goal.invariant-loop-inner
invariant-loop-inner l = Advancing l.space l.x l.asked.pairs.now l.asked.copies.now l.initial.self.at l.initial.self.first l.self.at.outer l.self.at.inner l.self.first l.self.form

abbrev pub decreases-loop-inner : goal.decreases-loop-inner
decreases-loop-inner l = length (forms_from l.space l.x.h l.x.first.number l.self.at.outer)
