use Rattle.pairing.proofs.NeedLaws.{Comparing}
use Rattle.pairing.proofs.counting.earlier.Given as goal

abbrev pub invariant-loop-i : goal.invariant-loop-i
invariant-loop-i l = Comparing l.space l.x l.asked.pairs.now l.asked.copies.now l.own l.walk.at l.walk.first l.walk.form l.i l.e
