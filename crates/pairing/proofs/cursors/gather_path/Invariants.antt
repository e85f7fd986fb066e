use Rattle.pairing.proofs.GatherLaws.{Gathering}
use Rattle.pairing.proofs.cursors.gather_path.Given as goal

abbrev pub invariant-loop-at : goal.invariant-loop-at
invariant-loop-at l = Gathering l.space l.end l.initial.cells l.cells l.n l.at
