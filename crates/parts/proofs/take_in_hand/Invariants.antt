use Rattle.parts.proofs.Taking.{Taking}
use Rattle.parts.proofs.take_in_hand.Given as goal

abbrev pub invariant-loop-at : goal.invariant-loop-at
invariant-loop-at l = Taking l.edition l.m l.form l.initial.held l.held l.at l.begun l.due l.depth
