use Rattle.sources.specs.Records.{Brings}
use Rattle.sources.proofs.comparing.brought.Given as goal

abbrev pub invariant-loop-i : goal.invariant-loop-i
invariant-loop-i l = Brings l.source l.x l.i l.sum
