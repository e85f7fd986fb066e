use Rattle.sources.proofs.NameCases.{Rest}
use Rattle.sources.proofs.names.form_named.Given as goal

abbrev pub invariant-loop-x : goal.invariant-loop-x
invariant-loop-x l = Rest l.form l.x-index
