use Rattle.keeping.proofs.FindCases.{Looking}
use Rattle.keeping.proofs.searching.look_up.Given as goal

abbrev pub invariant-loop : goal.invariant-loop
invariant-loop l = Looking l.space l.nodes l.parent l.token l.slots l.slot l.counter
