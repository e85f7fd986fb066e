use Prim.Native.Nat.{◌-◌}
use Rattle.forms.specs.Cells.{arity_of}
use Rattle.pair_reader.proofs.PairTurns.{TermsTurn}
use Rattle.pair_reader.proofs.terms.Given as goal

abbrev pub invariant-loop-at : goal.invariant-loop-at
invariant-loop-at l = TermsTurn (arity_of l.edition) l.s 0 l.n l.initial.vars 0 l.initial.out 0 l.vars l.out l.at (l.n - l.at) 0 l.at
