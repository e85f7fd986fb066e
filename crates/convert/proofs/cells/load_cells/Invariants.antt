use Rattle.forms.specs.Cells.{arity_of}
use Rattle.convert.proofs.ScanLaws.{LoadTurn}
use Rattle.convert.proofs.cells.load_cells.Given as goal

abbrev pub invariant-loop-at : goal.invariant-loop-at
invariant-loop-at l = LoadTurn (arity_of l.edition) l.m l.s l.initial.cells l.n l.cells l.at l.due l.count
