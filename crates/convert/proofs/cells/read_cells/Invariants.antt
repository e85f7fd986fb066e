use Rattle.forms.specs.Cells.{arity_of}
use Rattle.convert.proofs.ScanLaws.{ReadTurn}
use Rattle.convert.proofs.cells.read_cells.Given as goal

abbrev pub invariant-loop-at : goal.invariant-loop-at
invariant-loop-at l = ReadTurn (arity_of l.edition) l.m l.s l.initial.vars l.initial.form l.n l.vars l.form l.at l.due l.count
