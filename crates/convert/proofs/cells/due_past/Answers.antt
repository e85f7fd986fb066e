-- `due_past` meets its contract, one case to each shape.
use native.Mathlib.Omega.{arith}
use mathlib.Core.Path.{ap}
use Rattle.std.specs.Prelude.{Some}
use Rattle.forms.specs.Cells.{arity_of}
use Rattle.forms.proofs.ShapeLaws.{symbol-small, arity-small}
use Rattle.basis.proofs.Tests.{told}
use Rattle.convert.specs.Scans.{due_past}
use Rattle.convert.proofs.cells.due_past.Goals as goal

pub due_after-requires : goal.due_after-requires
due_after-requires c = let k = symbol-small (arity_of c.args.edition) (arity-small c.args.edition) c.args.c c.in-Symbol.k (told c.shape_of.ensures c.in-Symbol.is) in (omega arith, omega arith)

pub returns-in-Symbol : goal.returns-in-Symbol
unfolding due_past
returns-in-Symbol c =
    let e = told c.shape_of.ensures c.in-Symbol.is in
    let k = symbol-small (arity_of c.args.edition) (arity-small c.args.edition) c.args.c c.in-Symbol.k e in
    (rw e (ap Some c.due_after.ensures), omega (arith, c.due_after.ensures))

pub returns-in-Pair : goal.returns-in-Pair
unfolding due_past
returns-in-Pair c =
    let e = told c.shape_of.ensures c.in-Pair.is in
    (rw e (ap Some c.due_after-in-Pair.ensures), omega (arith, c.due_after-in-Pair.ensures))

pub returns-in-Illegal : goal.returns-in-Illegal
unfolding due_past
returns-in-Illegal c = let e = told c.shape_of.ensures c.in-Illegal.is in (rw e, tt)
