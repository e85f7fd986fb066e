-- `in_order` meets its contract, one case to each side of its test.
use Prim.Native.Nat.{ℕ}
use mathlib.Core.Path.{ap}
use lib.Dec.{leb}
use Rattle.basis.proofs.Tests.{told}
use Rattle.form_reader.specs.Loading.{in_order}
use Rattle.convert.proofs.cells.in_order.Goals as goal

pub returns-then-not-is_variable : goal.returns-then-not-is_variable
unfolding in_order
returns-then-not-is_variable c = simp (told c.is_variable.ensures c.if-not-is_variable.true, c.if-not-is_variable.true)

pub returns-else-not-is_variable : goal.returns-else-not-is_variable
unfolding in_order
returns-else-not-is_variable c = simp (told c.is_variable.ensures c.if-not-is_variable.false) (ap (λ (x : ℕ). leb x c.args.count) c.payload_of.ensures)
