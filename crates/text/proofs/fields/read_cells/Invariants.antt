use Prim.Native.Nat.{◌*◌, ◌-◌, ◌≤◌}
use mathlib.Core.Path.{◌≡◌}
use lib.ListN.{length, take}
use Rattle.text.specs.Fields.{hex_cells}
use Rattle.text.specs.Places.{rest_at, FieldEnds}
use Rattle.text.proofs.FieldsLaws.{prepend}
use Rattle.text.proofs.fields.read_cells.Given as goal

abbrev pub invariant-loop-i : goal.invariant-loop-i
invariant-loop-i l = FieldEnds l.line l.i × (9 * l.n ≤ l.i) × (length l.cells ≡ length l.initial.cells) × (hex_cells (rest_at l.line l.at) ≡ prepend (take l.n l.cells) (hex_cells (rest_at l.line l.i)))

abbrev pub decreases-loop-i : goal.decreases-loop-i
decreases-loop-i l = length l.line - l.i
