use Prim.Native.Nat.{◌+◌, ◌*◌}
use mathlib.Core.Path.{◌≡◌}
use lib.ListN.{take}
use Rattle.text.specs.Digits.{cell_texts, Puts}
use Rattle.text.proofs.digits.put_cells.Given as goal

abbrev pub invariant-loop-cell : goal.invariant-loop-cell
invariant-loop-cell l =
    Puts l.at (cell_texts (take l.cell-index l.cells)) l.initial.text l.end l.text × (l.end ≡ l.at + 9 * l.cell-index)
