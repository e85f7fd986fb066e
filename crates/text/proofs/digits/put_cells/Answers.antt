-- `put_cells` meets its contract: the cells passed are put, nine bytes for each.
use native.Mathlib.Omega.{arith}
use lib.ListN.{get_or}
use Rattle.text.proofs.DigitsLaws.{cell-length, cells-next, cells-none}
use Rattle.text.proofs.digits.put_cells.Goals as goal

pub loop-cell-init : goal.loop-cell-init
loop-cell-init c = (cells-none _ _ (omega arith), omega arith)

pub loop-cell-preserved : goal.loop-cell-preserved
loop-cell-preserved c =
    let L = c.loop-cell in
    let a = c.args in
    let v = get_or a.cells.now L.cell-index 0 in
    let p = c.put_field-end.ensures in (
      cells-next a.cells.now a.text.now _ _ a.at L.cell-index _ _ (omega arith) L.invariant.0 p,
      omega (arith, p.0, cell-length v (omega (arith, c.type_inv.cells L.cell-index))),
    )
