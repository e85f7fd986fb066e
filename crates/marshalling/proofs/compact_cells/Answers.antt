-- `compact_cells` meets its contract: over 256 cells nothing is read.
use native.Mathlib.Omega.{arith}
use Rattle.marshalling.proofs.ExportLaws.{compact-long}
use Rattle.marshalling.proofs.compact_cells.Goals as goal

pub returns : goal.returns
returns c = compact-long _ _ _ _ (omega (arith, c.requires)) (omega arith)
