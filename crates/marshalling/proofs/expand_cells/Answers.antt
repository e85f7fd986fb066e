-- `expand_cells` meets its contract: over 383 tokens nothing is read.
use native.Mathlib.Omega.{arith}
use Rattle.marshalling.proofs.ExportLaws.{expand-long}
use Rattle.marshalling.proofs.expand_cells.Goals as goal

pub returns : goal.returns
returns c = expand-long _ _ _ (omega (arith, c.requires)) (omega arith)
