-- `decode` meets its contract: the cells passed are read.
use native.Mathlib.Omega.{arith}
use lib.ListN.{length-set}
use Rattle.marshalling.proofs.BytesLaws.{cells-next, cells-all}
use Rattle.marshalling.proofs.decode.Goals as goal

pub loop-i-preserved : goal.loop-i-preserved
loop-i-preserved c = (cells-next _ _ _ _ _ (omega arith) (omega arith) c.loop-i.invariant.0 (omega (arith, c.from_le_bytes.ensures)), simp length-set c.loop-i.invariant.1)

pub returns : goal.returns
returns c = cells-all c.args.bytes.now c.args.cells.now c.loop-i.cells c.loop-i.i c.args.n c.loop-i.invariant.0 (omega arith) (omega arith)
