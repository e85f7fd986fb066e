-- `need` meets its contract: the sum and the need of the cells left give the whole.
use native.Mathlib.Omega.{arith}
use lib.ListN.{get_or}
use Rattle.instances.proofs.InstanceLaws.{width-limit, need-step, need-end}
use Rattle.instances.proofs.need.Goals as goal

pub width_of-sum-requires : goal.width_of-sum-requires
width_of-sum-requires c = c.requires.1 c.loop-c.c-index (omega arith)

pub overflow_add-sum : goal.overflow_add-sum
overflow_add-sum c =
    omega (arith, c.width_of-sum.ensures, width-limit c.args.starts.now (get_or c.args.cells.now c.loop-c.c-index 0) (c.requires.1 c.loop-c.c-index (omega arith)))

pub loop-c-preserved : goal.loop-c-preserved
loop-c-preserved c =
    let l = width-limit c.args.starts.now (get_or c.args.cells.now c.loop-c.c-index 0) (c.requires.1 c.loop-c.c-index (omega arith)) in
    let s = need-step c.args.starts.now c.args.cells.now c.loop-c.c-index (omega arith) in
    (omega (arith, c.width_of-sum.ensures, l), omega (arith, c.width_of-sum.ensures, s, c.loop-c.invariant.1))

pub returns : goal.returns
returns c = omega (arith, c.loop-c.invariant.1, need-end c.args.starts.now c.args.cells.now c.loop-c.c-index (omega arith))
