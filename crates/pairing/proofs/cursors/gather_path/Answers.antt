-- `pairing::cursors::gather_path` meets its contract.
use Rattle.pairing.proofs.GatherLaws.{gathering-begun, gathered-all, gathered-root, gathering-on}
use Prim.Native.Nat.{◌+◌, ◌-◌}
use mathlib.Core.Path.{◌≡◌}
use native.Mathlib.Omega.{arith}
use borrow.Author.Rules.{rules}
use Rattle.pairing.proofs.cursors.gather_path.Goals as goal

pub loop-at-init : goal.loop-at-init
loop-at-init c = gathering-begun c.args.space.now c.args.end c.args.cells.now c.requires

pub node_in-y-requires : goal.node_in-y-requires
node_in-y-requires c = (c.requires.0.0, c.loop-at.invariant.used)

pub shape_of-cells-then-y-n : goal.shape_of-cells-then-y-n
shape_of-cells-then-y-n c = c.loop-at.invariant.size

pub returns-then-y-n : goal.returns-then-y-n
returns-then-y-n c =
    let all : c.loop-at.at - 1 + 1 ≡ c.loop-at.at = omega arith in
    rw all (gathered-root c.args.space.now c.args.end c.args.cells.now _ _ _ c.loop-at.invariant _ c.node_in-y.ensures (search rules))

pub offset_bounds-cells-at : goal.offset_bounds-cells-at
offset_bounds-cells-at c = omega (arith, c.loop-at.invariant.within)

pub bounds-cells-at : goal.bounds-cells-at
bounds-cells-at c = omega (arith, c.loop-at.invariant.within)

pub loop-at-preserved : goal.loop-at-preserved
loop-at-preserved c = gathering-on c.args.space.now c.args.end c.args.cells.now _ _ _ c.loop-at.invariant _ c.node_in-y.ensures (search rules) (search rules)

pub shape_of-cells : goal.shape_of-cells
shape_of-cells c = c.loop-at.invariant.size

pub returns : goal.returns
returns c = gathered-all c.args.space.now c.args.end c.args.cells.now _ _ _ c.loop-at.invariant c.requires (omega arith)
