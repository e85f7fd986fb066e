-- `indexing::nodes::root_above` meets its contract.
use Rattle.indexing.proofs.NodeCases.{climb-begin, climb-ended, climb-falls, climb-on}
use borrow.Author.Rules.{rules}
use native.Mathlib.Omega.{arith}
use Rattle.indexing.proofs.nodes.root_above.Goals as goal

pub loop-root-init : goal.loop-root-init
loop-root-init c = climb-begin _ _ _ c.requires.0.1

pub node_in-y-requires : goal.node_in-y-requires
node_in-y-requires c = (c.requires.0.0, omega (arith, c.loop-root.invariant.lower, c.requires.0.1))

pub returns-then-y-root : goal.returns-then-y-root
returns-then-y-root c = climb-ended _ _ _ c.loop-root.invariant c.node_in-y.result c.node_in-y.ensures (search rules)

pub loop-root-smaller : goal.loop-root-smaller
loop-root-smaller c = climb-falls _ _ _ c.loop-root.invariant c.node_in-y.result c.node_in-y.ensures c.requires.1 (search rules)

pub loop-root-preserved : goal.loop-root-preserved
loop-root-preserved c = climb-on _ _ _ c.loop-root.invariant c.node_in-y.result c.node_in-y.ensures c.requires.1 (search rules)
