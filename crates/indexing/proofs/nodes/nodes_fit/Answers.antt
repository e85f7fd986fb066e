-- `indexing::nodes::nodes_fit` meets its contract.
use Rattle.indexing.proofs.NodeCases.{nodes-begin, nodes-on, nodes-failed, nodes-ended}
use Rattle.basis.proofs.Tests.{told}
use native.Mathlib.Omega.{arith}
use Rattle.indexing.proofs.nodes.nodes_fit.Goals as goal

pub loop-n-init : goal.loop-n-init
loop-n-init c = nodes-begin _

pub node_fits-requires : goal.node_fits-requires
node_fits-requires c = (c.requires, omega arith, c.loop-n.invariant)

pub returns-then-not-node_fits : goal.returns-then-not-node_fits
returns-then-not-node_fits c = nodes-failed _ _ c.loop-n.n (omega arith) (told c.node_fits.ensures c.if-not-node_fits.true)

pub loop-n-preserved : goal.loop-n-preserved
loop-n-preserved c = nodes-on _ _ c.loop-n.invariant (told c.node_fits.ensures c.if-not-node_fits.false)

pub returns : goal.returns
returns c = nodes-ended _ _ c.loop-n.n (omega arith) (omega arith) c.loop-n.invariant
