-- `indexing::build_in` meets its contract.
use Rattle.indexing.proofs.BuildCases.{nodes-unfit, nodes-fitting}
use Rattle.basis.proofs.Tests.{told}
use Rattle.indexing.proofs.build_in.Goals as goal

pub build_on-requires : goal.build_on-requires
build_on-requires c = (c.requires, told c.nodes_fit.ensures c.if-nodes_fit.true)

pub returns-then-nodes_fit : goal.returns-then-nodes_fit
returns-then-nodes_fit c = nodes-fitting c.args.space.now c.args.index.now c.args.h (told c.nodes_fit.ensures c.if-nodes_fit.true) c.build_on.result _ c.build_on.ensures

pub returns : goal.returns
returns c = nodes-unfit c.args.space.now c.args.index.now c.args.h (told c.nodes_fit.ensures c.if-nodes_fit.false)
