use Rattle.indexing.proofs.NodeCases.{Climbing}
use Rattle.space.specs.Layout.{sizes, node_in}
use Rattle.indexing.proofs.nodes.root_above.Given as goal

abbrev pub invariant-loop-root : goal.invariant-loop-root
invariant-loop-root l = Climbing (node_in sizes l.space) l.nodes l.n l.root

abbrev pub decreases-loop-root : goal.decreases-loop-root
decreases-loop-root l = l.root
