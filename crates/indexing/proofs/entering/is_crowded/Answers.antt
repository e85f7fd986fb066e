-- `indexing::entering::is_crowded` meets its contract.
use Rattle.indexing.proofs.NodeCases.{fit-named}
use Rattle.indexing.proofs.EnterCases.{passing-begin, passing-full, passing-on, passing-ended}
use Rattle.space.proofs.HeaderLaws.{bounds-nodes}
use borrow.Author.Rules.{rules}
use native.Mathlib.Omega.{arith}
use Rattle.indexing.proofs.entering.is_crowded.Goals as goal

pub node_in-child-requires : goal.node_in-child-requires
node_in-child-requires c = (bounds-nodes _ _ c.requires.0.0, c.requires.1)

pub loop-child-init : goal.loop-child-init
loop-child-init c = passing-begin _ _ c.node_in-child.result c.node_in-child.ensures (fit-named c.args.space.now c.args.h _ c.requires.0 c.requires.1 _ c.node_in-child.ensures).child-within

pub overflow_add-count : goal.overflow_add-count
overflow_add-count c = omega (arith, c.loop-child.invariant.few)

pub returns-then-count-gt-FEW_CHILDREN : goal.returns-then-count-gt-FEW_CHILDREN
returns-then-count-gt-FEW_CHILDREN c = passing-full _ _ c.loop-child.invariant (search rules) (omega arith)

pub node_in-child-requires-in-loop-child : goal.node_in-child-requires-in-loop-child
node_in-child-requires-in-loop-child c = (bounds-nodes _ _ c.requires.0.0, c.loop-child.invariant.within)

pub loop-child-smaller : goal.loop-child-smaller
loop-child-smaller c = omega arith

pub loop-child-preserved : goal.loop-child-preserved
loop-child-preserved c = passing-on _ _ c.loop-child.invariant (search rules) (omega arith) c.node_in-child-in-loop-child.result c.node_in-child-in-loop-child.ensures (fit-named c.args.space.now c.args.h _ c.requires.0 c.loop-child.invariant.within _ c.node_in-child-in-loop-child.ensures).sibling-within

pub returns : goal.returns
returns c = passing-ended _ _ c.loop-child.invariant (search rules)
