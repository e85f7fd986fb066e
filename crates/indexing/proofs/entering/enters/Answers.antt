-- `indexing::entering::enters` meets its contract.
use Rattle.indexing.proofs.NodeCases.{fit-named}
use Rattle.indexing.proofs.EnterCases.{enters_root, enters-child}
use Rattle.space.proofs.HeaderLaws.{bounds-nodes}
use mathlib.Core.Bool.{not}
use mathlib.Core.Path.{ap, ◌∙◌}
use borrow.Author.Tests.{eq-eqb}
use borrow.Author.Rules.{rules}
use native.Mathlib.Omega.{arith}
use Rattle.indexing.proofs.entering.enters.Goals as goal

pub node_in-y-requires : goal.node_in-y-requires
node_in-y-requires c = (bounds-nodes _ _ c.requires.0.0, c.requires.1)

pub returns-else-y-n : goal.returns-else-y-n
returns-else-y-n c = ap not (eq-eqb _ _ (search rules)) ∙ enters_root _ _ c.node_in-y.result c.node_in-y.ensures (search rules)

pub is_crowded-requires : goal.is_crowded-requires
is_crowded-requires c = (c.requires.0, omega (arith, c.requires.1, (fit-named c.args.space.now c.args.h _ c.requires.0 c.requires.1 _ c.node_in-y.ensures).parent-most))

pub returns-then-y-n : goal.returns-then-y-n
returns-then-y-n c = c.is_crowded.ensures ∙ enters-child _ _ c.node_in-y.result c.node_in-y.ensures (search rules)
