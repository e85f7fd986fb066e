-- `indexing::nodes::link_fits` meets its contract.
use Rattle.indexing.proofs.NodeCases.{link-both, link-neither, link-subgoals, link-answers}
use borrow.Author.Rules.{rules}
use borrow.Author.Tests.{le-leb, lt-leb}
use mathlib.Core.Path.{◌∙◌}
use Rattle.indexing.proofs.nodes.link_fits.Goals as goal

pub returns-then-link-h-2 : goal.returns-then-link-h-2
returns-then-link-h-2 c = le-leb _ _ (search rules) ∙ link-both _ _ _ (search rules) (search rules)

pub returns-else-link-h-2 : goal.returns-else-link-h-2
returns-else-link-h-2 c = link-subgoals _ _ _ _ c.root_above.ensures (search rules) (search rules)

pub returns-then-link-h-3 : goal.returns-then-link-h-3
returns-then-link-h-3 c = link-answers _ _ _ _ c.root_above-then-link-h-3.ensures (search rules) (search rules)

pub returns-else-link-h-3 : goal.returns-else-link-h-3
returns-else-link-h-3 c = lt-leb _ _ (search rules) ∙ link-neither _ _ _ (search rules) (search rules)
