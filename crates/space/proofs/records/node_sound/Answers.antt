-- `space::records::node_sound` meets its contract.
use mathlib.Core.Path.{sym, ◌∙◌}
use Rattle.basis.proofs.Tests.{told}
use Rattle.space.proofs.JudgingCases.{node-halves, node-unsound-below}
use Rattle.space.proofs.records.node_sound.Goals as goal

pub returns-then-branches : goal.returns-then-branches
returns-then-branches c = c.rises.ensures ∙ node-halves _ _ _ _ (told c.branches.ensures c.if-branches.true)

pub returns-else-branches : goal.returns-else-branches
returns-else-branches c = c.if-branches.false ∙ sym (node-unsound-below _ _ _ _ (told c.branches.ensures c.if-branches.false))
