-- `reads::starts` meets its contract.
use mathlib.Core.Path.{◌∙◌}
use borrow.Author.Rules.{rules}
use borrow.Author.Tests.{eq-eqb, lt-leb}
use Rattle.reads.proofs.ReadsCases.{starting-none, starting-above, starting-named}
use Rattle.reads.proofs.starts.Goals as goal

pub returns-then-a-eq0 : goal.returns-then-a-eq0
returns-then-a-eq0 c = eq-eqb _ _ c.if-a-eq0.true ∙ starting-none _ _ _ (search rules)

pub returns-then-a-table : goal.returns-then-a-table
returns-then-a-table c = starting-named _ _ _ (search rules) (search rules) c.answer.result c.answer.ensures

pub returns-else-a-table : goal.returns-else-a-table
returns-else-a-table c = lt-leb _ _ c.if-a-table.false ∙ starting-above _ _ _ (search rules) (search rules)
