-- `is_converter_edition` meets its contract, one case to each side of its test.
use borrow.Author.Tests.{eq-eqb, ne_eqb}
use Rattle.forms.specs.Converting.{converter_edition}
use Rattle.forms.proofs.is_converter_edition.Goals as goal

pub returns-then-edition-eq1 : goal.returns-then-edition-eq1
unfolding converter_edition
returns-then-edition-eq1 c = simp (eq-eqb _ _ c.if-edition-eq1.true)

pub returns-else-edition-eq1 : goal.returns-else-edition-eq1
unfolding converter_edition
returns-else-edition-eq1 c = simp (ne_eqb _ _ c.if-edition-eq1.false)
