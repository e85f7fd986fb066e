-- `arity_of` meets its contract, one case to each side of its test.
use borrow.Author.Tests.{eq-eqb, ne_eqb}
use Rattle.forms.specs.Cells.{arity_of}
use Rattle.forms.proofs.arity_of.Goals as goal

pub returns-then-edition-eq1 : goal.returns-then-edition-eq1
unfolding arity_of
returns-then-edition-eq1 c = simp (eq-eqb _ _ c.if-edition-eq1.true) c.wide.ensures.0

pub returns : goal.returns
unfolding arity_of
returns c = simp (ne_eqb _ _ c.if-edition-eq1.false) c.wide-2.ensures.0
