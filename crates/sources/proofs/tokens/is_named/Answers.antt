-- `sources::tokens::is_named` meets its contract, one case to each side of its test.
use borrow.Author.Tests.{eq-eqb, ne_eqb}
use Rattle.carrying.specs.Recoding.{name_fits}
use Rattle.sources.proofs.tokens.is_named.Goals as goal

pub returns-then-x-ne4 : goal.returns-then-x-ne4
unfolding name_fits
returns-then-x-ne4 c = simp (ne_eqb _ _ c.if-x-ne4.true)

pub returns-else-x-ne4 : goal.returns-else-x-ne4
unfolding name_fits
returns-else-x-ne4 c = simp (eq-eqb _ _ c.if-x-ne4.false)
