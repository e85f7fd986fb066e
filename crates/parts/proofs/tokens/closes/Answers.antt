-- `closes` meets its contract, one case to each side of its test.
use borrow.Author.Tests.{eq-eqb, ne_eqb}
use Rattle.parts.specs.Segments.{closing}
use Rattle.parts.proofs.tokens.closes.Goals as goal

pub returns-then-c-eq-ELIST : goal.returns-then-c-eq-ELIST
unfolding closing
returns-then-c-eq-ELIST c = simp (eq-eqb _ _ c.if-c-eq-ELIST.true)

pub returns-else-c-eq-ELIST : goal.returns-else-c-eq-ELIST
unfolding closing
returns-else-c-eq-ELIST c = simp (ne_eqb _ _ c.if-c-eq-ELIST.false)
