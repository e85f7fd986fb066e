-- `is_constant` meets its contract, one case to each side of its test.
use borrow.Author.Tests.{eq-eqb, ne_eqb}
use Rattle.forms.specs.Cells.{constant}
use Rattle.forms.proofs.is_constant.Goals as goal

pub returns-then-kind-eq2 : goal.returns-then-kind-eq2
unfolding constant
returns-then-kind-eq2 c = simp (eq-eqb _ _ c.if-kind-eq2.true)

pub returns-else-kind-eq2 : goal.returns-else-kind-eq2
unfolding constant
returns-else-kind-eq2 c = simp (ne_eqb _ _ c.if-kind-eq2.false)
