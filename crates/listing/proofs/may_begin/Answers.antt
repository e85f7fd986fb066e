-- `may_begin` meets its contract, one case to each return.
use mathlib.Core.Path.{◌∙◌}
use borrow.Author.Tests.{ne_eqb}
use Rattle.listing.specs.Clauses.{may_begin}
use Rattle.listing.proofs.Cases.{begin-first}
use Rattle.listing.proofs.may_begin.Goals as goal

pub returns-then-at-ne0 : goal.returns-then-at-ne0
unfolding may_begin
returns-then-at-ne0 c = rw (ne_eqb _ _ c.if-at-ne0.true)

pub returns-else-at-ne0 : goal.returns-else-at-ne0
returns-else-at-ne0 c = c.is_callable.ensures ∙ begin-first _ _ c.if-at-ne0.false
