-- `can_fit` meets its contract, one case to each return.
use mathlib.Core.Path.{◌∙◌}
use native.Mathlib.Omega.{arith}
use borrow.Author.Tests.{lt-leb}
use Rattle.listing.proofs.Cases.{fits-zero, fits-over, fits-table}
use Rattle.listing.proofs.Terms.can_fit.Goals as goal

pub returns-then-due-eq0 : goal.returns-then-due-eq0
returns-then-due-eq0 c = fits-zero _ _ _ c.if-due-eq0.true

pub returns-then-due-left : goal.returns-then-due-left
returns-then-due-left c = fits-table _ _ _ (omega arith) c.if-due-left.true

pub returns-else-due-left : goal.returns-else-due-left
returns-else-due-left c = lt-leb _ _ c.if-due-left.false ∙ fits-over _ _ _ (omega arith) c.if-due-left.false
