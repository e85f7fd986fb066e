-- `is_allowed` meets its contract, one case to each return.
use mathlib.Core.Path.{sym, ◌∙◌}
use borrow.Author.Tests.{le-ltb}
use native.Mathlib.Omega.{arith}
use Rattle.basis.proofs.Tests.{told, true-not-false}
use Rattle.listing.proofs.Tests.{refuted, confirmed}
use Rattle.listing.proofs.Cases.{allowed-none, allowed-not, allowed-variable, allowed-other}
use Rattle.listing.proofs.is_allowed.Goals as goal
use Rattle.listing.proofs.is_allowed.Goals.{then-place-gt0, else-place-gt0}

pub returns-then-not-is_variable : goal.returns-then-not-is_variable
returns-then-not-is_variable c = elim c.if-place-gt0.branch [
  | then-place-gt0 w ↦ rw c.if-not-is_variable.true (allowed-other _ _ w.if-place-gt0.true (confirmed w.may_begin.ensures (sym w.value-is ∙ c.if-may_begin.true)) (told c.is_variable.ensures c.if-not-is_variable.true))
  | else-place-gt0 w ↦ absurd (true-not-false c.if-may_begin.true (sym (le-ltb 0 c.args.place.due w.if-place-gt0.false) ∙ sym w.value-is))
]

pub returns-else-not-is_variable : goal.returns-else-not-is_variable
returns-else-not-is_variable c = elim c.if-place-gt0.branch [
  | then-place-gt0 w ↦ allowed-variable _ _ w.if-place-gt0.true (confirmed w.may_begin.ensures (sym w.value-is ∙ c.if-may_begin.true)) (told c.is_variable.ensures c.if-not-is_variable.false) _ c.payload_of.ensures
  | else-place-gt0 w ↦ absurd (true-not-false c.if-may_begin.true (sym (le-ltb 0 c.args.place.due w.if-place-gt0.false) ∙ sym w.value-is))
]

pub returns-else-may_begin : goal.returns-else-may_begin
returns-else-may_begin c = elim c.if-place-gt0.branch [
  | then-place-gt0 w ↦ c.if-may_begin.false ∙ allowed-not _ _ w.if-place-gt0.true (refuted w.may_begin.ensures (sym w.value-is ∙ c.if-may_begin.false))
  | else-place-gt0 w ↦ c.if-may_begin.false ∙ allowed-none _ _ (omega (arith, w.if-place-gt0.false))
]
