-- What the words' functions ask of an answer: that a refusal in it is told, which a `Refusal` always is and a number up
-- to 24, and that its count of cells is small.
use Rattle.std.specs.Prelude.{ℕ, ◌^◌, ◌<◌, Result, Ok, Err, ◌≡◌}
use Rattle.forms.specs.declared.Unwritten.{Unwritten}
use Rattle.forms.specs.declared.Unwritten.TheVariants.{Refused, Short}
use Rattle.store.specs.declared.CallAnswer.{CallAnswer}
use Rattle.store.specs.declared.CallAnswer.TheVariants as call

-- ---- what an answer is refused by is told

abbrev pub ErrTold : {A R : Type 0} → (R → Type 0) → Result A R → Type 0
ErrTold {R = R} told answer = (r : R) → answer ≡ Err r → told r

abbrev pub CallTold : {R : Type 0} → (R → Type 0) → CallAnswer R → Type 0
CallTold {R = R} told answer = (r : R) → answer ≡ call.Refused r → told r

abbrev pub UnwrittenTold : {A R : Type 0} → (R → Type 0) → Result A (Unwritten R) → Type 0
UnwrittenTold {R = R} told answer = (r : R) → answer ≡ Err (Refused r) → told r

-- ---- the cells that load and instance wrote, or that out would need

abbrev pub CellsBounded : {R : Type 0} → Result ℕ (Unwritten R) → Type 0
CellsBounded (Ok n) = n < 2 ^ 32
CellsBounded (Err (Short n)) = n < 2 ^ 32
CellsBounded (Err (Refused r)) = Unit {0}
