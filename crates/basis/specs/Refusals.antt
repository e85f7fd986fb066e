-- The refusals by number.
use Rattle.std.specs.Prelude.{ℕ, ◌≤◌}
use native.Mathlib.Omega.{arith}
use Rattle.basis.specs.declared.refusals.Refusal.{Refusal}
use Rattle.basis.specs.declared.refusals.Refusal.TheVariants as refusal

-- the number that a refusal is told by
abbrev pub number_of : Refusal → ℕ
number_of refusal.Header = 1
number_of refusal.Fresh = 2
number_of refusal.Term = 3
number_of refusal.Length = 4
number_of refusal.Variables = 5
number_of refusal.Predicate = 6
number_of refusal.Number = 7
number_of refusal.State = 8
number_of refusal.Records = 9
number_of refusal.Nodes = 10
number_of refusal.RecordsLeft = 11
number_of refusal.Out = 12
number_of refusal.Form = 13
number_of refusal.SourceOpen = 14
number_of refusal.SourceVariable = 15
number_of refusal.Names = 16
number_of refusal.Slots = 17
number_of refusal.Functor = 18
number_of refusal.Capacity = 19
number_of refusal.Goals = 22
number_of refusal.Listing = 23
number_of refusal.Listed = 24

-- the highest
pub number-small : (r : Refusal) → number_of r ≤ 24
number-small refusal.Header = omega arith
number-small refusal.Fresh = omega arith
number-small refusal.Term = omega arith
number-small refusal.Length = omega arith
number-small refusal.Variables = omega arith
number-small refusal.Predicate = omega arith
number-small refusal.Number = omega arith
number-small refusal.State = omega arith
number-small refusal.Records = omega arith
number-small refusal.Nodes = omega arith
number-small refusal.RecordsLeft = omega arith
number-small refusal.Out = omega arith
number-small refusal.Form = omega arith
number-small refusal.SourceOpen = omega arith
number-small refusal.SourceVariable = omega arith
number-small refusal.Names = omega arith
number-small refusal.Slots = omega arith
number-small refusal.Functor = omega arith
number-small refusal.Capacity = omega arith
number-small refusal.Goals = omega arith
number-small refusal.Listing = omega arith
number-small refusal.Listed = omega arith
