-- The scan over cells of pair form that are stored as they are numbered: what is due after the cells passed, and what
-- is known of them.
use Rattle.std.specs.Prelude.{ℕ, ◌+◌, ◌*◌, ◌≤◌, ◌<◌, Option, Some, None, List, ◌≡◌, length, take, get_or}
use Rattle.forms.specs.declared.Shape.{Shape}
use Rattle.forms.specs.declared.Shape.TheVariants.{Symbol, Pair, Illegal}
use Rattle.forms.specs.Cells.{shape_of}
use Rattle.forms.specs.Due.{due_after, due_of}

-- what is due after a cell of this shape, where it stands in a term
unfoldable pub due_past : ℕ → Shape → Option ℕ
due_past due (Symbol k) = Some (due_after due k)
due_past due Pair = Some (due_after due 2)
due_past due Illegal = None

-- the first `at` cells of s were passed on the way through m terms, and so many are due
pub record Scanned (arity : ℕ → ℕ) (m : ℕ) (s : List ℕ) (at due : ℕ) : Type 0 where
  pub inside : at ≤ length s
  pub sum : due ≡ due_of arity m (take at s)
  pub few : due ≤ m + 254 * at
  pub legal : (k : ℕ) → k < at → shape_of arity (get_or s k 0) ≡ Illegal → ⊥
  pub earlier : (k : ℕ) → k < at → 0 < due_of arity m (take k s)
