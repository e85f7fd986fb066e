-- Cells stored one after another.
use Prim.Native.Nat.{ℕ, suc, ◌+◌, ◌<◌}
use mathlib.Core.List.{List, [], ◌∷◌, ◌++◌}
use mathlib.Core.Path.{◌≡◌, ap, ◌∙◌}
use native.Mathlib.Omega.{arith}
use native.Mathlib.Nat.{add-suc, suc-add, add-zero}
use lib.ListN.{length, take, drop, set}
use lib.Seq.{sets, set_split, drop_at, length-take-le}

-- two runs of stores, one behind the other
pub sets-append : (xs ys l : List ℕ) (i : ℕ) → sets l i (xs ++ ys) ≡ sets (sets l i xs) (i + length xs) ys
sets-append [] ys l i = rw add-zero
sets-append (x ∷ xs) ys l i = rw (sets-append xs ys (set l i x) (suc i), suc-add, ← add-suc)

-- what stands from the place of a store on
pub drop-written : (a : List ℕ) (i x : ℕ) → i < length a → drop i (set a i x) ≡ x ∷ drop (suc i) a
drop-written a i x h = ap (drop i) (set_split a i x h) ∙ drop_at (take i a) (x ∷ drop (suc i) a) i (length-take-le i a (omega arith))
