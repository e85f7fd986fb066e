-- The longest forms: of terms without variables, pairs nested in head position with a tail that is not [].
use Prim.Native.Nat.{ℕ, suc, zero, ◌+◌, ◌*◌}
use mathlib.Core.List.{List, [], ◌∷◌, ◌++◌, append-nil, map}
use mathlib.Core.Bool.{true, false}
use mathlib.Core.Path.{◌≡◌, refl, ◌∙◌}
use native.Mathlib.Omega.{arith}
use lib.ListN.{length, length-append}
use Rattle.forms.specs.Cells.{tag, variable, shape_of}
use Rattle.forms.specs.Terms.{Term, cell, pair, pairs, every, are_terms}
use Rattle.forms.specs.Numbering.{seen, met, renamed, numbered}
use Rattle.forms.specs.Compact.{compact, compact_form}
use Rattle.forms.proofs.ReadLaws.{WellFormed}
use Rattle.forms.proofs.ExactLaws.{pairs-terms}
use Rattle.forms.proofs.RoundTrip.{form-every}

-- ---- no variables

-- none of the cells is a variable
abbrev pub Constant : List ℕ → Type 0
Constant [] = Unit {0}
Constant (c ∷ cs) = (variable c ≡ false) × Constant cs

pub constant-append : (xs ys : List ℕ) → Constant xs → Constant ys → Constant (xs ++ ys)
constant-append [] ys h k = k
constant-append (x ∷ xs) ys h k = (h.0, constant-append xs ys h.1 k)

pub constant-met : (cs vs : List ℕ) → Constant cs → met vs cs ≡ vs
unfolding met seen
constant-met [] vs h = refl
constant-met (c ∷ cs) vs h = rw h.0 (constant-met cs vs h.1)

constant-renamed : (cs vs : List ℕ) → Constant cs → map (renamed vs) cs ≡ cs
unfolding renamed
constant-renamed [] vs h = refl
constant-renamed (c ∷ cs) vs h = rw (h.0, constant-renamed cs vs h.1)

-- such cells are their own numbered form
pub constant-numbered : (cs : List ℕ) → Constant cs → numbered cs ≡ cs
unfolding numbered
constant-numbered cs h = constant-renamed cs (met [] cs) h

module _ (arity : ℕ → ℕ) (t : Term) (well : WellFormed (shape_of arity) t 0) where
  alone : every pairs (t ∷ []) ≡ pairs t
  unfolding every
  alone = append-nil (pairs t)

  pub one-terms : are_terms arity 1 (pairs t) ≡ true
  one-terms = rw alone at (pairs-terms arity 1 (t ∷ []) (well, tt) refl)

  pub one_form : Constant (pairs t) → compact_form arity (pairs t) ≡ compact t
  unfolding every
  one_form h = (rw alone at (form-every arity (t ∷ []) (well, tt) (rw alone (constant-numbered (pairs t) h)))) ∙ append-nil (compact t)

-- ---- nested pairs

-- an integer in j pairs, each of which ends in another integer: [..[0|0]..|0]
unfoldable pub nested : ℕ → Term
nested zero = cell (tag 3 0)
nested (suc j) = pair (nested j) (cell (tag 3 0))

pub nested-well-formed : (arity : ℕ → ℕ) (j : ℕ) → WellFormed (shape_of arity) (nested j) 0
unfolding nested shape_of
nested-well-formed arity zero = refl
nested-well-formed arity (suc j) = (refl, nested-well-formed arity j, refl)

pub nested-constant : (j : ℕ) → Constant (pairs (nested j))
unfolding nested pairs
nested-constant zero = (refl, tt)
nested-constant (suc j) = (refl, constant-append (pairs (nested j)) (tag 3 0 ∷ []) (nested-constant j) (refl, tt))

pub nested-pairs : (j : ℕ) → length (pairs (nested j)) ≡ 2 * j + 1
unfolding nested pairs
nested-pairs zero = refl
nested-pairs (suc j) = simp length-append (omega (arith, nested-pairs j))

pub nested-compact : (j : ℕ) → length (compact (nested j)) ≡ 3 * j + 1
unfolding nested compact
nested-compact zero = refl
nested-compact (suc j) = simp length-append (omega (arith, nested-compact j))
