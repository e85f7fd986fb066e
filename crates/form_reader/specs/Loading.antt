-- What the readers of compact form answer and write: the families that their contracts cite.
use Rattle.std.specs.Prelude.{ℕ, ◌+◌, ◌≤◌, ◌<◌, List, [], ◌∷◌, ◌++◌, Bool, true, false, ◌⊎◌, ◌≡◌, length, take, drop}
use Rattle.std.specs.Prelude.{get_or, eqb, leb, None, Option, Some}
use Rattle.std.proofs.lemmas.List.Edits.{sets}
use Rattle.basis.specs.Choice.{pick}
use Rattle.forms.specs.declared.Place.{Place}
use Rattle.forms.specs.Cells.{payload, variable, BLIST, EPAIR, shape_of, token_of, arity_of}
use Rattle.forms.specs.Terms.{Term, pair, pairs, every}
use Rattle.forms.specs.Compact.{compact, elements, Item, term, into, collected, whole, items, front}
use Rattle.forms.proofs.ReadLaws.{WellFormed, AllWellFormed}

-- ---- variables in the order of first meeting

-- a variable is one of the k met before, or the next
unfoldable pub in_order : ℕ → ℕ → Bool
in_order k c = pick (variable c) (leb (payload c) k) true

-- how many are met then
unfoldable pub met_after : ℕ → ℕ → ℕ
met_after k c = pick (variable c) (pick (eqb (payload c) k) (k + 1) k) k

unfoldable pub ordered : ℕ → List ℕ → Bool
ordered k [] = true
ordered k (c ∷ cs) = pick (in_order k c) (ordered (met_after k c) cs) false

unfoldable pub met_in : ℕ → List ℕ → ℕ
met_in k [] = k
met_in k (c ∷ cs) = met_in (met_after k c) cs

-- ---- what was read

-- what stands in s from place at on
abbrev pub items_at : (ℕ → ℕ) → List ℕ → ℕ → List Item
items_at arity s at = items (token_of arity) (drop at s)

-- from at to next stand the cells of form, with variables in order, and pair cells were written for them
pub record Span (s : List ℕ) (at : ℕ) (form : List ℕ) (count : ℕ) (out : List ℕ) (to : ℕ)
    (pair-cells out' : List ℕ) (next end count' : ℕ) : Type 0 where
  pub cells : drop at s ≡ form ++ drop next s
  pub next-at : next ≡ at + length form
  pub end-at : end ≡ to + length pair-cells
  pub wrote : out' ≡ sets out to pair-cells
  pub numbers : ordered count form ≡ true
  pub known : count' ≡ met_in count form

-- the first n of the terms do not fit: there are fewer, or their pair forms, written from place to on, pass the limit
abbrev pub Unfit : (limit to n : ℕ) → List Term → Type 0
Unfit limit to n ts = n ≤ length ts → limit < to + length (every pairs (take n ts))

-- n terms were read, and their pair forms are written within the limit; or they do not fit, or variables are out of
-- order
abbrev pub FormsRan : (ℕ → ℕ) → List ℕ → ℕ → ℕ → ℕ → ℕ → List ℕ → ℕ → List ℕ → Option Place → Type 0
FormsRan arity s limit at n count out to out' (Some place) =
    (ts : List Term)
    × AllWellFormed (shape_of arity) ts
    × (length ts ≡ n)
    × Span s at (every compact ts) count out to (every pairs ts) out' place.at place.to place.count
    × (place.to ≤ limit)
FormsRan arity s limit at n count out to out' None =
    Unfit limit to n (front (items_at arity s at)) ⊎ (ordered count (drop at s) ≡ false)

-- the rest of a list, behind an element (some) or behind BLIST
abbrev pub Rest : Bool → Term → List ℕ → Type 0
Rest true u form = (e : List ℕ) → elements e u ≡ e ++ form
Rest false u form = ((e : List ℕ) → elements e u ≡ e ++ form) × (compact u ≡ BLIST ∷ form)

-- no rest of a list that fits: whatever rest stands here passes the limit
abbrev pub NoRest : (limit to : ℕ) → Bool → List Item → Type 0
NoRest limit to true is =
    (e u : Term) (js : List Item) → into e (collected is) ≡ term (pair e u) ∷ js → limit < to + length (pairs u)
NoRest limit to false is =
    (u : Term) (js : List Item) → whole (collected is) ≡ term u ∷ js → limit < to + length (pairs u)

-- the rest of a list was read, and written within the limit; or none fits, or variables are out of order
abbrev pub RestRan : (ℕ → ℕ) → List ℕ → ℕ → ℕ → Bool → ℕ → List ℕ → ℕ → List ℕ → Option Place → Type 0
RestRan arity s limit at some count out to out' (Some place) =
    (u : Term)
    × WellFormed (shape_of arity) u 0
    × (form : List ℕ)
    × Rest some u form
    × Span s at form count out to (pairs u) out' place.at place.to place.count
    × (place.to ≤ limit)
RestRan arity s limit at some count out to out' None =
    NoRest limit to some (items_at arity s at) ⊎ (ordered count (drop at s) ≡ false)

-- ---- contracts

-- the limit is one of terms and of the buffer, and n terms of one cell are within it
abbrev pub FormRoom : (s : List ℕ) (from : Place) (n limit : ℕ) (out : List ℕ) → Type 0
FormRoom s from n limit out =
    (limit ≤ 256)
    × (limit ≤ length out)
    × (from.at ≤ length s)
    × (from.count ≤ from.at)
    × (from.to + n ≤ limit)

-- EPAIR is read next
abbrev pub AtTail : List ℕ → Place → Type 0
AtTail s from = (from.at < length s) × (get_or s from.at 0 ≡ EPAIR)

-- the forms of n terms were read from a place on
abbrev pub ReadsForms : (e : ℕ) (s : List ℕ) (limit : ℕ) (from : Place) (n : ℕ) (out out' : List ℕ)
    → Option Place → Type 0
ReadsForms e s limit from n out out' r = FormsRan (arity_of e) s limit from.at n from.count out from.to out' r

-- the rest of a list was read from a place on
abbrev pub ReadsRest : (e : ℕ) (s : List ℕ) (limit : ℕ) (from : Place) (some : Bool) (out out' : List ℕ)
    → Option Place → Type 0
ReadsRest e s limit from some out out' r =
    RestRan (arity_of e) s limit from.at some from.count out from.to out' r
