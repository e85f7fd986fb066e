-- What the inner functions of the code answer: the families that their contracts cite.
use Rattle.std.specs.Prelude.{ℕ, ◌+◌, ◌-◌, ◌≤◌, Bool, true, false, List, ◌≡◌, length, take, drop, get_or, eqb, leb, ltb}
use Rattle.std.specs.Prelude.{Option, None, Some}
use Rattle.basis.specs.Choice.{pick}
use Rattle.forms.specs.Cells.{payload, tag, variable, callable}
use Rattle.forms.specs.Numbering.{rank}
use Rattle.listing.specs.declared.Spot.{Spot}
use Rattle.listing.specs.Listing.{alphabet, contains, Listed, Listing, offered, listing_out}
use Rattle.listing.specs.Steps.{passed, allowed, can_go_on, first_of, prefixed, first_way, next_way}
use Rattle.listing.specs.Steps.{goes, spelt}

-- at the first place an atom or a functor
unfoldable pub may_begin : ℕ → ℕ → Bool
may_begin at c = pick (eqb at 0) (callable c) true

-- the j-th cell: a symbol, or a variable
unfoldable pub letter_at : List ℕ → ℕ → ℕ
letter_at symbols j = pick (ltb j (length symbols)) (get_or symbols j 0) (tag 1 (j - length symbols))

-- the place of a cell
unfoldable pub place_in : List ℕ → ℕ → ℕ
place_in symbols c = pick (variable c) (length symbols + payload c) (rank symbols c)

-- whether there is one
unfoldable pub is_letter : ℕ → List ℕ → ℕ → Bool
is_letter s symbols c = pick (variable c) (ltb (payload c) s) (contains symbols c)

-- terms fit, and go on, by a table of sums
unfoldable pub fits_by : List Bool → ℕ → ℕ → Bool
fits_by sums due n = pick (eqb due 0) (eqb n 0) (pick (leb due n) (get_or sums (n - due) false) false)

unfoldable pub goes_on_by : ℕ → List Bool → Spot → ℕ → ℕ → Bool
goes_on_by e sums p n c = pick (allowed p c) (fits_by sums (passed e p c).due n) false

-- a term that was made in a buffer, or that there is none
unfoldable pub listed_result : Bool → List ℕ → Listed
listed_result true t = Some t
listed_result false t = None

-- ---- contracts

-- the place is one of a term of s cells
pub record RoomToFill (s : ℕ) (p : Spot) : Type 0 where
  pub within : p.at ≤ s
  pub few : p.due ≤ 8

-- the first cell, from a number on, with which a term can go on
abbrev pub ChoosesCell : (e s : ℕ) (symbols : List ℕ) (p : Spot) (from : ℕ) → Option ℕ → Type 0
ChoosesCell e s symbols p from r = r ≡ first_of (can_go_on e symbols p (s - p.at - 1)) (drop from (alphabet s symbols))

-- the cells before the place, and the first way to go on from it
abbrev pub FillsFrom : (e s : ℕ) (symbols : List ℕ) (p : Spot) (term : List ℕ) → Bool → List ℕ → Type 0
FillsFrom e s symbols p term r term' =
    (listed_result r (take s term') ≡ prefixed (take p.at term) (first_way e symbols (alphabet s symbols) p (s - p.at)))
    × (take p.at term' ≡ take p.at term)
    × (length term' ≡ length term)

-- besides, a term stands there that goes on from the place
pub record RoomToAdvance (e s : ℕ) (symbols term : List ℕ) (p : Spot) : Type 0 where
  pub room : RoomToFill s p
  pub long : length term ≡ 8
  pub letters : spelt (alphabet s symbols) (drop p.at (take s term)) ≡ true
  pub ends : goes e p (drop p.at (take s term)) ≡ true

-- the cells before the place, and the next way to go on from it
abbrev pub AdvancesFrom : (e s : ℕ) (symbols : List ℕ) (p : Spot) (term : List ℕ) → Bool → List ℕ → Type 0
AdvancesFrom e s symbols p term r term' =
    (listed_result r (take s term')
    ≡ prefixed (take p.at term) (next_way e symbols (alphabet s symbols) p (drop p.at (take s term))))
    × (take p.at term' ≡ take p.at term)
    × (length term' ≡ length term)

-- what was found is answered and written
abbrev pub Offers : Listed → (s : ℕ) (out : List ℕ) → Listing → List ℕ → Type 0
Offers f s out r out' = (r ≡ offered f s (length out)) × (out' ≡ listing_out r f out)
