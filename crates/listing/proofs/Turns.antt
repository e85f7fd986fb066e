-- The turns of the code's loops: what is left to look at gives what the whole gives.
use Rattle.std.specs.Prelude.{Some, None, Ok, Err}
use Prim.Native.Nat.{ℕ, zero, suc, ◌+◌, ◌-◌, ◌≤◌, ◌<◌}
use mathlib.Core.Bool.{Bool, true, false}
use mathlib.Core.List.{List, ◌++◌}
use mathlib.Core.Path.{◌≡◌, refl, sym, ap, ◌∙◌}
use native.Mathlib.Omega.{arith}
use native.Mathlib.Numerals.{add-one}
use lib.ListN.{length, drop, get_or, length-append, get_or-append, drop_of_length-le}
use lib.Seq.{drop-cons, get_or-append-add}
use lib.Dec.{eqb, leb, ltb}
use borrow.Author.Tests.{ltb-true, ltb-false, le-leb, lt-leb}
use Rattle.basis.specs.Choice.{pick}
use Rattle.basis.proofs.Cases.{by_cases}
use Rattle.forms.specs.Cells.{tag}
use Rattle.forms.specs.declared.Unwritten.TheVariants.{Short}
use Rattle.listing.specs.declared.Spot.{Spot}
use Rattle.listing.specs.Listing.{variable_cells, alphabet, offered, listing_out, listed_cells}
use Rattle.listing.specs.Steps.{arguments_in, passed, allowed, leads_to, any_cell, sum_reached, sums_below, is_sum, terms_fit, can_go_on, first_of}
use Rattle.listing.specs.Clauses.{letter_at, fits_by, goes_on_by, Offers}
use Rattle.listing.proofs.Numbers.{variables-length}
use Rattle.listing.proofs.Sums.{sums-get}

-- ---- a sum that is reached

module _ (e t : ℕ) (sums : List Bool) (symbols : List ℕ) where
  module _ (i : ℕ) (inside : i < length symbols) where
    reached-step : (b : Bool) → leads_to (arguments_in e (get_or symbols i 0)) t sums ≡ b
        → sum_reached e t sums (drop i symbols) ≡ pick b true (sum_reached e t sums (drop (suc i) symbols))
    unfolding sum_reached any_cell
    reached-step b q = ap (λ (l : List ℕ). any_cell (λ c. leads_to (arguments_in e c) t sums) l) (drop-cons symbols i 0 inside) ∙ rw q

    pub reached-here : (a : ℕ) → a ≡ arguments_in e (get_or symbols i 0) → leads_to a t sums ≡ true → true ≡ sum_reached e t sums (drop i symbols)
    reached-here a z h = sym (reached-step true (ap (λ (x : ℕ). leads_to x t sums) (sym z) ∙ h))

    pub reached-later : (a : ℕ) → a ≡ arguments_in e (get_or symbols i 0) → leads_to a t sums ≡ false
        → sum_reached e t sums (drop i symbols) ≡ sum_reached e t sums (drop (i + 1) symbols)
    reached-later a z h = rw add-one (reached-step false (ap (λ (x : ℕ). leads_to x t sums) (sym z) ∙ h))

  pub reached-none : (i : ℕ) → length symbols ≤ i → false ≡ sum_reached e t sums (drop i symbols)
  unfolding sum_reached any_cell
  reached-none i h = rw (drop_of_length-le symbols h)

-- ---- the cells in their order

variables-get : (v n k : ℕ) → k < n → get_or (variable_cells v n) k 0 ≡ tag 1 (v + k)
unfolding variable_cells
variables-get v zero k h = absurd (omega arith)
variables-get v (suc n) zero h = omega arith
variables-get v (suc n) (suc k) h = variables-get (suc v) n k (omega arith) ∙ omega arith

pub alphabet-length : (s : ℕ) (symbols : List ℕ) → length (alphabet s symbols) ≡ length symbols + s
unfolding alphabet
alphabet-length s symbols = length-append symbols (variable_cells 0 s) ∙ omega (arith, variables-length 0 s)

pub alphabet-get : (s : ℕ) (symbols : List ℕ) (j : ℕ) → j < length symbols + s → get_or (alphabet s symbols) j 0 ≡ letter_at symbols j
unfolding alphabet letter_at
alphabet-get s symbols j h = by_cases (ltb j (length symbols)) symbol other
  where
    symbol : ltb j (length symbols) ≡ true → get_or (symbols ++ variable_cells 0 s) j 0 ≡ pick (ltb j (length symbols)) (get_or symbols j 0) (tag 1 (j - length symbols))
    symbol q = rw q (get_or-append symbols (variable_cells 0 s) 0 j (ltb-true _ _ q))

    other : ltb j (length symbols) ≡ false → get_or (symbols ++ variable_cells 0 s) j 0 ≡ pick (ltb j (length symbols)) (get_or symbols j 0) (tag 1 (j - length symbols))
    other q =
        let l : length symbols ≤ j = ltb-false _ _ q in
        let k : ℕ = j - length symbols in
        let z : j ≡ length symbols + k = omega arith in
        rw q (ap (λ (i : ℕ). get_or (symbols ++ variable_cells 0 s) i 0) z ∙ get_or-append-add symbols (variable_cells 0 s) k 0 ∙ variables-get 0 s k (omega arith) ∙ omega arith)

-- ---- the choice of a cell

-- by the table of sums below 8 as by the sums
pub goes_by : (e : ℕ) (symbols : List ℕ) (sums : List Bool) (p : Spot) (n c : ℕ) → n < 8 → sums ≡ sums_below e symbols 8
    → goes_on_by e sums p n c ≡ can_go_on e symbols p n c
unfolding goes_on_by can_go_on fits_by terms_fit
goes_by e symbols sums p n c h z = ap (λ (b : Bool). pick (allowed p c) b false) (go (passed e p c).due)
  where
    table : (d : ℕ) → (b : Bool) → eqb d 0 ≡ b → get_or (sums_below e symbols 8) (n - d) false ≡ is_sum e symbols (n - d)
    table d b q = sums-get e symbols 8 (n - d) (omega arith)

    go : (d : ℕ) → pick (eqb d 0) (eqb n 0) (pick (leb d n) (get_or sums (n - d) false) false) ≡ pick (eqb d 0) (eqb n 0) (pick (leb d n) (is_sum e symbols (n - d)) false)
    go d = rw (z, table d (eqb d 0) refl)

module _ (e s : ℕ) (symbols : List ℕ) (sums : List Bool) (p : Spot) (n : ℕ) (few : n < 8) (sound : sums ≡ sums_below e symbols 8) where
  module _ (j c : ℕ) (inside : j < length symbols + s) (letter : c ≡ letter_at symbols j) where
    choice-step : (b : Bool) → goes_on_by e sums p n c ≡ b
        → first_of (can_go_on e symbols p n) (drop j (alphabet s symbols)) ≡ pick b (Some c) (first_of (can_go_on e symbols p n) (drop (suc j) (alphabet s symbols)))
    unfolding first_of
    choice-step b q =
        let z : get_or (alphabet s symbols) j 0 ≡ c = alphabet-get s symbols j inside ∙ sym letter in
        let l : j < length (alphabet s symbols) = omega (arith, alphabet-length s symbols) in
        ap (first_of (can_go_on e symbols p n)) (drop-cons (alphabet s symbols) j 0 l)
        ∙ rw (z, sym (goes_by e symbols sums p n c few sound) ∙ q)

    pub choice-here : goes_on_by e sums p n c ≡ true → Some c ≡ first_of (can_go_on e symbols p n) (drop j (alphabet s symbols))
    choice-here q = sym (choice-step true q)

    pub choice-later : goes_on_by e sums p n c ≡ false
        → first_of (can_go_on e symbols p n) (drop j (alphabet s symbols)) ≡ first_of (can_go_on e symbols p n) (drop (j + 1) (alphabet s symbols))
    choice-later q = rw add-one (choice-step false q)

pub choice-none : (e s : ℕ) (symbols : List ℕ) (p : Spot) (n j : ℕ) → length symbols + s ≤ j
    → None ≡ first_of (can_go_on e symbols p n) (drop j (alphabet s symbols))
unfolding first_of
choice-none e s symbols p n j h =
    let l : length (alphabet s symbols) ≤ j = omega (arith, alphabet-length s symbols) in
    rw (drop_of_length-le (alphabet s symbols) l)

-- ---- what is offered

module _ (t : List ℕ) (s : ℕ) (out : List ℕ) where
  pub offers-short : length out < s → Offers (Some t) s out (Err (Short s)) out
  unfolding offered listing_out
  offers-short l = rw (lt-leb s (length out) l) (refl, refl)

  pub offers-cells : s ≤ length out → (out' : List ℕ) → out' ≡ t ++ drop s out → Offers (Some t) s out (Ok (Some s)) out'
  unfolding offered listing_out listed_cells
  offers-cells l out' w = rw (le-leb s (length out) l) (refl, w)

pub offers-end : (s : ℕ) (out : List ℕ) → Offers None s out (Ok None) out
unfolding offered listing_out
offers-end s out = (refl, refl)
