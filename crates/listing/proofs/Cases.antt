-- The cases of the definitions that the code's inner functions answer by, one law to each.
use Rattle.std.specs.Prelude.{Option, Some, None, ◌||◌, ◌==◌, nat_lt, cond}
use Rattle.std.specs.List.{list_any, position, position_or_len}
use Rattle.std.specs.Option.{unwrap_or}
use Rattle.std.proofs.lemmas.List.Recursion.{is_position_or_len}
use Prim.Native.Nat.{ℕ, suc, ◌+◌, ◌-◌, ◌≤◌, ◌<◌, max}
use mathlib.Core.Bool.{Bool, true, false}
use mathlib.Core.List.{List, [], ◌∷◌}
use mathlib.Core.Path.{◌≡◌, refl, sym, ap, ◌∙◌}
use native.Mathlib.Omega.{arith}
use lib.ListN.{length, take, get_or}
use lib.Seq.{get_or-take}
use lib.Dec.{eqb, leb, ltb}
use borrow.Author.Tests.{ltb-true, ltb-false, le-leb, lt-leb, lt-ltb, le-ltb, eq-eqb, ne_eqb}
use Rattle.basis.specs.Choice.{pick}
use Rattle.basis.proofs.Cases.{by_cases}
use Rattle.forms.specs.declared.Shape.TheVariants.{Symbol, Pair, Illegal}
use Rattle.forms.specs.declared.Shape.{Shape}
use Rattle.forms.specs.Cells.{payload, tag, variable, callable, shape_of, arity_of}
use Rattle.forms.specs.Numbering.{rank}
use Rattle.forms.proofs.NumberingLaws.{rank-le}
use Rattle.listing.specs.declared.Spot.{Spot}
use Rattle.listing.specs.Listing.{legal_shape, is_symbol, contains}
use Rattle.listing.specs.Steps.{known_after, passed, allowed, leads_to}
use Rattle.listing.proofs.Tests.{both}
use Rattle.listing.specs.Clauses.{may_begin, letter_at, place_in, is_letter, fits_by, goes_on_by}

-- ---- the place of a cell among others

rank-place : (cs : List ℕ) (c : ℕ) → rank cs c ≡ position_or_len (λ y. y == c) cs
unfolding rank
rank-place cs c = is_position_or_len (λ l. rank l c) (λ y. y == c) refl (λ x xs. go (eqb x c) (rank xs c)) cs
  where
    go : (b : Bool) (n : ℕ) → pick b 0 (suc n) ≡ cond b 0 (1 + n)
    go true n = refl
    go false n = omega arith

-- the library's place, or behind the last, is the definition
pub rank-found : (cs : List ℕ) (c : ℕ) (r : Option ℕ) (n : ℕ) → r ≡ position (λ y. y == c) cs → n ≡ unwrap_or r (length cs) → n ≡ rank cs c
rank-found cs c r n p q = q ∙ ap (λ (x : Option ℕ). unwrap_or x (length cs)) p ∙ go ∙ sym (rank-place cs c)
  where
    at : ℕ
    at = position_or_len (λ y. y == c) cs

    go : unwrap_or (position (λ y. y == c) cs) (length cs) ≡ at
    go = by_cases (nat_lt at (length cs))
        (λ t. ap (λ (x : Bool). unwrap_or (cond x (Some at) None) (length cs)) t)
        (λ t. ap (λ (x : Bool). unwrap_or (cond x (Some at) None) (length cs)) t
        ∙ (let g : length cs ≤ at = ltb-false at (length cs) t in omega (arith, rank-le cs c, rank-place cs c)))

-- the library's test is the definition
pub any-contains : (cs : List ℕ) (c : ℕ) → list_any (λ y. eqb y c) cs ≡ contains cs c
unfolding contains rank
any-contains [] c = refl
any-contains (x ∷ xs) c = go (eqb x c) (any-contains xs c)
  where
    go : (b : Bool) → list_any (λ y. eqb y c) xs ≡ ltb (rank xs c) (length xs)
        → (b || list_any (λ y. eqb y c) xs) ≡ ltb (pick b 0 (suc (rank xs c))) (suc (length xs))
    go true k = sym (lt-ltb 0 (suc (length xs)) (omega arith))
    go false k = k ∙ by_cases (ltb (rank xs c) (length xs))
        (λ l. let z : rank xs c < length xs = ltb-true _ _ l in l ∙ sym (lt-ltb (suc (rank xs c)) (suc (length xs)) (omega arith)))
        (λ l. let z : length xs ≤ rank xs c = ltb-false _ _ l in l ∙ sym (le-ltb (suc (rank xs c)) (suc (length xs)) (omega arith)))

-- ---- symbols

module _ (e c : ℕ) where
  pub symbol-variable : variable c ≡ true → false ≡ is_symbol e c
  unfolding is_symbol
  symbol-variable v = rw v

  pub symbol-shape : variable c ≡ false → (q : Shape) → shape_of (arity_of e) c ≡ q → legal_shape q ≡ is_symbol e c
  unfolding is_symbol
  symbol-shape v q h = rw (v, h)

pub legal-other : (q : Shape) → (q ≡ Illegal → ⊥) → legal_shape q ≡ true
unfolding legal_shape
legal-other (Symbol k) n = refl
legal-other Pair n = refl
legal-other Illegal n = absurd (n refl)

-- ---- places

module _ (at c : ℕ) where
  pub begin-first : at ≡ 0 → callable c ≡ may_begin at c
  unfolding may_begin
  begin-first h = rw (eq-eqb at 0 h)

  pub begin-later : 0 < at → true ≡ may_begin at c
  unfolding may_begin
  begin-later h = rw (ne_eqb at 0 (λ q. omega arith))

module _ (p : Spot) (c : ℕ) where
  pub allowed-none : p.due ≡ 0 → false ≡ allowed p c
  unfolding allowed
  allowed-none h = rw (le-ltb 0 p.due (omega arith))

  pub allowed-due : allowed p c ≡ true → 0 < p.due
  unfolding allowed
  allowed-due h = ltb-true 0 p.due (both (ltb 0 p.due) _ h).0

  pub allowed-so : 0 < p.due → pick (eqb p.at 0) (callable c) true ≡ true → (variable c ≡ true → payload c ≤ p.known) → allowed p c ≡ true
  unfolding allowed
  allowed-so g b f = rw (lt-ltb 0 p.due g, b) (go (variable c) refl)
    where
      go : (b : Bool) → variable c ≡ b → pick b (leb (payload c) p.known) true ≡ true
      go true v = le-leb _ _ (f v)
      go false v = refl

  module _ (h : 0 < p.due) where
    pub allowed-not : may_begin p.at c ≡ false → false ≡ allowed p c
    unfolding allowed may_begin
    allowed-not b = rw (lt-ltb 0 p.due h, b)

    pub allowed-variable : may_begin p.at c ≡ true → variable c ≡ true → (n : ℕ) → n ≡ payload c → leb n p.known ≡ allowed p c
    unfolding allowed may_begin
    allowed-variable b v n e = rw (lt-ltb 0 p.due h, b, v, e)

    pub allowed-other : may_begin p.at c ≡ true → variable c ≡ false → true ≡ allowed p c
    unfolding allowed may_begin
    allowed-other b v = rw (lt-ltb 0 p.due h, b, v)

module _ (known c : ℕ) where
  pub known-most : variable c ≡ true → max known (payload c + 1) ≡ known_after known c
  unfolding known_after
  known-most v = rw v (by_cases (ltb (payload c) known)
      (λ l. let z : payload c < known = ltb-true _ _ l in rw l (omega arith))
      (λ l. let z : known ≤ payload c = ltb-false _ _ l in rw l (omega arith)))

  pub known_same : variable c ≡ false → known ≡ known_after known c
  unfolding known_after
  known_same v = rw v

-- ---- the cells in their order

module _ (symbols : List ℕ) where
  pub letter-symbol : (j : ℕ) → j < length symbols → get_or symbols j 0 ≡ letter_at symbols j
  unfolding letter_at
  letter-symbol j h = rw (lt-ltb _ _ h)

  pub letter-variable : (j x : ℕ) → length symbols ≤ j → x ≡ tag 1 (j - length symbols) → x ≡ letter_at symbols j
  unfolding letter_at
  letter-variable j x h e = rw (le-ltb _ _ h) e

  pub place-variable : (c : ℕ) → variable c ≡ true → length symbols + payload c ≡ place_in symbols c
  unfolding place_in
  place-variable c v = rw v

  pub place-symbol : (c r : ℕ) → variable c ≡ false → r ≡ rank symbols c → r ≡ place_in symbols c
  unfolding place_in
  place-symbol c r v e = rw v e

  pub is-variable-letter : (s c : ℕ) → variable c ≡ true → ltb (payload c) s ≡ is_letter s symbols c
  unfolding is_letter
  is-variable-letter s c v = rw v

  pub is-symbol-letter : (s c : ℕ) → variable c ≡ false → contains symbols c ≡ is_letter s symbols c
  unfolding is_letter
  is-symbol-letter s c v = rw v

-- ---- sums, and what fits

module _ (a t : ℕ) (sums : List Bool) where
  pub leads-none : a ≡ 0 → false ≡ leads_to a t sums
  unfolding leads_to
  leads-none h = rw (eq-eqb a 0 h)

  pub leads-over : 0 < a → t < a → false ≡ leads_to a t sums
  unfolding leads_to
  leads-over h l = rw (ne_eqb a 0 (λ q. omega arith), lt-leb a t l)

pub leads-from : (a t : ℕ) (sums : List Bool) → 0 < a → a ≤ t → get_or sums (t - a) false ≡ leads_to a t (take t sums)
unfolding leads_to
leads-from a t sums h l = rw (ne_eqb a 0 (λ q. omega arith), le-leb a t l) (sym (get_or-take t sums (t - a) false (omega arith)))

module _ (due n : ℕ) (sums : List Bool) where
  pub fits-zero : due ≡ 0 → eqb n 0 ≡ fits_by sums due n
  unfolding fits_by
  fits-zero h = rw (eq-eqb due 0 h)

  pub fits-over : 0 < due → n < due → false ≡ fits_by sums due n
  unfolding fits_by
  fits-over h l = rw (ne_eqb due 0 (λ q. omega arith), lt-leb due n l)

  pub fits-table : 0 < due → due ≤ n → get_or sums (n - due) false ≡ fits_by sums due n
  unfolding fits_by
  fits-table h l = rw (ne_eqb due 0 (λ q. omega arith), le-leb due n l)

module _ (e : ℕ) (sums : List Bool) (p : Spot) (n c : ℕ) where
  pub goes-not : allowed p c ≡ false → false ≡ goes_on_by e sums p n c
  unfolding goes_on_by
  goes-not h = rw h

  pub goes-fits : allowed p c ≡ true → (q : Spot) → q ≡ passed e p c → (r : Bool) → r ≡ fits_by sums q.due n → r ≡ goes_on_by e sums p n c
  unfolding goes_on_by
  goes-fits h q t r f = rw h (f ∙ ap (λ (x : Spot). fits_by sums x.due n) t)
