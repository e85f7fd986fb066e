-- What is given is judged cell by cell: the symbols, and a term that is to stand in the list.
use Prim.Native.Nat.{ℕ, zero, suc, ◌+◌, ◌-◌, ◌≤◌, ◌<◌}
use mathlib.Core.Bool.{Bool, true, false}
use mathlib.Core.List.Memᴰ
use mathlib.Core.List.{List, [], ◌∷◌, ◌++◌, Memᴰ}
use mathlib.Core.Logic.{◌⊎◌, inl, inr}
use mathlib.Core.Path.{◌≡◌, refl, sym, ap, ◌∙◌}
use native.Mathlib.Omega.{arith}
use native.Mathlib.Numerals.{add-one}
use lib.ListN.{length, take, drop, get_or, set, drop_of_length-le}
use lib.Seq.{drop-cons, take-suc-set}
use lib.Dec.{eqb, ltb}
use borrow.Author.Tests.{ltb-true, ltb-false, lt-ltb, eqb-true, eqb-false, eq-eqb, ne_eqb, le-leb, lt-leb}
use Rattle.basis.specs.Choice.{pick}
use Rattle.basis.proofs.Tests.{true-not-false}
use Rattle.forms.specs.Cells.{payload, tag, variable}
use Rattle.forms.specs.Numbering.{rank}
use Rattle.forms.specs.Converting.{converter_edition}
use Rattle.forms.proofs.NumberingLaws.{rank-le, rank-append}
use Rattle.forms.proofs.DueLaws.{arguments-small}
use Rattle.forms.proofs.ShapeLaws.{arity-small}
use Rattle.forms.specs.Cells.{arity_of}
use Rattle.listing.specs.declared.Spot.{Spot}
use Rattle.listing.specs.Listing.{variable_cells, alphabet, is_symbol, contains, are_symbols, listable}
use Rattle.listing.specs.Steps.{start, passed, allowed, sum_reached, sums_below, goes, spelt, is_listed}
use Rattle.listing.specs.Clauses.{place_in, is_letter}
use Rattle.listing.proofs.Tests.{same_test}
use Rattle.listing.proofs.Members.{contains-member, member-contains}
use Rattle.listing.proofs.Numbers.{variable-cell, variables-rank}
use Rattle.listing.proofs.Sums.{other}
use Rattle.listing.proofs.Ways.{variables-member, tag-variable}
use Rattle.listing.proofs.Calls.{Given, symbols-each}

-- ---- the symbols

module _ (e : ℕ) (symbols : List ℕ) (i : ℕ) where
  pub symbols-all : length symbols ≤ i → true ≡ are_symbols e (drop i symbols)
  unfolding are_symbols
  symbols-all h = rw (drop_of_length-le symbols h)

  module _ (inside : i < length symbols) (c : ℕ) (read : c ≡ get_or symbols i 0) where
    symbols-step : are_symbols e (drop i symbols) ≡ pick (is_symbol e c) (pick (contains (drop (suc i) symbols) c) false (are_symbols e (drop (suc i) symbols))) false
    unfolding are_symbols
    symbols-step = ap (are_symbols e) (drop-cons symbols i 0 inside) ∙ rw (← read)

    pub symbols-not : is_symbol e c ≡ false → false ≡ are_symbols e (drop i symbols)
    symbols-not h = rw (symbols-step, h)

    module _ (is : is_symbol e c ≡ true) where
      pub symbols-again : contains (drop (i + 1) symbols) c ≡ true → false ≡ are_symbols e (drop i symbols)
      symbols-again h = let again : contains (drop (suc i) symbols) c ≡ true = rw add-one at h in rw (symbols-step, is, again)

      pub symbols-later : contains (drop (i + 1) symbols) c ≡ false → are_symbols e (drop i symbols) ≡ are_symbols e (drop (i + 1) symbols)
      symbols-later h = let once : contains (drop (suc i) symbols) c ≡ false = rw add-one at h in rw (symbols-step, is, once, add-one)

-- ---- whether there is a list

module _ (e s : ℕ) (symbols : List ℕ) where
  pub list-edition : converter_edition e ≡ false → false ≡ listable e s symbols
  unfolding listable
  list-edition h = rw h

  module _ (edition : converter_edition e ≡ true) where
    pub list-none : s < 1 → false ≡ listable e s symbols
    unfolding listable
    list-none h = rw (edition, lt-leb 1 s h)

    pub list-large : 1 ≤ s → 8 < s → false ≡ listable e s symbols
    unfolding listable
    list-large h l = rw (edition, le-leb 1 s h, lt-leb s 8 l)

    module _ (some-cells : 1 ≤ s) (few-cells : s ≤ 8) where
      pub list-many : 16 < length symbols → false ≡ listable e s symbols
      unfolding listable
      list-many h = rw (edition, le-leb 1 s some-cells, le-leb s 8 few-cells, lt-leb (length symbols) 16 h)

      pub list-symbols : length symbols ≤ 16 → are_symbols e symbols ≡ listable e s symbols
      unfolding listable
      list-symbols h = rw (edition, le-leb 1 s some-cells, le-leb s 8 few-cells, le-leb (length symbols) 16 h)

-- ---- the cells in their order

variables-has : (v n i : ℕ) → v ≤ i → i < v + n → Memᴰ (tag 1 i) (variable_cells v n)
unfolding variable_cells
variables-has v zero i h l = absurd (omega arith)
variables-has v (suc n) i h l = go (eqb i v) refl (λ k. variables-has (suc v) n i k (omega arith))
  where
    go : (b : Bool) → eqb i v ≡ b → (suc v ≤ i → Memᴰ (tag 1 i) (variable_cells (suc v) n)) → Memᴰ (tag 1 i) (tag 1 v ∷ variable_cells (suc v) n)
    go true q f = Memᴰ.head (ap (tag 1) (eqb-true i v q))
    go false q f = let z : (i ≡ v → ⊥) = eqb-false i v q in Memᴰ.tail (f (omega arith))

pub rank_most : (cs : List ℕ) (c r : ℕ) → r ≡ rank cs c → r ≤ length cs
rank_most cs c r h = omega (arith, rank-le cs c)

rank-after : (xs ys : List ℕ) (c : ℕ) → rank xs c ≡ length xs → rank (xs ++ ys) c ≡ length xs + rank ys c
unfolding rank
rank-after [] ys c h = omega arith
rank-after (x ∷ xs) ys c h = go (eqb x c) h (λ k. rank-after xs ys c k)
  where
    go : (b : Bool) → pick b 0 (suc (rank xs c)) ≡ suc (length xs) → (rank xs c ≡ length xs → rank (xs ++ ys) c ≡ length xs + rank ys c)
        → pick b 0 (suc (rank (xs ++ ys) c)) ≡ suc (length xs) + rank ys c
    go true k f = absurd (omega arith)
    go false k f = let z : rank xs c ≡ length xs = omega arith in omega (arith, f z)

module _ (e s : ℕ) (symbols : List ℕ) (g : Given e s symbols) (c : ℕ) where
  symbol-other : Memᴰ c symbols → variable c ≡ false
  unfolding is_symbol
  symbol-other m = (other (variable c) _ (symbols-each e symbols g.are c m)).0

  variable-number : Memᴰ c (variable_cells 0 s) → (variable c ≡ true) × (payload c < s)
  variable-number m =
      let r = variables-member 0 s c m in
      let l : r.0 < 8 = omega (arith, r.2, g.few-cells) in
      let t = tag-variable r.0 l in
      (ap variable r.3 ∙ t.0, omega (arith, ap payload r.3, t.1, r.2))

  -- a variable among the cells is below s, and any other cell is a symbol
  number-below : Memᴰ c symbols ⊎ Memᴰ c (variable_cells 0 s) → variable c ≡ true → payload c < s
  number-below (inl m) v = absurd (true-not-false v (sym (symbol-other m)))
  number-below (inr m) v = (variable-number m).1

  among-symbols : Memᴰ c symbols ⊎ Memᴰ c (variable_cells 0 s) → variable c ≡ false → contains symbols c ≡ true
  among-symbols (inl m) v = member-contains symbols c m
  among-symbols (inr m) v = absurd (true-not-false (variable-number m).0 (sym v))

  cell-from : contains (symbols ++ variable_cells 0 s) c ≡ true → Memᴰ c symbols ⊎ Memᴰ c (variable_cells 0 s)
  cell-from h = Memᴰ.append_cases symbols (contains-member (symbols ++ variable_cells 0 s) c h)

  pub letter-contains : is_letter s symbols c ≡ contains (alphabet s symbols) c
  unfolding is_letter alphabet
  letter-contains = go (variable c) refl
    where
      known : variable c ≡ true → payload c < s → contains (symbols ++ variable_cells 0 s) c ≡ true
      known v l = member-contains _ c (Memᴰ.append_right symbols (Memᴰ.cast (variable-cell c v) (variables-has 0 s (payload c) (omega arith) (omega arith))))

      go : (b : Bool) → variable c ≡ b → pick b (ltb (payload c) s) (contains symbols c) ≡ contains (symbols ++ variable_cells 0 s) c
      go true v = same_test _ _ (λ q. known v (ltb-true _ _ q)) (λ q. lt-ltb _ _ (number-below (cell-from q) v))
      go false v = same_test _ _ (λ q. member-contains _ c (Memᴰ.append_left (variable_cells 0 s) (contains-member symbols c q))) (λ q. among-symbols (cell-from q) v)

  without : variable c ≡ true → (b : Bool) → contains symbols c ≡ b → rank symbols c ≡ length symbols
  unfolding contains
  without v true q = absurd (true-not-false v (sym (symbol-other (contains-member symbols c q))))
  without v false q = let l : length symbols ≤ rank symbols c = ltb-false _ _ q in omega (arith, rank-le symbols c)

  in-symbols : contains symbols c ≡ true → rank symbols c < length symbols
  unfolding contains
  in-symbols q = ltb-true _ _ q

  pub place-rank : contains (alphabet s symbols) c ≡ true → place_in symbols c ≡ rank (alphabet s symbols) c
  unfolding place_in alphabet
  place-rank h = go (variable c) refl
    where
      go : (b : Bool) → variable c ≡ b → pick b (length symbols + payload c) (rank symbols c) ≡ rank (symbols ++ variable_cells 0 s) c
      go true v =
          let l : payload c < s = number-below (cell-from h) v in
          let r : rank (variable_cells 0 s) c ≡ payload c - 0 = ap (rank (variable_cells 0 s)) (variable-cell c v) ∙ variables-rank 0 s (payload c) (omega arith) (omega arith) in
          omega (arith, rank-after symbols (variable_cells 0 s) c (without v (contains symbols c) refl), r)
      go false v = sym (rank-append symbols (variable_cells 0 s) c (in-symbols (among-symbols (cell-from h) v)))

-- ---- a term that is to stand in the list

module _ (e s : ℕ) (symbols t : List ℕ) where
  pub listed-length : (length t ≡ s → ⊥) → false ≡ is_listed e s symbols t
  unfolding is_listed
  listed-length h = rw (ne_eqb (length t) s h)

  -- what is left to be looked at
  abbrev pub Left : Spot → Bool
  Left p = pick (spelt (alphabet s symbols) (drop p.at t)) (goes e p (drop p.at t)) false

  pub listed_start : (p : Spot) → p ≡ start → length t ≡ s → is_listed e s symbols t ≡ Left p
  unfolding is_listed
  listed_start p z h = rw (eq-eqb (length t) s h, z)

  pub listed-end : (p : Spot) → length t ≡ s → s ≤ p.at → eqb p.due 0 ≡ Left p
  unfolding spelt goes
  listed-end p h l = let z : length t ≤ p.at = omega arith in rw (drop_of_length-le t z)

  module _ (g : Given e s symbols) (p : Spot) (inside : p.at < length t) (c : ℕ) (read : c ≡ get_or t p.at 0) where
    listed-step : Left p ≡ pick (pick (is_letter s symbols c) (spelt (alphabet s symbols) (drop (suc p.at) t)) false) (pick (allowed p c) (goes e (passed e p c) (drop (suc p.at) t)) false) false
    unfolding spelt goes
    listed-step = rw (drop-cons t p.at 0 inside, ← read, letter-contains e s symbols g c)

    pub listed-strange : is_letter s symbols c ≡ false → false ≡ Left p
    listed-strange h = rw (listed-step, h)

    pub listed-refused : allowed p c ≡ false → false ≡ Left p
    listed-refused h = rw (listed-step, h) (go (pick (is_letter s symbols c) (spelt (alphabet s symbols) (drop (suc p.at) t)) false))
      where
        go : (b : Bool) → false ≡ pick b false false
        go true = refl
        go false = refl

    pub listed_next : is_letter s symbols c ≡ true → allowed p c ≡ true → (q : Spot) → q ≡ passed e p c
        → (Left p ≡ Left q) × (q.at ≡ suc p.at) × (q.due ≤ p.due + 254)
    unfolding passed
    listed_next h a q z = (
      listed-step ∙ rw (h, a, z),
      ap (λ (x : Spot). x.at) z,
      (let small = arguments-small (arity_of e) (arity-small e) c in rw z (omega arith)),
    )

-- ---- the table of sums

pub sums_first : (e : ℕ) (symbols : List ℕ) → true ∷ [] ≡ sums_below e symbols 1
unfolding sums_below
sums_first e symbols = refl

pub sums_next : (e : ℕ) (symbols : List ℕ) (sums : List Bool) (t : ℕ) → 0 < t → t < length sums → take t sums ≡ sums_below e symbols t
    → (b : Bool) → b ≡ sum_reached e t (take t sums) symbols → take (t + 1) (set sums t b) ≡ sums_below e symbols (t + 1)
unfolding sums_below
sums_next e symbols sums t h l k b r = rw add-one (take-suc-set sums t b l ∙ rw (r, k, ne_eqb t 0 (λ q. omega arith)))
