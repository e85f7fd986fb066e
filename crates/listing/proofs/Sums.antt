-- Sums of arities, and the terms that fit into so many cells.
use Prim.Native.Nat.{ℕ, zero, suc, ◌+◌, ◌-◌, ◌≤◌, ◌<◌}
use mathlib.Core.Bool.{Bool, true, false}
use mathlib.Core.List.{List, [], Memᴰ}
use mathlib.Core.Logic.{◌⊎◌, inl, inr}
use mathlib.Core.Path.{◌≡◌, refl, sym, ap, ◌∙◌}
use native.Mathlib.Omega.{arith}
use lib.ListN.{length, get_or, length-append, get_or-append}
use lib.Seq.{get_or_at}
use lib.Dec.{eqb, leb}
use borrow.Author.Tests.{leb-true, leb-false, eqb-true, eqb-false, le-leb, ne_eqb}
use Rattle.basis.specs.Choice.{pick}
use Rattle.basis.proofs.Cases.{by_cases}
use Rattle.basis.proofs.Tests.{true-not-false}
use Rattle.listing.specs.Steps.{arguments_in, leads_to, sum_reached, sums_below, is_sum, terms_fit}
use Rattle.listing.proofs.Tests.{both, some-cell, cell-some}

-- a test that turns to false where it holds
pub other : (a b : Bool) → pick a false b ≡ true → (a ≡ false) × (b ≡ true)
other true b h = absurd (true-not-false refl h)
other false b h = (refl, h)

-- how terms fit: none in no cell, or some of them with arities that make up for the cells
abbrev pub Fit : ℕ → List ℕ → ℕ → ℕ → Type 0
Fit e symbols d n = ((d ≡ 0) × (n ≡ 0)) ⊎ ((0 < d) × (d ≤ n) × (is_sum e symbols (n - d) ≡ true))

module _ (e : ℕ) (symbols : List ℕ) where
  pub sums-length : (n : ℕ) → length (sums_below e symbols n) ≡ n
  unfolding sums_below
  sums-length zero = refl
  sums-length (suc n) = length-append (sums_below e symbols n) _ ∙ omega (arith, sums-length n)

  -- a longer table says the same
  pub sums-get : (n t : ℕ) → t < n → get_or (sums_below e symbols n) t false ≡ is_sum e symbols t
  unfolding sums_below is_sum
  sums-get zero t h = absurd (omega arith)
  sums-get (suc n) t h = by_cases (leb n t) at-end (inside (λ l. sums-get n t l))
    where
      at-end : leb n t ≡ true → get_or (sums_below e symbols (suc n)) t false ≡ is_sum e symbols t
      at-end q = let z : n ≡ t = omega (arith, leb-true n t q) in ap (λ (i : ℕ). get_or (sums_below e symbols (suc i)) t false) z

      inside : (t < n → get_or (sums_below e symbols n) t false ≡ is_sum e symbols t) → leb n t ≡ false → get_or (sums_below e symbols (suc n)) t false ≡ is_sum e symbols t
      inside ih q =
          get_or-append (sums_below e symbols n) _ false t (omega (arith, sums-length n, leb-false n t q))
          ∙ ih (leb-false n t q)

  pub sum-zero : is_sum e symbols 0 ≡ true
  unfolding is_sum sums_below
  sum-zero = refl

  sum-eq : (t : ℕ) → 0 < t → is_sum e symbols t ≡ sum_reached e t (sums_below e symbols t) symbols
  unfolding is_sum sums_below
  sum-eq t h =
      get_or_at (sums_below e symbols t) _ [] false t (sums-length t)
      ∙ rw (ne_eqb t 0 (λ q. omega arith))

  -- an arity that leads to a sum, and back
  pub sum-down : (t : ℕ) → 0 < t → is_sum e symbols t ≡ true
      → (c : ℕ) × Memᴰ c symbols × (0 < arguments_in e c) × (arguments_in e c ≤ t) × (is_sum e symbols (t - arguments_in e c) ≡ true)
  unfolding sum_reached leads_to
  sum-down t h s =
      let r = some-cell (λ c. leads_to (arguments_in e c) t (sums_below e symbols t)) symbols (sym (sum-eq t h) ∙ s) in
      let a : ℕ = arguments_in e r.0 in
      let o = other (eqb a 0) _ r.2 in
      let b = both (leb a t) _ o.1 in
      let n : (a ≡ 0 → ⊥) = eqb-false a 0 o.0 in
      let l : a ≤ t = leb-true a t b.0 in
      let g : 0 < a = omega arith in
      (r.0, r.1, g, l, sym (sums-get t (t - a) (omega arith)) ∙ b.1)

  pub sum-up : (t c : ℕ) → Memᴰ c symbols → 0 < arguments_in e c → arguments_in e c ≤ t
      → is_sum e symbols (t - arguments_in e c) ≡ true → is_sum e symbols t ≡ true
  unfolding sum_reached leads_to
  sum-up t c m g l s =
      let a : ℕ = arguments_in e c in
      let z : get_or (sums_below e symbols t) (t - a) false ≡ true = sums-get t (t - a) (omega arith) ∙ s in
      sum-eq t (omega arith)
      ∙ cell-some (λ d. leads_to (arguments_in e d) t (sums_below e symbols t)) m (rw (ne_eqb a 0 (λ q. omega arith), le-leb a t l, z))

  -- ---- terms in cells

  pub fits-cases : (d n : ℕ) → terms_fit e symbols d n ≡ true → Fit e symbols d n
  unfolding terms_fit
  fits-cases d n h = go (eqb d 0) refl h
    where
      go : (b : Bool) → eqb d 0 ≡ b → pick b (eqb n 0) (pick (leb d n) (is_sum e symbols (n - d)) false) ≡ true
          → Fit e symbols d n
      go true q g = inl (eqb-true d 0 q, eqb-true n 0 g)
      go false q g =
          let b = both (leb d n) _ g in
          let z : (d ≡ 0 → ⊥) = eqb-false d 0 q in
          inr (omega arith, leb-true d n b.0, b.1)

  pub fits-none : terms_fit e symbols 0 0 ≡ true
  unfolding terms_fit
  fits-none = refl

  pub fits-some : (d n : ℕ) → 0 < d → d ≤ n → is_sum e symbols (n - d) ≡ true → terms_fit e symbols d n ≡ true
  unfolding terms_fit
  fits-some d n g l s = rw (ne_eqb d 0 (λ q. omega arith), le-leb d n l, s)

  -- one cell takes its own place and leaves its arguments due
  pub fits-cell : (d n c : ℕ) → Memᴰ c symbols ⊎ (arguments_in e c ≡ 0) → terms_fit e symbols (d + arguments_in e c) n ≡ true
      → terms_fit e symbols (suc d) (suc n) ≡ true
  fits-cell d n c m h = go (fits-cases (d + arguments_in e c) n h)
    where
      sum : d + arguments_in e c ≤ n → is_sum e symbols (n - (d + arguments_in e c)) ≡ true
          → Memᴰ c symbols ⊎ (arguments_in e c ≡ 0) → (b : Bool) → eqb (arguments_in e c) 0 ≡ b → is_sum e symbols (n - d) ≡ true
      sum l s m true q =
          let z : arguments_in e c ≡ 0 = eqb-true _ 0 q in
          let y : n - d ≡ n - (d + arguments_in e c) = omega arith in
          ap (is_sum e symbols) y ∙ s
      sum l s (inl m) false q =
          let z : (arguments_in e c ≡ 0 → ⊥) = eqb-false _ 0 q in
          let y : n - d - arguments_in e c ≡ n - (d + arguments_in e c) = omega arith in
          sum-up (n - d) c m (omega arith) (omega arith) (ap (is_sum e symbols) y ∙ s)
      sum l s (inr z) false q = absurd (eqb-false _ 0 q z)

      go : Fit e symbols (d + arguments_in e c) n → terms_fit e symbols (suc d) (suc n) ≡ true
      go (inl z) = let x : d ≡ 0 = omega (arith, z.0) in let y : suc n - suc d ≡ 0 = omega (arith, z.1) in fits-some (suc d) (suc n) (omega arith) (omega arith) (ap (is_sum e symbols) y ∙ sum-zero)
      go (inr r) =
          let y : suc n - suc d ≡ n - d = omega arith in
          fits-some (suc d) (suc n) (omega arith) (omega (arith, r.1)) (ap (is_sum e symbols) y ∙ sum r.1 r.2 m (eqb (arguments_in e c) 0) refl)

  -- where terms fit, a symbol or a cell without arguments leaves terms that fit
  pub cell-fits : (d n : ℕ) → terms_fit e symbols (suc d) (suc n) ≡ true
      → ((c : ℕ) × Memᴰ c symbols × (terms_fit e symbols (d + arguments_in e c) n ≡ true)) ⊎ (terms_fit e symbols d n ≡ true)
  cell-fits d n h = go (fits-cases (suc d) (suc n) h)
    where
      Goal : Type 0
      Goal = ((c : ℕ) × Memᴰ c symbols × (terms_fit e symbols (d + arguments_in e c) n ≡ true)) ⊎ (terms_fit e symbols d n ≡ true)

      last : d ≡ n → (b : Bool) → eqb d 0 ≡ b → terms_fit e symbols d n ≡ true
      last q true z = let x : d ≡ 0 = eqb-true d 0 z in let y : n ≡ 0 = omega arith in rw (x, y) fits-none
      last q false z = let w : (d ≡ 0 → ⊥) = eqb-false d 0 z in let y : n - d ≡ 0 = omega arith in fits-some d n (omega arith) (omega arith) (ap (is_sum e symbols) y ∙ sum-zero)

      more : d ≤ n → is_sum e symbols (n - d) ≡ true → (b : Bool) → eqb d n ≡ b → Goal
      more l s true q = inr (last (eqb-true d n q) (eqb d 0) refl)
      more l s false q =
          let w : (d ≡ n → ⊥) = eqb-false d n q in
          let r = sum-down (n - d) (omega arith) s in
          let a : ℕ = arguments_in e r.0 in
          let y : n - (d + a) ≡ n - d - a = omega arith in
          inl (r.0, r.1, fits-some (d + a) n (omega (arith, r.2)) (omega (arith, r.3)) (ap (is_sum e symbols) y ∙ r.4))

      go : Fit e symbols (suc d) (suc n) → Goal
      go (inl z) = absurd (omega (arith, z.0))
      go (inr r) = let y : n - d ≡ suc n - suc d = omega arith in more (omega (arith, r.1)) (ap (is_sum e symbols) y ∙ r.2) (eqb d n) refl
