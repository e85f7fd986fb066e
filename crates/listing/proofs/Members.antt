-- What stands in a list of strings: whether it holds a string, and what stands after one.
use Prim.Native.Nat.{ℕ, suc, ◌<◌}
use mathlib.Core.Bool.{Bool, true, false}
use mathlib.Core.List.Memᴰ
use mathlib.Core.List.{List, [], ◌∷◌, ◌++◌, map, Memᴰ}
use mathlib.Core.Logic.{◌⊎◌, inl, inr}
use mathlib.Core.Path.{◌≡◌, refl, sym, ap, ◌∙◌}
use native.Mathlib.Omega.{arith}
use lib.ListN.{length, drop}
use lib.Dec.{eqb, ltb}
use borrow.Author.Tests.{ltb-true, lt-ltb, eqb-true, eqb-false, eq-eqb, ne_eqb}
use Rattle.basis.specs.Choice.{pick}
use Rattle.basis.proofs.Tests.{true-not-false}
use Rattle.forms.specs.Numbering.{rank}
use Rattle.forms.specs.Compact.{same}
use Rattle.listing.specs.declared.Spot.{Spot}
use Rattle.listing.specs.Listing.{first_in, next_in, holds, contains}
use Rattle.listing.specs.Steps.{passed, allowed, prefixed, or_else, later_than, goes, spelt}
use Rattle.listing.proofs.Tests.{both}
use Rattle.listing.proofs.Strings.{blocks, endings, head-append, head-map}

-- ---- cells and strings

pub same-eq : (xs ys : List ℕ) → same xs ys ≡ true → xs ≡ ys
unfolding same
same-eq [] [] h = refl
same-eq [] (y ∷ ys) h = absurd (true-not-false refl h)
same-eq (x ∷ xs) [] h = absurd (true-not-false refl h)
same-eq (x ∷ xs) (y ∷ ys) h =
    let b = both (eqb x y) _ h in
    let p : x ≡ y = eqb-true x y b.0 in
    let q : xs ≡ ys = same-eq xs ys b.1 in
    cc

pub same_refl : (xs : List ℕ) → same xs xs ≡ true
unfolding same
same_refl [] = refl
same_refl (x ∷ xs) = rw (eq-eqb x x refl) (same_refl xs)

pub eq-same : (xs ys : List ℕ) → xs ≡ ys → same xs ys ≡ true
eq-same xs ys e = ap (same xs) (sym e) ∙ same_refl xs

pub contains-member : (cs : List ℕ) (c : ℕ) → contains cs c ≡ true → Memᴰ c cs
unfolding contains rank
contains-member [] c h = absurd (let l : 0 < 0 = ltb-true 0 0 h in omega arith)
contains-member (x ∷ xs) c h = go (eqb x c) refl h (λ l. contains-member xs c l)
  where
    go : (b : Bool) → eqb x c ≡ b → ltb (pick b 0 (suc (rank xs c))) (suc (length xs)) ≡ true
        → (ltb (rank xs c) (length xs) ≡ true → Memᴰ c xs) → Memᴰ c (x ∷ xs)
    go true q l f = Memᴰ.head (sym (eqb-true x c q))
    go false q l f = let k : suc (rank xs c) < suc (length xs) = ltb-true _ _ l in Memᴰ.tail (f (lt-ltb (rank xs c) (length xs) (omega arith)))

pub member-contains : (cs : List ℕ) (c : ℕ) → Memᴰ c cs → contains cs c ≡ true
unfolding contains rank
member-contains [] c m = absurd (Memᴰ.not-nil m)
member-contains (x ∷ xs) c m = go (eqb x c) refl (Memᴰ.cases_cons m) (λ k. member-contains xs c k)
  where
    go : (b : Bool) → eqb x c ≡ b → (c ≡ x) ⊎ Memᴰ c xs → (Memᴰ c xs → ltb (rank xs c) (length xs) ≡ true)
        → ltb (pick b 0 (suc (rank xs c))) (suc (length xs)) ≡ true
    go true q k f = lt-ltb 0 (suc (length xs)) (omega arith)
    go false q (inl r) f = absurd (eqb-false x c q (sym r))
    go false q (inr k) f = let l : rank xs c < length xs = ltb-true _ _ (f k) in lt-ltb (suc (rank xs c)) (suc (length xs)) (omega arith)

-- ---- the blocks of a list

holds-append : (t : List ℕ) (xs ys : List (List ℕ)) → holds t (xs ++ ys) ≡ pick (holds t xs) true (holds t ys)
unfolding holds
holds-append t [] ys = refl
holds-append t (x ∷ xs) ys = go (same t x) (holds-append t xs ys)
  where
    go : (b : Bool) → holds t (xs ++ ys) ≡ pick (holds t xs) true (holds t ys)
        → pick b true (holds t (xs ++ ys)) ≡ pick (pick b true (holds t xs)) true (holds t ys)
    go true e = refl
    go false e = e

-- strings that begin with x, among which one is looked for that begins with c
holds-block : (c x : ℕ) (cs : List ℕ) (ws : List (List ℕ)) → holds (c ∷ cs) (map (λ w. x ∷ w) ws) ≡ pick (eqb c x) (holds cs ws) false
unfolding holds same
holds-block c x cs [] = go (eqb c x)
  where
    go : (b : Bool) → false ≡ pick b false false
    go true = refl
    go false = refl
holds-block c x cs (w ∷ ws) = go (eqb c x) (same cs w) (holds-block c x cs ws)
  where
    go : (b d : Bool) → holds (c ∷ cs) (map (λ w. x ∷ w) ws) ≡ pick b (holds cs ws) false
        → pick (pick b d false) true (holds (c ∷ cs) (map (λ w. x ∷ w) ws)) ≡ pick b (pick d true (holds cs ws)) false
    go true true e = refl
    go true false e = e
    go false d e = e

next_in-other : (c x : ℕ) (cs : List ℕ) (ws rest : List (List ℕ)) → eqb c x ≡ false
    → next_in (c ∷ cs) (map (λ w. x ∷ w) ws ++ rest) ≡ next_in (c ∷ cs) rest
unfolding next_in same
next_in-other c x cs [] rest h = refl
next_in-other c x cs (w ∷ ws) rest h = rw h (next_in-other c x cs ws rest h)

next_in-same : (c : ℕ) (cs : List ℕ) (ws rest : List (List ℕ)) → holds cs ws ≡ true
    → next_in (c ∷ cs) (map (λ w. c ∷ w) ws ++ rest) ≡ or_else (prefixed (c ∷ []) (next_in cs ws)) (first_in rest)
unfolding next_in same holds
next_in-same c cs [] rest h = absurd (true-not-false refl h)
next_in-same c cs (w ∷ ws) rest h = rw (eq-eqb c c refl) (go (same cs w) h (λ k. next_in-same c cs ws rest k))
  where
    go : (b : Bool) → pick b true (holds cs ws) ≡ true
        → (holds cs ws ≡ true → next_in (c ∷ cs) (map (λ w. c ∷ w) ws ++ rest) ≡ or_else (prefixed (c ∷ []) (next_in cs ws)) (first_in rest))
        → pick b (first_in (map (λ w. c ∷ w) ws ++ rest)) (next_in (c ∷ cs) (map (λ w. c ∷ w) ws ++ rest))
        ≡ or_else (prefixed (c ∷ []) (pick b (first_in ws) (next_in cs ws))) (first_in rest)
    go true k f = head-append (map (λ w. c ∷ w) ws) rest ∙ rw (head-map c ws)
    go false k f = f k

module _ (ok : ℕ → Bool) (tails : ℕ → List (List ℕ)) (c : ℕ) (cs : List ℕ) (begins-ok : ok c ≡ true) (inside : holds cs (tails c) ≡ true) where
  pub holds-blocks : (xs : List ℕ) → Memᴰ c xs → holds (c ∷ cs) (blocks ok tails xs) ≡ true
  unfolding blocks holds
  holds-blocks [] m = absurd (Memᴰ.not-nil m)
  holds-blocks (x ∷ xs) m =
      holds-append (c ∷ cs) (pick (ok x) (map (λ w. x ∷ w) (tails x)) []) (blocks ok tails xs)
      ∙ go (eqb c x) refl (Memᴰ.cases_cons m) (λ k. holds-blocks xs k)
    where
      here : c ≡ x → holds (c ∷ cs) (pick (ok x) (map (λ w. x ∷ w) (tails x)) []) ≡ true
      here r = rw (← r, begins-ok) (holds-block c c cs (tails c) ∙ rw (eq-eqb c c refl, inside))

      right : (a b : Bool) → b ≡ true → pick a true b ≡ true
      right true b e = refl
      right false b e = e

      go : (b : Bool) → eqb c x ≡ b → (c ≡ x) ⊎ Memᴰ c xs → (Memᴰ c xs → holds (c ∷ cs) (blocks ok tails xs) ≡ true)
          → pick (holds (c ∷ cs) (pick (ok x) (map (λ w. x ∷ w) (tails x)) [])) true (holds (c ∷ cs) (blocks ok tails xs)) ≡ true
      go true q k f = rw (here (eqb-true c x q))
      go false q (inl r) f = absurd (eqb-false c x q r)
      go false q (inr k) f = right (holds (c ∷ cs) (pick (ok x) (map (λ w. x ∷ w) (tails x)) [])) (holds (c ∷ cs) (blocks ok tails xs)) (f k)

  pub next_in-blocks : (xs : List ℕ) → Memᴰ c xs
      → next_in (c ∷ cs) (blocks ok tails xs) ≡ or_else (prefixed (c ∷ []) (next_in cs (tails c))) (first_in (blocks ok tails (later_than xs c)))
  unfolding blocks later_than rank
  next_in-blocks [] m = absurd (Memᴰ.not-nil m)
  next_in-blocks (x ∷ xs) m = go (eqb x c) refl (Memᴰ.cases_cons m) (λ k. next_in-blocks xs k)
    where
      Goal : ℕ → Type 0
      Goal r = next_in (c ∷ cs) (pick (ok x) (map (λ w. x ∷ w) (tails x)) [] ++ blocks ok tails xs)
          ≡ or_else (prefixed (c ∷ []) (next_in cs (tails c))) (first_in (blocks ok tails (drop r xs)))

      skip : (b : Bool) → eqb c x ≡ false → next_in (c ∷ cs) (pick b (map (λ w. x ∷ w) (tails x)) [] ++ blocks ok tails xs) ≡ next_in (c ∷ cs) (blocks ok tails xs)
      skip true n = next_in-other c x cs (tails x) (blocks ok tails xs) n
      skip false n = refl

      go : (b : Bool) → eqb x c ≡ b → (c ≡ x) ⊎ Memᴰ c xs
          → (Memᴰ c xs → next_in (c ∷ cs) (blocks ok tails xs) ≡ or_else (prefixed (c ∷ []) (next_in cs (tails c))) (first_in (blocks ok tails (drop (suc (rank xs c)) xs))))
          → Goal (pick b 0 (suc (rank xs c)))
      go true q k f = rw (eqb-true x c q, begins-ok) (next_in-same c cs (tails c) (blocks ok tails xs) inside)
      go false q (inl r) f = absurd (eqb-false x c q (sym r))
      go false q (inr k) f = skip (ok x) (ne_eqb c x (λ r. eqb-false x c q (sym r))) ∙ f k

-- a string that goes on so stands among those that do
pub goes-holds : (e : ℕ) (cells : List ℕ) (w : List ℕ) (p : Spot) → goes e p w ≡ true → spelt cells w ≡ true
    → holds w (endings e cells p (length w)) ≡ true
unfolding goes spelt endings holds same
goes-holds e cells [] p g m = rw g
goes-holds e cells (c ∷ cs) p g m =
    let b = both (allowed p c) _ g in
    let k = both (contains cells c) _ m in
    holds-blocks (allowed p) (λ d. endings e cells (passed e p d) (length cs)) c cs b.0
    (goes-holds e cells cs (passed e p c) b.1 k.1) cells (contains-member cells c k.0)
