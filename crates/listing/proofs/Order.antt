-- The strings stand in order where no cell is repeated, and so does what is kept of them.
use Prim.Native.Nat.{ℕ, zero, suc, ◌<◌}
use mathlib.Core.Bool.{Bool, true, false}
use mathlib.Core.List.{List, [], ◌∷◌, ◌++◌, map, Memᴰ}
use mathlib.Core.Logic.{◌⊎◌, inl, inr}
use mathlib.Core.Path.{◌≡◌, refl, sym, ap, ◌∙◌}
use native.Mathlib.Omega.{arith}
use lib.ListN.{length, get_or}
use borrow.Author.Tests.{lt-ltb, eq-eqb, ne_eqb}
use Rattle.basis.specs.Choice.{pick}
use Rattle.basis.proofs.Tests.{true-not-false}
use Rattle.forms.specs.Cells.{tag, variable}
use Rattle.forms.specs.Numbering.{rank}
use Rattle.forms.specs.Compact.{same}
use Rattle.listing.specs.Listing.{variable_cells, alphabet, cells_before, strings, filtered, first_in, next_in, holds, is_symbol, contains, are_symbols}
use Rattle.listing.specs.Promises.{stands_earlier}
use Rattle.listing.proofs.Tests.{both}
use Rattle.listing.proofs.Members.{same-eq, eq-same, member-contains}
use Rattle.listing.proofs.Sums.{other}
use Rattle.listing.proofs.Ways.{variables-member, tag-variable}
use Rattle.listing.proofs.Calls.{EachString, each_append, Given, symbols-each}

-- ---- cells none of which is repeated

abbrev pub Distinct : List ℕ → Type 0
Distinct [] = Unit {0}
Distinct (c ∷ cs) = (Memᴰ c cs → ⊥) × Distinct cs

-- the cells of cs stand in their order among all cells
abbrev pub Rising : List ℕ → List ℕ → Type 0
Rising cells [] = Unit {0}
Rising cells (c ∷ cs) = ((d : ℕ) → Memᴰ d cs → rank cells c < rank cells d) × Rising cells cs

rank-after-first : (c d : ℕ) (cs : List ℕ) → (c ≡ d → ⊥) → rank (c ∷ cs) d ≡ suc (rank cs d)
unfolding rank
rank-after-first c d cs n = rw (ne_eqb c d n)

rising-more : (c : ℕ) (cells cs : List ℕ) → (Memᴰ c cs → ⊥) → Rising cells cs → Rising (c ∷ cells) cs
rising-more c cells [] n r = tt
rising-more c cells (x ∷ xs) n r = (
  (λ d m. rw (rank-after-first c x cells (λ q. n (Memᴰ.head q)), rank-after-first c d cells (λ q. n (Memᴰ.tail (mathlib.Core.List.Memᴰ.cast q m)))) (omega (arith, r.0 d m))),
  rising-more c cells xs (λ m. n (Memᴰ.tail m)) r.1,
)

rising : (cs : List ℕ) → Distinct cs → Rising cs cs
unfolding rank
rising [] h = tt
rising (c ∷ cs) h = (
  (λ d m. rw (rank-after-first c d cs (λ q. h.0 (mathlib.Core.List.Memᴰ.cast q m)), eq-eqb c c refl) (omega arith)),
  rising-more c cs cs h.0 (rising cs h.1),
)

-- ---- strings in order

abbrev pub Ordered : List ℕ → List (List ℕ) → Type 0
Ordered cells [] = Unit {0}
Ordered cells (t ∷ ts) = EachString (λ u. stands_earlier cells t u ≡ true) ts × Ordered cells ts

ordered-append : (cells : List ℕ) (xs ys : List (List ℕ)) → Ordered cells xs → Ordered cells ys → EachString (λ x. EachString (λ y. stands_earlier cells x y ≡ true) ys) xs
    → Ordered cells (xs ++ ys)
ordered-append cells [] ys a b c = b
ordered-append cells (x ∷ xs) ys a b c = (each_append (λ u. stands_earlier cells x u ≡ true) xs ys a.0 c.0, ordered-append cells xs ys a.1 b c.1)

module _ (cells : List ℕ) where
  each-same-first : (c : ℕ) (t : List ℕ) (ws : List (List ℕ)) → EachString (λ u. stands_earlier cells t u ≡ true) ws → EachString (λ u. stands_earlier cells (c ∷ t) u ≡ true) (map (λ w. c ∷ w) ws)
  unfolding stands_earlier
  each-same-first c t [] a = tt
  each-same-first c t (w ∷ ws) a = (rw (eq-eqb c c refl) a.0, each-same-first c t ws a.1)

  ordered-map : (c : ℕ) (ws : List (List ℕ)) → Ordered cells ws → Ordered cells (map (λ w. c ∷ w) ws)
  ordered-map c [] a = tt
  ordered-map c (w ∷ ws) a = (each-same-first c w ws a.0, ordered-map c ws a.1)

  earlier-first : (c d : ℕ) (t u : List ℕ) → rank cells c < rank cells d → stands_earlier cells (c ∷ t) (d ∷ u) ≡ true
  unfolding stands_earlier
  earlier-first c d t u h = rw (ne_eqb c d (λ q. let z : rank cells c ≡ rank cells d = ap (rank cells) q in omega arith), lt-ltb _ _ h)

  each-later-map : (c d : ℕ) (t : List ℕ) → rank cells c < rank cells d → (ws : List (List ℕ)) → EachString (λ u. stands_earlier cells (c ∷ t) u ≡ true) (map (λ w. d ∷ w) ws)
  each-later-map c d t h [] = tt
  each-later-map c d t h (w ∷ ws) = (earlier-first c d t w h, each-later-map c d t h ws)

  each-later : (c : ℕ) (t : List ℕ) (cs : List ℕ) → ((d : ℕ) → Memᴰ d cs → rank cells c < rank cells d) → (ws : List (List ℕ)) → EachString (λ u. stands_earlier cells (c ∷ t) u ≡ true) (cells_before cs ws)
  unfolding cells_before
  each-later c t [] f ws = tt
  each-later c t (d ∷ cs) f ws =
      each_append (λ u. stands_earlier cells (c ∷ t) u ≡ true) (map (λ w. d ∷ w) ws) (cells_before cs ws) (each-later-map c d t (f d (Memᴰ.head refl)) ws)
      (each-later c t cs (λ x m. f x (Memᴰ.tail m)) ws)

  all-later : (c : ℕ) (cs : List ℕ) → ((d : ℕ) → Memᴰ d cs → rank cells c < rank cells d) → (us ws : List (List ℕ))
      → EachString (λ x. EachString (λ u. stands_earlier cells x u ≡ true) (cells_before cs ws)) (map (λ w. c ∷ w) us)
  all-later c cs f [] ws = tt
  all-later c cs f (u ∷ us) ws = (each-later c u cs f ws, all-later c cs f us ws)

  ordered-before : (cs : List ℕ) → Rising cells cs → (ws : List (List ℕ)) → Ordered cells ws → Ordered cells (cells_before cs ws)
  unfolding cells_before
  ordered-before [] r ws a = tt
  ordered-before (c ∷ cs) r ws a =
      ordered-append cells (map (λ w. c ∷ w) ws) (cells_before cs ws) (ordered-map c ws a) (ordered-before cs r.1 ws a) (all-later c cs r.0 ws ws)

  pub ordered-strings : Distinct cells → (n : ℕ) → Ordered cells (strings cells n)
  unfolding strings
  ordered-strings h zero = (tt, tt)
  ordered-strings h (suc n) = ordered-before cells (rising cells h) (strings cells n) (ordered-strings h n)

  each-kept : (P : List ℕ → Type 0) (test : List ℕ → Bool) (ws : List (List ℕ)) → EachString P ws → EachString P (filtered test ws)
  unfolding filtered
  each-kept P test [] a = tt
  each-kept P test (w ∷ ws) a = go (test w) (each-kept P test ws a.1)
    where
      go : (b : Bool) → EachString P (filtered test ws) → EachString P (pick b (w ∷ filtered test ws) (filtered test ws))
      go true k = (a.0, k)
      go false k = k

  pub ordered-kept : (test : List ℕ → Bool) (ws : List (List ℕ)) → Ordered cells ws → Ordered cells (filtered test ws)
  unfolding filtered
  ordered-kept test [] a = tt
  ordered-kept test (w ∷ ws) a = go (test w) (ordered-kept test ws a.1)
    where
      go : (b : Bool) → Ordered cells (filtered test ws) → Ordered cells (pick b (w ∷ filtered test ws) (filtered test ws))
      go true k = (each-kept (λ u. stands_earlier cells w u ≡ true) test ws a.0, k)
      go false k = k

  -- ---- what is in order

  each-get : (P : List ℕ → Type 0) (ws : List (List ℕ)) → EachString P ws → (i : ℕ) → i < length ws → P (get_or ws i [])
  each-get P [] a i h = absurd (omega arith)
  each-get P (w ∷ ws) a zero h = a.0
  each-get P (w ∷ ws) a (suc i) h = each-get P ws a.1 i (omega arith)

  pub ordered-get : (ws : List (List ℕ)) → Ordered cells ws → (i j : ℕ) → i < j → j < length ws → stands_earlier cells (get_or ws i []) (get_or ws j []) ≡ true
  ordered-get [] a i j h l = absurd (omega arith)
  ordered-get (w ∷ ws) a i zero h l = absurd (omega arith)
  ordered-get (w ∷ ws) a zero (suc j) h l = each-get (λ u. stands_earlier cells w u ≡ true) ws a.0 j (omega arith)
  ordered-get (w ∷ ws) a (suc i) (suc j) h l = ordered-get ws a.1 i j (omega arith) (omega arith)

  pub earlier-self : (t : List ℕ) → stands_earlier cells t t ≡ false
  unfolding stands_earlier
  earlier-self [] = refl
  earlier-self (x ∷ xs) = rw (eq-eqb x x refl) (earlier-self xs)

  -- a term that each of these is earlier than is none of them
  pub none-holds : (t : List ℕ) (ws : List (List ℕ)) → EachString (λ u. stands_earlier cells u t ≡ true) ws → holds t ws ≡ false
  unfolding holds
  none-holds t [] a = refl
  none-holds t (w ∷ ws) a = go (same t w) refl (none-holds t ws a.1)
    where
      go : (b : Bool) → same t w ≡ b → holds t ws ≡ false → pick b true (holds t ws) ≡ false
      go true q k = absurd (true-not-false a.0 (sym (ap (λ (x : List ℕ). stands_earlier cells x t) (sym (same-eq t w q)) ∙ earlier-self t)))
      go false q k = k

  pub ordered-split : (pre : List (List ℕ)) (t : List ℕ) (post : List (List ℕ)) → Ordered cells (pre ++ (t ∷ post)) → EachString (λ u. stands_earlier cells u t ≡ true) pre
  ordered-split [] t post a = tt
  ordered-split (x ∷ xs) t post a = (first xs a.0, ordered-split xs t post a.1)
    where
      first : (ys : List (List ℕ)) → EachString (λ u. stands_earlier cells x u ≡ true) (ys ++ (t ∷ post)) → stands_earlier cells x t ≡ true
      first [] k = k.0
      first (y ∷ ys) k = first ys k.1

-- what stands after a term that does not stand before
pub next_in-at : (t : List ℕ) (pre post : List (List ℕ)) → holds t pre ≡ false → next_in t (pre ++ (t ∷ post)) ≡ first_in post
unfolding next_in holds
next_in-at t [] post h = rw (eq-same t t refl)
next_in-at t (x ∷ xs) post h = go (same t x) h (λ k. next_in-at t xs post k)
  where
    go : (b : Bool) → pick b true (holds t xs) ≡ false → (holds t xs ≡ false → next_in t (xs ++ (t ∷ post)) ≡ first_in post)
        → pick b (first_in (xs ++ (t ∷ post))) (next_in t (xs ++ (t ∷ post))) ≡ first_in post
    go true k f = absurd (true-not-false refl (sym k))
    go false k f = f k

-- ---- the cells that are given

distinct_append : (xs ys : List ℕ) → Distinct xs → Distinct ys → ((c : ℕ) → Memᴰ c xs → Memᴰ c ys → ⊥) → Distinct (xs ++ ys)
distinct_append [] ys a b f = b
distinct_append (x ∷ xs) ys a b f = (
  (λ m. go (mathlib.Core.List.Memᴰ.append_cases xs m)),
  distinct_append xs ys a.1 b (λ c m k. f c (Memᴰ.tail m) k),
)
  where
    go : Memᴰ x xs ⊎ Memᴰ x ys → ⊥
    go (inl m) = a.0 m
    go (inr m) = f x (Memᴰ.head refl) m

distinct-variables : (v n : ℕ) → Distinct (variable_cells v n)
unfolding variable_cells
distinct-variables v zero = tt
distinct-variables v (suc n) = (
  (λ m. let r = variables-member (suc v) n (tag 1 v) m in omega (arith, r.1, r.3)),
  distinct-variables (suc v) n,
)

distinct-symbols : (e : ℕ) (cs : List ℕ) → are_symbols e cs ≡ true → Distinct cs
unfolding are_symbols
distinct-symbols e [] h = tt
distinct-symbols e (c ∷ cs) h =
    let b = both (is_symbol e c) _ h in
    let o = other (contains cs c) _ b.1 in
    ((λ m. true-not-false (member-contains cs c m) (sym o.0)), distinct-symbols e cs o.1)

pub distinct-alphabet : (e s : ℕ) (symbols : List ℕ) → Given e s symbols → Distinct (alphabet s symbols)
unfolding alphabet is_symbol
distinct-alphabet e s symbols g = distinct_append symbols (variable_cells 0 s) (distinct-symbols e symbols g.are) (distinct-variables 0 s) apart
  where
    apart : (c : ℕ) → Memᴰ c symbols → Memᴰ c (variable_cells 0 s) → ⊥
    apart c m k =
        let r = variables-member 0 s c k in
        let l : r.0 < 8 = omega (arith, r.2, g.few-cells) in
        true-not-false (ap variable r.3 ∙ (tag-variable r.0 l).0) (sym (other (variable c) _ (symbols-each e symbols g.are c m)).0)
