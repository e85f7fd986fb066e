-- The strings that go on from a place, as the tree that their first cells make.
use Rattle.std.specs.Prelude.{Option, Some}
use Prim.Native.Nat.{ℕ, zero, suc}
use mathlib.Core.Bool.{Bool, true, false}
use mathlib.Core.List.{List, [], ◌∷◌, ◌++◌, map}
use mathlib.Core.Path.{◌≡◌, refl, sym, ap, ◌∙◌}
use lib.Dec.{eqb}
use Rattle.basis.specs.Choice.{pick}
use Rattle.listing.specs.declared.Spot.{Spot}
use Rattle.listing.specs.Listing.{cells_before, strings, filtered, Listed, first_in}
use Rattle.listing.specs.Steps.{passed, allowed, any_cell, first_of, prefixed, or_else, chosen, goes}

-- the strings that begin with a cell that is ok, and go on with one of its tails
unfoldable pub blocks : (ℕ → Bool) → (ℕ → List (List ℕ)) → List ℕ → List (List ℕ)
blocks ok tails [] = []
blocks ok tails (c ∷ cs) = pick (ok c) (map (λ w. c ∷ w) (tails c)) [] ++ blocks ok tails cs

-- the strings of n cells that go on from a place to the end
unfoldable pub endings : ℕ → List ℕ → Spot → ℕ → List (List ℕ)
endings e cells p zero = pick (eqb p.due 0) ([] ∷ []) []
endings e cells p (suc n) = blocks (allowed p) (λ c. endings e cells (passed e p c) n) cells

-- ---- they are those of all strings that pass

pub kept_append : (test : List ℕ → Bool) (xs ys : List (List ℕ)) → filtered test (xs ++ ys) ≡ filtered test xs ++ filtered test ys
unfolding filtered
kept_append test [] ys = refl
kept_append test (x ∷ xs) ys = go (test x) (kept_append test xs ys)
  where
    go : (b : Bool) → filtered test (xs ++ ys) ≡ filtered test xs ++ filtered test ys
        → pick b (x ∷ filtered test (xs ++ ys)) (filtered test (xs ++ ys)) ≡ pick b (x ∷ filtered test xs) (filtered test xs) ++ filtered test ys
    go true e = ap (λ (l : List (List ℕ)). x ∷ l) e
    go false e = e

-- strings with one first cell
kept_block : (test rest : List ℕ → Bool) (c : ℕ) (b : Bool) → ((w : List ℕ) → test (c ∷ w) ≡ pick b (rest w) false)
    → (ws : List (List ℕ)) → filtered test (map (λ w. c ∷ w) ws) ≡ pick b (map (λ w. c ∷ w) (filtered rest ws)) []
unfolding filtered
kept_block test rest c true f [] = refl
kept_block test rest c false f [] = refl
kept_block test rest c true f (w ∷ ws) = rw (f w) (go (rest w) (kept_block test rest c true f ws))
  where
    go : (b : Bool) → filtered test (map (λ w. c ∷ w) ws) ≡ map (λ w. c ∷ w) (filtered rest ws)
        → pick b ((c ∷ w) ∷ filtered test (map (λ w. c ∷ w) ws)) (filtered test (map (λ w. c ∷ w) ws))
        ≡ map (λ w. c ∷ w) (pick b (w ∷ filtered rest ws) (filtered rest ws))
    go true e = ap (λ (l : List (List ℕ)). (c ∷ w) ∷ l) e
    go false e = e
kept_block test rest c false f (w ∷ ws) = rw (f w) (kept_block test rest c false f ws)

module _ (e : ℕ) (p : Spot) (tails : ℕ → List (List ℕ)) (ws : List (List ℕ))
    (same-tails : (c : ℕ) → filtered (goes e (passed e p c)) ws ≡ tails c) where
  kept-before : (cs : List ℕ) → filtered (goes e p) (cells_before cs ws) ≡ blocks (allowed p) tails cs
  unfolding cells_before blocks goes filtered
  kept-before [] = refl
  kept-before (c ∷ cs) =
      kept_append (goes e p) (map (λ w. c ∷ w) ws) (cells_before cs ws)
      ∙ rw (kept_block (goes e p) (goes e (passed e p c)) c (allowed p c) (λ w. refl) ws, same-tails c, kept-before cs)

pub kept_goes : (e : ℕ) (cells : List ℕ) (n : ℕ) (p : Spot) → filtered (goes e p) (strings cells n) ≡ endings e cells p n
unfolding strings endings filtered goes
kept_goes e cells zero p = refl
kept_goes e cells (suc n) p =
    kept-before e p (λ c. endings e cells (passed e p c) n) (strings cells n) (λ c. kept_goes e cells n (passed e p c)) cells

-- ---- whether there are any, and the first

unfoldable pub full : List (List ℕ) → Bool
full [] = false
full (w ∷ ws) = true

full-append : (xs ys : List (List ℕ)) → full (xs ++ ys) ≡ pick (full xs) true (full ys)
unfolding full
full-append [] ys = refl
full-append (x ∷ xs) ys = refl

full_block : (b : Bool) (c : ℕ) (ws : List (List ℕ)) → full (pick b (map (λ w. c ∷ w) ws) []) ≡ pick b (full ws) false
unfolding full
full_block true c [] = refl
full_block true c (w ∷ ws) = refl
full_block false c ws = refl

pub full-blocks : (ok : ℕ → Bool) (tails : ℕ → List (List ℕ)) (cs : List ℕ)
    → full (blocks ok tails cs) ≡ any_cell (λ c. pick (ok c) (full (tails c)) false) cs
unfolding blocks any_cell full
full-blocks ok tails [] = refl
full-blocks ok tails (c ∷ cs) =
    full-append (pick (ok c) (map (λ w. c ∷ w) (tails c)) []) (blocks ok tails cs)
    ∙ rw (full_block (ok c) c (tails c), full-blocks ok tails cs)

pub head-append : (xs ys : List (List ℕ)) → first_in (xs ++ ys) ≡ or_else (first_in xs) (first_in ys)
unfolding first_in or_else
head-append [] ys = refl
head-append (x ∷ xs) ys = refl

pub head-map : (c : ℕ) (ws : List (List ℕ)) → first_in (map (λ w. c ∷ w) ws) ≡ prefixed (c ∷ []) (first_in ws)
unfolding first_in prefixed
head-map c [] = refl
head-map c (w ∷ ws) = refl

module _ (ok fit : ℕ → Bool) (tails : ℕ → List (List ℕ)) (fits-full : (c : ℕ) → ok c ≡ true → full (tails c) ≡ fit c) where
  -- one block before the others
  head-one : (c : ℕ) (rest : Listed) (b : Bool) → ok c ≡ b → (ws : List (List ℕ)) → tails c ≡ ws → (d : Bool) → full ws ≡ d
      → (b ≡ true → d ≡ fit c) → (q : Option ℕ) → chosen (λ x. first_in (tails x)) q ≡ rest
      → or_else (first_in (pick b (map (λ w. c ∷ w) ws) [])) rest ≡ chosen (λ x. first_in (tails x)) (pick (pick b (fit c) false) (Some c) q)
  unfolding first_in or_else chosen prefixed full
  head-one c rest true o [] t d f g q r = rw (← g refl, ← f) (sym r)
  head-one c rest true o (w ∷ ws) t d f g q r = rw (← g refl, ← f, t)
  head-one c rest false o ws t d f g q r = sym r

  pub head-blocks : (cs : List ℕ)
      → first_in (blocks ok tails cs) ≡ chosen (λ c. first_in (tails c)) (first_of (λ c. pick (ok c) (fit c) false) cs)
  unfolding blocks first_of chosen first_in
  head-blocks [] = refl
  head-blocks (c ∷ cs) =
      head-append (pick (ok c) (map (λ w. c ∷ w) (tails c)) []) (blocks ok tails cs)
      ∙ head-one c (first_in (blocks ok tails cs)) (ok c) refl (tails c) refl (full (tails c)) refl (λ t. fits-full c t)
      (first_of (λ x. pick (ok x) (fit x) false) cs) (sym (head-blocks cs))
