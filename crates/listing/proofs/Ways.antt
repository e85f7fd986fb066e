-- The steps find what stands in the list: the first string that goes on from a place, and the one after a string.
use Rattle.std.specs.Prelude.{Some}
use Prim.Native.Nat.{ℕ, zero, suc, ◌+◌, ◌-◌, ◌≤◌, ◌<◌}
use mathlib.Core.Bool.{Bool, true, false}
use mathlib.Core.List.Memᴰ
use mathlib.Core.List.{List, [], ◌∷◌, ◌++◌, Memᴰ}
use mathlib.Core.Logic.{◌⊎◌, inl, inr}
use mathlib.Core.Path.{◌≡◌, refl, sym, ap, ◌∙◌}
use native.Mathlib.Omega.{arith}
use lib.ListN.{length}
use lib.Dec.{eqb, leb}
use borrow.Author.Tests.{eqb-true, eqb-false, lt-leb, eq-eqb, ne_eqb}
use Rattle.basis.specs.Choice.{pick}
use Rattle.basis.proofs.Tests.{true-not-false}
use Rattle.forms.specs.Cells.{kind, payload, tag, variable, shape_of}
use Rattle.forms.specs.Compact.{same}
use Rattle.forms.specs.Due.{arguments}
use Rattle.listing.specs.declared.Spot.{Spot}
use Rattle.listing.specs.Listing.{variable_cells, alphabet, is_symbol, contains, Listed, first_in, next_in}
use Rattle.listing.specs.Steps.{arguments_in, passed, allowed, any_cell, is_sum, terms_fit, can_go_on, first_of, prefixed, chosen, first_way, later_than, next_way, goes, spelt}
use Rattle.listing.proofs.Tests.{both, both_hold, same_test, some-cell, cell-some}
use Rattle.listing.proofs.Cases.{allowed-due, allowed-so}
use Rattle.listing.proofs.Strings.{blocks, endings, full, full-blocks, head-blocks}
use Rattle.listing.proofs.Members.{contains-member, next_in-blocks, goes-holds}
use Rattle.listing.proofs.Sums.{other, Fit, fits-cases, fits-cell, cell-fits}

-- ---- variables

-- a variable has no arguments, and no symbol is one
pub variable-arity : (e c : ℕ) → variable c ≡ true → arguments_in e c ≡ 0
unfolding shape_of arguments
variable-arity e c h = let k : kind c ≡ 1 = eqb-true (kind c) 1 h in rw k

pub tag-variable : (v : ℕ) → v < 8 → (variable (tag 1 v) ≡ true) × (payload (tag 1 v) ≡ v)
tag-variable v h = (eq-eqb (kind (tag 1 v)) 1 (omega arith), omega arith)

-- the variables are by number
pub variables-member : (v n c : ℕ) → Memᴰ c (variable_cells v n) → (i : ℕ) × (v ≤ i) × (i < v + n) × (c ≡ tag 1 i)
unfolding variable_cells
variables-member v zero c m = absurd (mathlib.Core.List.Memᴰ.not-nil m)
variables-member v (suc n) c m = go (Memᴰ.cases_cons m) (λ k. variables-member (suc v) n c k)
  where
    go : (c ≡ tag 1 v) ⊎ Memᴰ c (variable_cells (suc v) n)
        → (Memᴰ c (variable_cells (suc v) n) → (i : ℕ) × (suc v ≤ i) × (i < suc v + n) × (c ≡ tag 1 i))
        → (i : ℕ) × (v ≤ i) × (i < v + suc n) × (c ≡ tag 1 i)
    go (inl q) f = (v, omega arith, omega arith, q)
    go (inr k) f = let r = f k in (r.0, omega (arith, r.1), omega (arith, r.2), r.3)

-- ---- symbols and size as they may be given

module _ (e s : ℕ) (symbols : List ℕ) (some-cells : 0 < s) (few-cells : s ≤ 8) (are : (c : ℕ) → Memᴰ c symbols → is_symbol e c ≡ true) where
  -- a cell that may be used is a symbol, or has no arguments
  cell-kind : (c : ℕ) → Memᴰ c (alphabet s symbols) → Memᴰ c symbols ⊎ (arguments_in e c ≡ 0)
  unfolding alphabet
  cell-kind c m = go (Memᴰ.append_cases symbols m)
    where
      go : Memᴰ c symbols ⊎ Memᴰ c (variable_cells 0 s) → Memᴰ c symbols ⊎ (arguments_in e c ≡ 0)
      go (inl k) = inl k
      go (inr k) =
          let r = variables-member 0 s c k in
          let l : r.0 < 8 = omega (arith, r.2) in
          inr (variable-arity e c (ap variable r.3 ∙ (tag-variable r.0 l).0))

  symbol-constant : (c : ℕ) → is_symbol e c ≡ true → variable c ≡ false
  unfolding is_symbol
  symbol-constant c h = (other (variable c) _ h).0

  first-variable : Memᴰ (tag 1 0) (alphabet s symbols)
  unfolding alphabet variable_cells
  first-variable = Memᴰ.append_right symbols (go s some-cells)
    where
      go : (n : ℕ) → 0 < n → Memᴰ (tag 1 0) (variable_cells 0 n)
      go zero h = absurd (omega arith)
      go (suc n) h = Memᴰ.head refl

  -- ---- whether there are any

  abbrev open_test : Spot → ℕ → ℕ → Bool
  open_test p n c = pick (allowed p c) (full (endings e (alphabet s symbols) (passed e p c) n)) false

  module _ (p : Spot) (after_first : 0 < p.at) (n : ℕ)
      (fit : (c : ℕ) → full (endings e (alphabet s symbols) (passed e p c) n) ≡ terms_fit e symbols (passed e p c).due n) where
    there : any_cell (open_test p n) (alphabet s symbols) ≡ true → terms_fit e symbols p.due (suc n) ≡ true
    unfolding passed
    there h =
        let r = some-cell (open_test p n) (alphabet s symbols) h in
        let b = both (allowed p r.0) _ r.2 in
        let g : 0 < p.due = allowed-due p r.0 b.0 in
        let a : ℕ = arguments_in e r.0 in
        let y : p.due + a - 1 ≡ p.due - 1 + a = omega arith in
        let z : p.due ≡ suc (p.due - 1) = omega arith in
        let f : terms_fit e symbols (p.due + a - 1) n ≡ true = sym (fit r.0) ∙ b.1 in
        rw z (fits-cell e symbols (p.due - 1) n r.0 (cell-kind r.0 r.1) (ap (λ (i : ℕ). terms_fit e symbols i n) (sym y) ∙ f))

    may-stand : (c : ℕ) → 0 < p.due → (variable c ≡ true → payload c ≤ p.known) → allowed p c ≡ true
    may-stand c g v = allowed-so p c g (rw (ne_eqb p.at 0 (λ q. omega arith))) v

    back : terms_fit e symbols p.due (suc n) ≡ true → any_cell (open_test p n) (alphabet s symbols) ≡ true
    unfolding passed alphabet
    back h = go (fits-cases e symbols p.due (suc n) h)
      where
        found : 0 < p.due → (c : ℕ) → Memᴰ c (symbols ++ variable_cells 0 s) → (variable c ≡ true → payload c ≤ p.known)
            → terms_fit e symbols (p.due - 1 + arguments_in e c) n ≡ true → any_cell (open_test p n) (symbols ++ variable_cells 0 s) ≡ true
        found g c m v f =
            let y : p.due + arguments_in e c - 1 ≡ p.due - 1 + arguments_in e c = omega arith in
            cell-some (open_test p n) m (both_hold (may-stand c g v) (fit c ∙ ap (λ (i : ℕ). terms_fit e symbols i n) y ∙ f))

        some-symbol : 0 < p.due → ((c : ℕ) × Memᴰ c symbols × (terms_fit e symbols (p.due - 1 + arguments_in e c) n ≡ true)) ⊎ (terms_fit e symbols (p.due - 1) n ≡ true)
            → any_cell (open_test p n) (symbols ++ variable_cells 0 s) ≡ true
        some-symbol g (inl r) =
            found g r.0 (Memᴰ.append_left (variable_cells 0 s) r.1)
            (λ q. absurd (true-not-false q (sym (symbol-constant r.0 (are r.0 r.1))))) r.2
        some-symbol g (inr f) =
            let a = tag-variable 0 (omega arith) in
            let z : p.due - 1 + arguments_in e (tag 1 0) ≡ p.due - 1 = omega (arith, variable-arity e (tag 1 0) a.0) in
            found g (tag 1 0) first-variable (λ q. omega (arith, a.1)) (ap (λ (i : ℕ). terms_fit e symbols i n) z ∙ f)

        go : Fit e symbols p.due (suc n) → any_cell (open_test p n) (symbols ++ variable_cells 0 s) ≡ true
        go (inl z) = absurd (omega (arith, z.1))
        go (inr r) =
            let z : p.due ≡ suc (p.due - 1) = omega (arith, r.0) in
            some-symbol r.0 (cell-fits e symbols (p.due - 1) n (ap (λ (i : ℕ). terms_fit e symbols i (suc n)) (sym z) ∙ h))

    full-next : full (endings e (alphabet s symbols) p (suc n)) ≡ terms_fit e symbols p.due (suc n)
    unfolding endings
    full-next =
        full-blocks (allowed p) (λ c. endings e (alphabet s symbols) (passed e p c) n) (alphabet s symbols)
        ∙ same_test _ _ there back

  -- after the first cell, strings go on exactly where the terms due fit
  pub full-fits : (n : ℕ) (p : Spot) → 0 < p.at → full (endings e (alphabet s symbols) p n) ≡ terms_fit e symbols p.due n
  unfolding endings full terms_fit passed
  full-fits zero p h = go (eqb p.due 0) refl
    where
      go : (b : Bool) → eqb p.due 0 ≡ b → full (pick b ([] ∷ []) []) ≡ pick b true (pick (leb p.due 0) (is_sum e symbols (0 - p.due)) false)
      go true q = refl
      go false q = let z : (p.due ≡ 0 → ⊥) = eqb-false p.due 0 q in rw (lt-leb p.due 0 (omega arith))
  full-fits (suc n) p h = full-next p h n (λ c. full-fits n (passed e p c) (omega arith))

  -- ---- the first

  -- where no cell is left, no term is due
  abbrev pub Ended : Spot → ℕ → Type 0
  Ended p zero = p.due ≡ 0
  Ended p (suc n) = Unit {0}

  fits-ended : (n : ℕ) (p : Spot) → terms_fit e symbols p.due n ≡ true → Ended p n
  fits-ended zero p h = go (fits-cases e symbols p.due 0 h)
    where
      go : Fit e symbols p.due 0 → p.due ≡ 0
      go (inl z) = z.0
      go (inr r) = omega (arith, r.1)
  fits-ended (suc n) p h = tt

  -- what is chosen passed the test
  pub chosen-same : (test : ℕ → Bool) (f g : ℕ → Listed) → ((c : ℕ) → test c ≡ true → f c ≡ g c) → (cs : List ℕ)
      → chosen f (first_of test cs) ≡ chosen g (first_of test cs)
  unfolding first_of chosen
  chosen-same test f g h [] = refl
  chosen-same test f g h (c ∷ cs) = go (test c) refl (chosen-same test f g h cs)
    where
      go : (b : Bool) → test c ≡ b → chosen f (first_of test cs) ≡ chosen g (first_of test cs)
          → chosen f (pick b (Some c) (first_of test cs)) ≡ chosen g (pick b (Some c) (first_of test cs))
      go true q i = ap (prefixed (c ∷ [])) (h c q)
      go false q i = i

  -- the first string that begins with one of the cells
  head-chosen : (n : ℕ) (p : Spot)
      → ((q : Spot) → Ended q n → first_in (endings e (alphabet s symbols) q n) ≡ first_way e symbols (alphabet s symbols) q n) → (cs : List ℕ)
      → first_in (blocks (allowed p) (λ c. endings e (alphabet s symbols) (passed e p c) n) cs)
      ≡ chosen (λ c. first_way e symbols (alphabet s symbols) (passed e p c) n) (first_of (can_go_on e symbols p n) cs)
  unfolding can_go_on passed
  head-chosen n p ih cs =
      head-blocks (allowed p) (λ c. terms_fit e symbols (passed e p c).due n) (λ c. endings e (alphabet s symbols) (passed e p c) n)
      (λ c o. full-fits n (passed e p c) (omega arith)) cs
      ∙ chosen-same (can_go_on e symbols p n) (λ c. first_in (endings e (alphabet s symbols) (passed e p c) n)) (λ c. first_way e symbols (alphabet s symbols) (passed e p c) n)
      (λ c h. ih (passed e p c) (fits-ended n (passed e p c) (both (allowed p c) _ h).1)) cs

  pub head-filled : (n : ℕ) (p : Spot) → Ended p n → first_in (endings e (alphabet s symbols) p n) ≡ first_way e symbols (alphabet s symbols) p n
  unfolding endings first_way first_in
  head-filled zero p h = rw (eq-eqb p.due 0 h)
  head-filled (suc n) p h = head-chosen n p (head-filled n) (alphabet s symbols)

  -- ---- the one after

  next-chosen : (c : ℕ) (cs : List ℕ) (p : Spot)
      → first_in (blocks (allowed p) (λ d. endings e (alphabet s symbols) (passed e p d) (length cs)) (later_than (alphabet s symbols) c))
      ≡ chosen (λ d. first_way e symbols (alphabet s symbols) (passed e p d) (length cs)) (first_of (can_go_on e symbols p (length cs)) (later_than (alphabet s symbols) c))
  next-chosen c cs p = head-chosen (length cs) p (head-filled (length cs)) (later_than (alphabet s symbols) c)

  -- from a place that begins so, the string that goes on so has another after it by the steps
  pub next_in-next : (w : List ℕ) (p : Spot) → goes e p w ≡ true → spelt (alphabet s symbols) w ≡ true
      → next_in w (endings e (alphabet s symbols) p (length w)) ≡ next_way e symbols (alphabet s symbols) p w
  unfolding goes spelt endings next_way next_in first_in same
  next_in-next [] p g m = rw g
  next_in-next (c ∷ cs) p g m =
      let b = both (allowed p c) _ g in
      let k = both (contains (alphabet s symbols) c) _ m in
      let tails : ℕ → List (List ℕ) = λ d. endings e (alphabet s symbols) (passed e p d) (length cs) in
      next_in-blocks (allowed p) tails c cs b.0 (goes-holds e (alphabet s symbols) cs (passed e p c) b.1 k.1) (alphabet s symbols)
      (contains-member (alphabet s symbols) c k.0)
      ∙ rw (next_in-next cs (passed e p c) b.1 k.1, next-chosen c cs p)
