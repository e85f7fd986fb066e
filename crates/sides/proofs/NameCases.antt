-- A law for each case of what pairs and copies name.
use Prim.Native.Nat.{ℕ, ◌-◌, ◌*◌, ◌<◌, ◌≤◌}
use mathlib.Core.Path.{◌≡◌, refl, sym, ap, ◌∙◌}
use mathlib.Core.Bool.{Bool, false, ◌&&◌}
use mathlib.Core.List.{List, [], ◌∷◌}
use native.Mathlib.Omega.{arith}
use lib.Dec.{eqb, leb, ltb}
use lib.ListN.{length, get_or, take, drop}
use lib.Seq.{take-length}
use borrow.Author.Tests.{lt-ltb, le-ltb, eq-eqb, ne_eqb}
use Rattle.basis.specs.Choice.{pick}
use Rattle.basis.proofs.Cases.{by_cases}
use Rattle.plain.specs.Joins.{pairs_named, copies_named, named}
use Rattle.sides.specs.Names.{variables_of}

-- the cells behind the first two
behind-two : (x y : ℕ) (r : List ℕ) → take (length (x ∷ y ∷ r) - 2) (drop 2 (x ∷ y ∷ r)) ≡ r
behind-two x y r =
    let e : length (x ∷ y ∷ r) - 2 ≡ length r = omega arith in
    ap (λ (k : ℕ). take k r) e ∙ take-length r

-- ---- pairs

module _ (m n : ℕ) where
  pub pairs-ended : (r : List ℕ) → length r < 2 → eqb (length r) 0 ≡ pairs_named m n r
  unfolding pairs_named
  pairs-ended [] h = refl
  pairs-ended (x ∷ []) h = refl
  pairs-ended (x ∷ y ∷ r) h = absurd (omega arith)

  pub pairs_first : (r : List ℕ) → 2 ≤ length r → m ≤ get_or r 0 0 → false ≡ pairs_named m n r
  unfolding pairs_named
  pairs_first [] h l = absurd (omega arith)
  pairs_first (x ∷ []) h l = absurd (omega arith)
  pairs_first (x ∷ y ∷ r) h l = simp (le-ltb _ _ l)

  pub pairs-second : (r : List ℕ) → 2 ≤ length r → get_or r 0 0 < m → n ≤ get_or r 1 0 → false ≡ pairs_named m n r
  unfolding pairs_named
  pairs-second [] h k l = absurd (omega arith)
  pairs-second (x ∷ []) h k l = absurd (omega arith)
  pairs-second (x ∷ y ∷ r) h k l = simp (lt-ltb _ _ k, le-ltb _ _ l)

  pub pairs_next : (r : List ℕ) → 2 ≤ length r → get_or r 0 0 < m → get_or r 1 0 < n
      → pairs_named m n (take (length r - 2) (drop 2 r)) ≡ pairs_named m n r
  unfolding pairs_named
  pairs_next [] h k l = absurd (omega arith)
  pairs_next (x ∷ []) h k l = absurd (omega arith)
  pairs_next (x ∷ y ∷ r) h k l = ap (pairs_named m n) (behind-two x y r) ∙ simp (lt-ltb _ _ k, lt-ltb _ _ l)

-- ---- copies

module _ (m n side : ℕ) where
  pub side-first : side ≡ 0 → m ≡ variables_of m n side
  unfolding variables_of
  side-first e = simp (eq-eqb _ _ e)

  pub side-second : side ≡ 1 → n ≡ variables_of m n side
  unfolding variables_of
  side-second e = simp (ne_eqb side 0 (λ z. omega arith), eq-eqb _ _ e)

  pub side-none : (side ≡ 0 → ⊥) → (side ≡ 1 → ⊥) → 0 ≡ variables_of m n side
  unfolding variables_of
  side-none e f = simp (ne_eqb _ _ e, ne_eqb _ _ f)

  copy_step : (x : ℕ) (rest : Bool)
      → pick (eqb side 0) (pick (ltb x m) rest false) (pick (eqb side 1) (pick (ltb x n) rest false) false)
      ≡ pick (ltb x (variables_of m n side)) rest false
  unfolding variables_of
  copy_step x rest =
      by_cases (eqb side 0) (λ e. rw e refl) (λ e.
      by_cases (eqb side 1) (λ f. rw (e, f) refl) (λ f. rw (e, f, le-ltb x 0 (omega arith)) refl))

module _ (m n : ℕ) where
  pub copies-ended : (r : List ℕ) → length r < 2 → eqb (length r) 0 ≡ copies_named m n r
  unfolding copies_named
  copies-ended [] h = refl
  copies-ended (x ∷ []) h = refl
  copies-ended (x ∷ y ∷ r) h = absurd (omega arith)

  pub copies-above : (r : List ℕ) → 2 ≤ length r → variables_of m n (get_or r 0 0) ≤ get_or r 1 0 → false ≡ copies_named m n r
  unfolding copies_named
  copies-above [] h l = absurd (omega arith)
  copies-above (x ∷ []) h l = absurd (omega arith)
  copies-above (side ∷ x ∷ r) h l = sym (copy_step m n side x (copies_named m n r) ∙ simp (le-ltb _ _ l))

  pub copies-next : (r : List ℕ) → 2 ≤ length r → get_or r 1 0 < variables_of m n (get_or r 0 0)
      → copies_named m n (take (length r - 2) (drop 2 r)) ≡ copies_named m n r
  unfolding copies_named
  copies-next [] h l = absurd (omega arith)
  copies-next (x ∷ []) h l = absurd (omega arith)
  copies-next (side ∷ x ∷ r) h l =
      ap (copies_named m n) (behind-two side x r) ∙ sym (copy_step m n side x (copies_named m n r) ∙ simp (lt-ltb _ _ l))

-- ---- both

pub named-all : (m n : ℕ) (ps : List ℕ) (k : ℕ) (cs : List ℕ)
    → (((leb (length ps) 64 && eqb (length cs) (2 * k)) && pairs_named m n ps) && copies_named m n cs) ≡ named m n ps k cs
unfolding named
named-all m n ps k cs =
    by_cases (leb (length ps) 64) (λ a. rw a (
    by_cases (eqb (length cs) (2 * k)) (λ b. rw b (
    by_cases (pairs_named m n ps) (λ d. rw d refl) (λ d. rw d refl)))
    (λ b. rw b refl))) (λ a. rw a refl)
