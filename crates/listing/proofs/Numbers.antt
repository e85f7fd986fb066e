-- Cells are numbered exactly where each variable is a known one or the next.
use Prim.Native.Nat.{ℕ, zero, suc, ◌+◌, ◌-◌, ◌≤◌, ◌<◌}
use mathlib.Core.Bool.{Bool, true, false}
use mathlib.Core.List.{List, [], ◌∷◌, ◌++◌, map, head-eq_of_cons-eq, tail-eq_of_cons-eq}
use mathlib.Core.Path.{◌≡◌, refl, sym, ap, ◌∙◌}
use native.Mathlib.Omega.{arith}
use lib.ListN.{length, length-append}
use lib.Dec.{eqb, leb, ltb}
use borrow.Author.Tests.{leb-true, leb-false, ltb-true, ltb-false, eqb-true, eqb-false, le-leb, lt-leb, eq-eqb, ne_eqb}
use Rattle.basis.specs.Choice.{pick}
use Rattle.basis.proofs.Tests.{true-not-false}
use Rattle.forms.specs.Cells.{kind, payload, tag, variable}
use Rattle.forms.specs.Numbering.{rank, seen, met, renamed, numbered}
use Rattle.forms.proofs.NumberingLaws.{rank-append, in-seen}
use Rattle.listing.specs.Listing.{variable_cells}
use Rattle.listing.specs.Steps.{known_after}

pub variable-cell : (c : ℕ) → variable c ≡ true → c ≡ tag 1 (payload c)
variable-cell c h = let k : kind c ≡ 1 = eqb-true (kind c) 1 h in omega arith

pub variables-length : (v n : ℕ) → length (variable_cells v n) ≡ n
unfolding variable_cells
variables-length v zero = refl
variables-length v (suc n) = ap suc (variables-length (suc v) n)

variables-snoc : (v n : ℕ) → variable_cells v (suc n) ≡ variable_cells v n ++ (tag 1 (v + n) ∷ [])
unfolding variable_cells
variables-snoc v zero = let z : v + 0 ≡ v = omega arith in rw z
variables-snoc v (suc n) = let z : suc v + n ≡ v + suc n = omega arith in rw (← z) (ap (λ (l : List ℕ). tag 1 v ∷ l) (variables-snoc (suc v) n))

-- the place of a variable among the first n is its number, or n
pub variables-rank : (v n i : ℕ) → v ≤ i → i < v + n → rank (variable_cells v n) (tag 1 i) ≡ i - v
unfolding variable_cells rank
variables-rank v zero i l h = absurd (omega arith)
variables-rank v (suc n) i l h = go (eqb (tag 1 v) (tag 1 i)) refl (λ k. variables-rank (suc v) n i k (omega arith))
  where
    go : (b : Bool) → eqb (tag 1 v) (tag 1 i) ≡ b → (suc v ≤ i → rank (variable_cells (suc v) n) (tag 1 i) ≡ i - suc v)
        → pick b 0 (suc (rank (variable_cells (suc v) n) (tag 1 i))) ≡ i - v
    go true q f = let z : tag 1 v ≡ tag 1 i = eqb-true _ _ q in omega arith
    go false q f =
        let z : (tag 1 v ≡ tag 1 i → ⊥) = eqb-false _ _ q in
        let k : suc v ≤ i = omega arith in
        omega (arith, f k)

pub variables-without : (v n i : ℕ) → v + n ≤ i → rank (variable_cells v n) (tag 1 i) ≡ n
unfolding variable_cells rank
variables-without v zero i h = refl
variables-without v (suc n) i h = rw (ne_eqb (tag 1 v) (tag 1 i) (λ q. omega arith)) (ap suc (variables-without (suc v) n i (omega arith)))

-- each variable is a known one or the next
abbrev pub ByNumber : ℕ → List ℕ → Type 0
ByNumber k [] = Unit {0}
ByNumber k (c ∷ cs) = (variable c ≡ true → payload c ≤ k) × ByNumber (known_after k c) cs

seen-known : (k c : ℕ) → (variable c ≡ true → payload c ≤ k) → seen (variable_cells 0 k) c ≡ variable_cells 0 (known_after k c)
unfolding seen known_after
seen-known k c f = go (variable c) refl
  where
    inside : variable c ≡ true → (b : Bool) → ltb (payload c) k ≡ b
        → pick (leb (length (variable_cells 0 k)) (rank (variable_cells 0 k) c)) (variable_cells 0 k ++ (c ∷ [])) (variable_cells 0 k) ≡ variable_cells 0 (pick b k (suc (payload c)))
    inside v true q =
        let l : payload c < k = ltb-true _ _ q in
        let r : rank (variable_cells 0 k) c ≡ payload c - 0 = ap (rank (variable_cells 0 k)) (variable-cell c v) ∙ variables-rank 0 k (payload c) (omega arith) (omega arith) in
        rw (lt-leb (length (variable_cells 0 k)) (rank (variable_cells 0 k) c) (omega (arith, variables-length 0 k)))
    inside v false q =
        let l : k ≤ payload c = ltb-false _ _ q in
        let z : payload c ≡ k = omega (arith, f v) in
        let r : rank (variable_cells 0 k) c ≡ k = ap (rank (variable_cells 0 k)) (variable-cell c v) ∙ variables-without 0 k (payload c) (omega arith) in
        let x : c ≡ tag 1 (0 + k) = omega (arith, variable-cell c v) in
        rw (le-leb (length (variable_cells 0 k)) (rank (variable_cells 0 k) c) (omega (arith, variables-length 0 k)), z)
        (ap (λ (y : ℕ). variable_cells 0 k ++ (y ∷ [])) x ∙ sym (variables-snoc 0 k))

    go : (b : Bool) → variable c ≡ b
        → pick b (pick (leb (length (variable_cells 0 k)) (rank (variable_cells 0 k) c)) (variable_cells 0 k ++ (c ∷ [])) (variable_cells 0 k)) (variable_cells 0 k)
        ≡ variable_cells 0 (pick b (pick (ltb (payload c) k) k (suc (payload c))) k)
    go true v = inside v (ltb (payload c) k) refl
    go false v = refl

-- ---- numbered so, cells stay as they are

known_in : ℕ → List ℕ → ℕ
known_in k [] = k
known_in k (c ∷ cs) = known_in (known_after k c) cs

met-known : (cs : List ℕ) (k : ℕ) → ByNumber k cs → met (variable_cells 0 k) cs ≡ variable_cells 0 (known_in k cs)
unfolding met known_in
met-known [] k f = refl
met-known (c ∷ cs) k f = ap (λ (vs : List ℕ). met vs cs) (seen-known k c f.0) ∙ met-known cs (known_after k c) f.1

after_more : (k c : ℕ) → (k ≤ known_after k c) × (variable c ≡ true → payload c < known_after k c)
unfolding known_after
after_more k c = go (variable c) (ltb (payload c) k) refl
  where
    go : (b d : Bool) → ltb (payload c) k ≡ d → (k ≤ pick b (pick d k (suc (payload c))) k) × (b ≡ true → payload c < pick b (pick d k (suc (payload c))) k)
    go true true q = (omega arith, λ v. ltb-true _ _ q)
    go true false q = let l : k ≤ payload c = ltb-false _ _ q in (omega arith, λ v. omega arith)
    go false d q = (omega arith, λ v. absurd (true-not-false v refl))

known_more : (cs : List ℕ) (k : ℕ) → k ≤ known_in k cs
unfolding known_in
known_more [] k = omega arith
known_more (c ∷ cs) k = omega (arith, (after_more k c).0, known_more cs (known_after k c))

-- each variable is one of the first n
abbrev Below : ℕ → List ℕ → Type 0
Below n [] = Unit {0}
Below n (c ∷ cs) = (variable c ≡ true → payload c < n) × Below n cs

below-known : (cs : List ℕ) (k n : ℕ) → known_in k cs ≤ n → Below n cs
unfolding known_in
below-known [] k n h = tt
below-known (c ∷ cs) k n h = (
  (λ v. omega (arith, (after_more k c).1 v, known_more cs (known_after k c))),
  below-known cs (known_after k c) n h,
)

renamed-same : (n c : ℕ) → (variable c ≡ true → payload c < n) → renamed (variable_cells 0 n) c ≡ c
unfolding renamed
renamed-same n c f = go (variable c) refl
  where
    go : (b : Bool) → variable c ≡ b → pick b (tag 1 (rank (variable_cells 0 n) c)) c ≡ c
    go true v =
        let r : rank (variable_cells 0 n) c ≡ payload c - 0 = ap (rank (variable_cells 0 n)) (variable-cell c v) ∙ variables-rank 0 n (payload c) (omega arith) (omega (arith, f v)) in
        omega (arith, variable-cell c v)
    go false v = refl

all_same : (n : ℕ) (cs : List ℕ) → Below n cs → map (renamed (variable_cells 0 n)) cs ≡ cs
all_same n [] f = refl
all_same n (c ∷ cs) f = rw (renamed-same n c f.0, all_same n cs f.1)

pub by-number-numbered : (cs : List ℕ) → ByNumber 0 cs → numbered cs ≡ cs
unfolding numbered variable_cells
by-number-numbered cs f =
    ap (λ (vs : List ℕ). map (renamed vs) cs) (met-known cs 0 f)
    ∙ all_same (known_in 0 cs) cs (below-known cs 0 (known_in 0 cs) (omega arith))

-- ---- and no others do

seen-rank : (vs : List ℕ) (c x : ℕ) → rank vs x < length vs → rank (seen vs c) x ≡ rank vs x
unfolding seen
seen-rank vs c x h = go (variable c) (leb (length vs) (rank vs c))
  where
    go : (b d : Bool) → rank (pick b (pick d (vs ++ (c ∷ [])) vs) vs) x ≡ rank vs x
    go true true = rank-append vs (c ∷ []) x h
    go true false = refl
    go false d = refl

met-rank : (cs vs : List ℕ) (x : ℕ) → rank vs x < length vs → rank (met vs cs) x ≡ rank vs x
unfolding met
met-rank [] vs x h = refl
met-rank (c ∷ cs) vs x h = met-rank cs (seen vs c) x (in-seen vs c x h) ∙ seen-rank vs c x h

rank-last : (vs : List ℕ) (c : ℕ) → rank vs c ≡ length vs → rank (vs ++ (c ∷ [])) c ≡ length vs
unfolding rank
rank-last [] c h = rw (eq-eqb c c refl)
rank-last (x ∷ xs) c h = go (eqb x c) h (λ k. rank-last xs c k)
  where
    go : (b : Bool) → pick b 0 (suc (rank xs c)) ≡ suc (length xs) → (rank xs c ≡ length xs → rank (xs ++ (c ∷ [])) c ≡ length xs)
        → pick b 0 (suc (rank (xs ++ (c ∷ [])) c)) ≡ suc (length xs)
    go true k f = k
    go false k f = ap suc (f (omega arith))

-- a variable that is met first gets the next number
next-number : (cs : List ℕ) (k c : ℕ) → variable c ≡ true → k ≤ payload c → rank (met (seen (variable_cells 0 k) c) cs) c ≡ k
unfolding seen
next-number cs k c v l =
    let r : rank (variable_cells 0 k) c ≡ k = ap (rank (variable_cells 0 k)) (variable-cell c v) ∙ variables-without 0 k (payload c) (omega arith) in
    let n : length (variable_cells 0 k) ≡ k = variables-length 0 k in
    let g : rank (variable_cells 0 k ++ (c ∷ [])) c ≡ k = rank-last (variable_cells 0 k) c (r ∙ sym n) ∙ n in
    let w : rank (variable_cells 0 k ++ (c ∷ [])) c < length (variable_cells 0 k ++ (c ∷ [])) = simp length-append (omega arith) in
    rw (v, le-leb (length (variable_cells 0 k)) (rank (variable_cells 0 k) c) (omega arith)) (met-rank cs (variable_cells 0 k ++ (c ∷ [])) c w ∙ g)

renamed-variable : (vs : List ℕ) (c : ℕ) → variable c ≡ true → renamed vs c ≡ tag 1 (rank vs c)
unfolding renamed
renamed-variable vs c v = rw v

stays-by-number : (cs : List ℕ) (k : ℕ) → map (renamed (met (variable_cells 0 k) cs)) cs ≡ cs → ByNumber k cs
unfolding met
stays-by-number [] k h = tt
stays-by-number (c ∷ cs) k h =
    let small : variable c ≡ true → payload c ≤ k = λ v. at-most-next v (leb (payload c) k) refl in
    let z : seen (variable_cells 0 k) c ≡ variable_cells 0 (known_after k c) = seen-known k c small in
    (small, stays-by-number cs (known_after k c) (ap (λ (vs : List ℕ). map (renamed (met vs cs)) cs) (sym z) ∙ tail-eq_of_cons-eq h))
  where
    at-most-next : variable c ≡ true → (b : Bool) → leb (payload c) k ≡ b → payload c ≤ k
    at-most-next v true q = leb-true _ _ q
    at-most-next v false q =
        let l : k < payload c = leb-false _ _ q in
        let r : rank (met (seen (variable_cells 0 k) c) cs) c ≡ k = next-number cs k c v (omega arith) in
        let y : tag 1 (rank (met (seen (variable_cells 0 k) c) cs) c) ≡ c = sym (renamed-variable _ c v) ∙ head-eq_of_cons-eq h in
        omega (arith, variable-cell c v)

pub numbered-by-number : (cs : List ℕ) → numbered cs ≡ cs → ByNumber 0 cs
unfolding numbered variable_cells
numbered-by-number cs h = stays-by-number cs 0 h

-- a variable by number makes at most one more known
pub known_next : (k c : ℕ) → (variable c ≡ true → payload c ≤ k) → known_after k c ≤ suc k
unfolding known_after
known_next k c f = go (variable c) refl (ltb (payload c) k)
  where
    go : (b : Bool) → variable c ≡ b → (d : Bool) → pick b (pick d k (suc (payload c))) k ≤ suc k
    go true v true = omega arith
    go true v false = omega (arith, f v)
    go false v d = omega arith
