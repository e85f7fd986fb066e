-- The cells of terms, counted by their tokens.
use Prim.Native.Nat.{ℕ, suc, ◌+◌, ◌<◌}
use mathlib.Core.Bool.{Bool, true, false}
use mathlib.Core.List.{List, [], ◌∷◌, ◌++◌}
use mathlib.Core.Path.{◌≡◌, refl, ap, ◌∙◌}
use native.Mathlib.Omega.{arith}
use lib.Dec.{eqb}
use lib.ListN.{length, take, get_or, length-append}
use borrow.Author.Tests.{ne_eqb}
use Rattle.basis.specs.Choice.{pick}
use Rattle.basis.proofs.Cases.{by_cases}
use Rattle.forms.specs.declared.Shape.{Shape}
use Rattle.forms.specs.declared.Shape.TheVariants.{Symbol}
use Rattle.forms.specs.Cells.{nil, PAIR, BLIST, ELIST, EPAIR, shape_of}
use Rattle.forms.specs.Due.{arguments}
use Rattle.forms.specs.Terms.{Term, cell, arg, pair, pairs, every}
use Rattle.forms.specs.Compact.{compact, elements}
use Rattle.forms.proofs.ReadLaws.{WellFormed, AllWellFormed}
use Rattle.convert.proofs.CopyLaws.{take-grow}
use Rattle.parts.specs.Segments.{takes, solid, weight, weights, all_take}

module _ (arity : ℕ → ℕ) where
  -- ---- tokens one behind another

  pub weights-append : (xs ys : List ℕ) → weights arity (xs ++ ys) ≡ weights arity xs + weights arity ys
  unfolding weights
  weights-append [] ys = omega arith
  weights-append (x ∷ xs) ys = omega (arith, weights-append xs ys)

  pub take-append : (xs ys : List ℕ) → all_take arity (xs ++ ys) ≡ all_take arity xs + all_take arity ys
  unfolding all_take
  take-append [] ys = omega arith
  take-append (x ∷ xs) ys = omega (arith, take-append xs ys)

  -- one token more
  pub weights-grow : (s : List ℕ) (i : ℕ) → i < length s → weights arity (take (i + 1) s) ≡ weights arity (take i s) + weight arity (get_or s i 0)
  unfolding weights
  weights-grow s i h = ap (weights arity) (take-grow s i h) ∙ omega (arith, weights-append (take i s) (get_or s i 0 ∷ []))

  pub take-grow-one : (s : List ℕ) (i : ℕ) → i < length s → all_take arity (take (i + 1) s) ≡ all_take arity (take i s) + takes arity (get_or s i 0)
  unfolding all_take
  take-grow-one s i h = ap (all_take arity) (take-grow s i h) ∙ omega (arith, take-append (take i s) (get_or s i 0 ∷ []))

  -- a symbol of k arguments
  pub symbol-weight : (c k : ℕ) → shape_of arity c ≡ Symbol k → weight arity c ≡ 2
  unfolding weight solid
  symbol-weight c k e = by_cases (eqb c ELIST) (λ p. rw p) (λ p. rw (p, e))

  pub symbol-takes : (c k : ℕ) → shape_of arity c ≡ Symbol k → takes arity c ≡ k
  unfolding arguments
  symbol-takes c k e = rw e

  -- what stands for cells of its own
  pub solid-weight : (c : ℕ) (s : Shape) → shape_of arity c ≡ s → solid s ≡ true → weight arity c ≡ 2
  unfolding weight
  solid-weight c s e f = by_cases (eqb c ELIST) (λ p. rw p) (λ p. rw (p, e, f))

  -- what is none
  pub other-weight : (c : ℕ) (s : Shape) → (c ≡ ELIST → ⊥) → shape_of arity c ≡ s → solid s ≡ false → weight arity c ≡ 0
  unfolding weight
  other-weight c s n e f = rw (ne_eqb c ELIST n, e, f)

  -- ---- a term

  -- the tokens of a term that waits for k arguments count for this many cells
  abbrev pub Counted : List ℕ → ℕ → ℕ → Type 0
  Counted w k cells = cells + all_take arity w + 1 ≡ weights arity w + k

  counted-cell : (c k : ℕ) → shape_of arity c ≡ Symbol k → Counted (c ∷ []) k 1
  unfolding weights all_take
  counted-cell c k h = omega (arith, symbol-weight c k h, symbol-takes c k h)

  counted-both : (x y : List ℕ) (k cells others : ℕ) → Counted x (suc k) cells → Counted y 0 others → Counted (x ++ y) k (cells + others)
  counted-both x y k cells others p q = omega (arith, weights-append x y, take-append x y)

  -- the elements of a list from one of form e on, before the tail of so many cells
  abbrev Listed : List ℕ → List ℕ → ℕ → Type 0
  Listed e w cells = cells + all_take arity w + weights arity e + 1 ≡ weights arity w + all_take arity e

  listed-cell : (c : ℕ) (e : List ℕ) (b : Bool) → shape_of arity c ≡ Symbol 0 → Listed e (pick b (ELIST ∷ e) (e ++ (EPAIR ∷ c ∷ []))) 1
  unfolding weights all_take weight shape_of arguments solid
  listed-cell c e true s = omega arith
  listed-cell c e false s =
      omega (arith, weights-append e (EPAIR ∷ c ∷ []), take-append e (EPAIR ∷ c ∷ []), symbol-weight c 0 s, symbol-takes c 0 s)

  -- a tail behind EPAIR, and one whose elements go on
  listed-tail : (e w : List ℕ) (cells : ℕ) → Counted w 0 cells → Listed e (e ++ (EPAIR ∷ w)) cells
  unfolding weights all_take weight shape_of arguments solid
  listed-tail e w cells p = omega (arith, weights-append e (EPAIR ∷ w), take-append e (EPAIR ∷ w))

  listed_more : (e h w : List ℕ) (cells others : ℕ) → Counted h 0 cells → Listed h w others → Listed e (e ++ w) (suc (cells + others))
  listed_more e h w cells others p q = omega (arith, weights-append e w, take-append e w)

  listed-whole : (h w : List ℕ) (k cells others : ℕ) → k ≡ 0 → Counted h 0 cells → Listed h w others → Counted (BLIST ∷ w) k (suc (cells + others))
  unfolding weights all_take weight shape_of arguments solid
  listed-whole h w k cells others z p q = omega arith

  mutual
    unfolding compact pairs

    pub counted : (t : Term) (k : ℕ) → WellFormed (shape_of arity) t k → Counted (compact t) k (length (pairs t))
    counted (cell c) k h = counted-cell c k h
    counted (arg f a) k h = rw (length-append (pairs f) (pairs a)) (counted-both (compact f) (compact a) k (length (pairs f)) (length (pairs a)) (counted f (suc k) h.0) (counted a 0 h.1))
    counted (pair h t) k l = rw (length-append (pairs h) (pairs t)) (listed-whole (compact h) (elements (compact h) t) k (length (pairs h)) (length (pairs t)) l.0 (counted h 0 l.1) (listed t (compact h) l.2))

    listed : (t : Term) (e : List ℕ) → WellFormed (shape_of arity) t 0 → Listed e (elements e t) (length (pairs t))
    listed (cell c) e h = listed-cell c e (eqb c nil) h
    listed (arg f a) e h = rw (length-append (pairs f) (pairs a)) (listed-tail e (compact f ++ compact a) (length (pairs f) + length (pairs a)) (counted-both (compact f) (compact a) 0 (length (pairs f)) (length (pairs a)) (counted f 1 h.0) (counted a 0 h.1)))
    listed (pair h t) e l = rw (length-append (pairs h) (pairs t)) (listed_more e (compact h) (elements (compact h) t) (length (pairs h)) (length (pairs t)) (counted h 0 l.1) (listed t (compact h) l.2))

  -- ---- pair form

  counted-pair : (x y : List ℕ) (k cells others : ℕ) → k ≡ 0 → Counted x 0 cells → Counted y 0 others → Counted (PAIR ∷ (x ++ y)) k (suc (cells + others))
  unfolding weights all_take weight shape_of arguments solid
  counted-pair x y k cells others z p q = omega (arith, weights-append x y, take-append x y)

  pub counted-cells : (t : Term) (k : ℕ) → WellFormed (shape_of arity) t k → Counted (pairs t) k (length (pairs t))
  unfolding pairs
  counted-cells (cell c) k h = counted-cell c k h
  counted-cells (arg f a) k h = rw (length-append (pairs f) (pairs a)) (counted-both (pairs f) (pairs a) k (length (pairs f)) (length (pairs a)) (counted-cells f (suc k) h.0) (counted-cells a 0 h.1))
  counted-cells (pair h t) k l = rw (length-append (pairs h) (pairs t)) (counted-pair (pairs h) (pairs t) k (length (pairs h)) (length (pairs t)) l.0 (counted-cells h 0 l.1) (counted-cells t 0 l.2))

  -- ---- several

  pub every-counted : (tokens : Term → List ℕ) → ((t : Term) → WellFormed (shape_of arity) t 0 → Counted (tokens t) 0 (length (pairs t)))
      → (ts : List Term) → AllWellFormed (shape_of arity) ts
      → length (every pairs ts) + (all_take arity (every tokens ts) + length ts) ≡ weights arity (every tokens ts)
  unfolding every
  every-counted tokens one [] h = unfold weights in unfold all_take in refl
  every-counted tokens one (t ∷ ts) h =
      omega (
        arith,
        length-append (pairs t) (every pairs ts),
        weights-append (tokens t) (every tokens ts),
        take-append (tokens t) (every tokens ts),
        one t h.0,
        every-counted tokens one ts h.1,
      )
