-- A law for each case of freeing slots and of entering nodes.
use Prim.Native.Nat.{ℕ, zero, suc, ◌+◌, ◌*◌, ◌/◌, ◌<◌, ◌≤◌}
use mathlib.Core.Path.{◌≡◌, refl, sym, ap, ◌∙◌}
use mathlib.Core.Bool.{true, false}
use mathlib.Core.List.{List, [], ◌∷◌, ◌++◌}
use native.Mathlib.Omega.{arith}
use native.Mathlib.Numerals.{add-one}
use lib.Dec.{eqb, leb}
use lib.ListN.{length, get_or, set, replicate, length-set}
use borrow.Author.Tests.{le-leb, lt-leb, leb-true, leb-false}
use Rattle.trie.proofs.BuildLaws.{length-free}
use Rattle.basis.specs.Choice.{pick}
use Rattle.basis.proofs.Cases.{by_cases}
use Rattle.space.specs.declared.Node.{Node}
use Rattle.trie.specs.Siblings.{Trie}
use Rattle.trie.specs.Index.{slot_of, slot_after, enters, entering, insert_from, insert, insert_all, empty_index, built_index}
use Rattle.indexing.specs.Parts.{looked_at}
use Rattle.indexing.proofs.EnterCases.{entering-step}

-- ---- free slots

pub freed_is : (n : ℕ) → replicate n 0 ≡ empty_index n
unfolding empty_index
freed_is zero = refl
freed_is (suc n) = ap (λ (l : List ℕ). 0 ∷ l) (freed_is n)

-- ---- one entry

module _ (before : List ℕ) (first x : ℕ) where
  step_is : (k slot : ℕ) → insert_from (suc k) before slot x ≡ pick (eqb (get_or before slot 0) 0) (set before slot x) (insert_from k before (slot_after (length before) slot) x)
  unfolding insert_from
  step_is k slot = refl

  end_is : (slot : ℕ) → insert_from 0 before slot x ≡ before
  unfolding insert_from
  end_is slot = refl

  insert-length : (k slot : ℕ) → length (insert_from k before slot x) ≡ length before
  insert-length zero slot = ap length (end_is slot)
  insert-length (suc k) slot =
      ap length (step_is k slot)
      ∙ by_cases (eqb (get_or before slot 0) 0)
      (λ e. rw e (length-set before slot x))
      (λ e. rw e (insert-length k (slot_after (length before) slot)))

-- ---- all entries

module _ (t : Trie) where
  all_none : (index : List ℕ) → insert_all t index [] ≡ index
  unfolding insert_all
  all_none index = refl

  all_more : (index : List ℕ) (x : ℕ) (xs : List ℕ) → insert_all t index (x ∷ xs) ≡ insert_all t (insert t index x) xs
  unfolding insert_all
  all_more index x xs = refl

  all_append : (xs ys index : List ℕ) → insert_all t index (xs ++ ys) ≡ insert_all t (insert_all t index xs) ys
  all_append [] ys index = ap (λ (l : List ℕ). insert_all t l ys) (sym (all_none index))
  all_append (x ∷ xs) ys index =
      all_more index x (xs ++ ys) ∙ all_append xs ys (insert t index x)
      ∙ ap (λ (l : List ℕ). insert_all t l ys) (sym (all_more index x xs))

  one-entered : (index : List ℕ) (n : ℕ) → insert_all t index (pick (enters t n) (n ∷ []) []) ≡ looked_at t index n
  unfolding looked_at
  one-entered index n = by_cases (enters t n)
      (λ e. rw e (all_more index n [] ∙ all_none (insert t index n)))
      (λ e. rw e (all_none index))

  -- those of the first n nodes that enter stand in the index
  abbrev pub Entered : List ℕ → ℕ → List ℕ → Type 0
  Entered before n index = index ≡ insert_all t before (entering t n)

  pub entered-begin : (before : List ℕ) → Entered before 0 before
  unfolding entering
  entered-begin before = sym (all_none before)

  pub entered_on : (before index after : List ℕ) (n : ℕ) → Entered before n index → after ≡ looked_at t index n → Entered before (n + 1) after
  entered_on before index after n p e =
      e ∙ rw (p, add-one)
      (sym (ap (insert_all t before) (entering-step t n) ∙ all_append (entering t n) (pick (enters t n) (n ∷ []) []) before
      ∙ one-entered (insert_all t before (entering t n)) n))

  pub entered-ended : (before index : List ℕ) (n m : ℕ) → n ≤ m → m ≤ n → Entered before n index → Entered before m index
  entered-ended before index n m l k p = let z : m ≡ n = omega arith in p ∙ ap (λ (i : ℕ). insert_all t before (entering t i)) (sym z)

  pub entered-length : (index after : List ℕ) (n : ℕ) → after ≡ looked_at t index n → length after ≡ length index
  unfolding looked_at
  entered-length index after n e =
      ap length e ∙ by_cases (enters t n)
      (λ k. rw k (insert-length index 0 n (length index) (slot_of (length index) (t.at n).parent (t.at n).token)))
      (λ k. rw k)

  module _ (index : List ℕ) (n : ℕ) where
    pub enter-none : enters t n ≡ false → index ≡ looked_at t index n
    unfolding looked_at
    enter-none e = rw e

    pub enter_one : enters t n ≡ true → (y : Node) → y ≡ t.at n → (slot : ℕ) → slot ≡ slot_of (length index) y.parent y.token
        → (after : List ℕ) → after ≡ insert_from (length index) index slot n → after ≡ looked_at t index n
    unfolding looked_at
    enter_one e y f slot g after k = k ∙ rw (e, g, f)

  -- filled only where half of the slots stay free
  module _ (before : List ℕ) (count : ℕ) where
    pub fill-roomy : count ≤ length before / 2 → (cleared after : List ℕ) → cleared ≡ empty_index (length before)
        → after ≡ insert_all t cleared (entering t t.nodes) → after ≡ pick (leb count (length before / 2)) (built_index t (length before)) before
    unfolding built_index
    fill-roomy l cleared after e f =
        f ∙ rw (e, le-leb count (length before / 2) l)

    pub fill-full : length before / 2 < count → before ≡ pick (leb count (length before / 2)) (built_index t (length before)) before
    fill-full l = rw (lt-leb count (length before / 2) l)

pub half-most : (count size : ℕ) → leb count (size / 2) ≡ leb (2 * count) size
half-most count size = by_cases (leb count (size / 2))
    (λ e. let l : count ≤ size / 2 = leb-true _ _ e in e ∙ sym (le-leb (2 * count) size (omega arith)))
    (λ e. let l : size / 2 < count = leb-false _ _ e in e ∙ sym (lt-leb (2 * count) size (omega arith)))

pub cleared-length : (before cleared : List ℕ) → cleared ≡ empty_index (length before) → length cleared ≡ length before
cleared-length before cleared e = ap length e ∙ length-free (length before)
