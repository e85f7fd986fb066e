-- How many turns a search with an index takes, and what it can answer.
use Rattle.std.proofs.Common.{◌≡◌, ℕ, zero, suc, ◌+◌, ◌<◌, ◌≤◌, true, eqb, ◌⊎◌, List, length, get_or, sym, refl, ap, ◌∙◌, inl, inr, arith, lt-ltb, ne_eqb, eqb-true}
use borrow.Author.Tests.{eqb-false}
use Rattle.basis.proofs.Cases.{by_cases}
use Rattle.space.specs.declared.Node.{Node}
use Rattle.trie.specs.Siblings.{Trie, sound, at_sibling, search_siblings}
use Rattle.trie.specs.Index.{power_of_two, slot_of, slot_after, confirmed, probe, lookup, entry_beside, search_in_turn, search_indexed}
use Rattle.trie.specs.Turns.{siblings_compared, TurnsAsSiblings, TurnsAsSlots, entry_judged, ChainOrEntry, lookup_first}
use Rattle.trie.specs.declared.Search.{Search}
use Rattle.trie.proofs.SearchCases.{children-none, children-some}
use Rattle.trie.proofs.SearchLaws.{sibling-within, sibling-rises, first-within}
use Rattle.trie.proofs.IndexLaws.{AsChains, at-alike, confirmed-is, probe_found}

module _ (t : Trie) (p x : ℕ) where
  -- ---- as many as siblings

  -- fewer steps are enough where what is left is enough from the next sibling on
  fewer-step : (k n : ℕ) (rest rest' : ℕ → Search) → rest (siblings_compared k t p x (t.at n).sibling) ≡ rest' k
      → (j : ℕ) → suc j ≡ siblings_compared (suc k) t p x n → at_sibling t p x n (rest j) ≡ at_sibling t p x n (rest' k)
  unfolding siblings_compared
  fewer-step k n rest rest' f j e =
      by_cases (sound t n) (λ s.
      by_cases (eqb (t.at n).parent p) (λ q.
      by_cases (eqb (t.at n).token x)
      (λ w. rw (s, q, w))
      (λ w.
      by_cases (eqb (t.at n).sibling 0)
      (λ u. rw (s, q, w, u))
      (λ u. let i : suc j ≡ suc (siblings_compared k t p x (t.at n).sibling) = e ∙ rw (s, q, w, u) in
      let same : j ≡ siblings_compared k t p x (t.at n).sibling = omega arith in
      rw (s, q, w, u) (ap rest same ∙ f))))
      (λ q. rw (s, q)))
      (λ s. rw s)

  -- the siblings compared are not none
  compared-some : (k n : ℕ) → (j : ℕ) × (suc j ≡ siblings_compared (suc k) t p x n)
  unfolding siblings_compared
  compared-some k n = (_, refl)

  chain-fewer : (k n : ℕ) → search_siblings (siblings_compared k t p x n) t p x n ≡ search_siblings k t p x n
  unfolding search_siblings
  chain-fewer zero n = unfold siblings_compared in refl
  chain-fewer (suc k) n =
      let c = compared-some k n in
      let again : search_siblings (siblings_compared k t p x (t.at n).sibling) t p x (t.at n).sibling ≡ search_siblings k t p x (t.at n).sibling = chain-fewer k (t.at n).sibling in
      rw (← c.1) (fewer-step k n (λ i. search_siblings i t p x (t.at n).sibling) (λ i. search_siblings i t p x (t.at n).sibling) again c.0 c.1)

  module _ (index : List ℕ) (stood : ℕ) where
    turns-fewer : (k slot n : ℕ) → search_in_turn (siblings_compared k t p x n) t index stood p x slot n ≡ search_in_turn k t index stood p x slot n
    unfolding search_in_turn
    turns-fewer zero slot n = unfold siblings_compared in refl
    turns-fewer (suc k) slot n =
        let c = compared-some k n in
        let next : ℕ = slot_after (length index) slot in
        let again : search_in_turn (siblings_compared k t p x (t.at n).sibling) t index stood p x next (t.at n).sibling ≡ search_in_turn k t index stood p x next (t.at n).sibling = turns-fewer k next (t.at n).sibling in
        let chain : search_siblings (suc c.0) t p x n ≡ search_siblings (suc k) t p x n = ap (λ (i : ℕ). search_siblings i t p x n) c.1 ∙ chain-fewer (suc k) n in
        rw (← c.1)
        (by_cases (eqb (entry_beside index stood slot n) 0)
        (λ z. rw z chain)
        (λ z. by_cases (confirmed t p x (entry_beside index stood slot n))
        (λ m. rw (z, m))
        (λ m. rw (z, m) (fewer-step k n (λ i. search_in_turn i t index stood p x next (t.at n).sibling) (λ i. search_in_turn i t index stood p x next (t.at n).sibling) again c.0 c.1))))

    -- ---- as many as slots

    slots-enough : (k m slot n : ℕ) → t.nodes ≤ stood → n < t.nodes → t.nodes ≤ m + n → (probe k t index p x slot ≡ 0 → ⊥)
        → search_in_turn k t index stood p x slot n ≡ search_in_turn m t index stood p x slot n
    unfolding probe search_in_turn entry_beside
    slots-enough zero m slot n all h l y = absurd (y refl)
    slots-enough (suc k) zero slot n all h l y = absurd (omega arith)
    slots-enough (suc k) (suc m) slot n all h l y =
        let old = lt-ltb n stood (omega arith) in
        by_cases (eqb (get_or index slot 0) 0)
        (λ z. absurd (y (rw z)))
        (λ z. by_cases (confirmed t p x (get_or index slot 0))
        (λ c. rw (old, z, c))
        (λ c. rw (old, z, c) (at-alike t p x n _ _ (λ s q w u.
        let up : n < (t.at n).sibling = sibling-rises t n s u in
        slots-enough k m (slot_after (length index) slot) (t.at n).sibling all (sibling-within t n h s) (omega arith) (rw (z, c) at y)))))

    -- ---- what it answers

    abbrev Either : Search → Search → Type 0
    Either r chain = (r ≡ chain) ⊎ ((y : ℕ) × (confirmed t p x y ≡ true) × (r ≡ entry_judged t y))

    turn-answers : (k slot n : ℕ) → Either (search_in_turn k t index stood p x slot n) (search_siblings k t p x n)
    unfolding search_in_turn search_siblings
    turn-answers zero slot n = inl refl
    turn-answers (suc k) slot n = by_cases (eqb (entry_beside index stood slot n) 0)
        (λ z. rw z (inl refl))
        (λ z. by_cases (confirmed t p x (entry_beside index stood slot n))
        (λ m. rw (z, m) (inr (entry_beside index stood slot n, m, refl)))
        (λ m. rw (z, m) (passed n _ _ (turn-answers k (slot_after (length index) slot) (t.at n).sibling))))
      where
        passed : (n : ℕ) (rest rest' : Search) → Either rest rest' → Either (at_sibling t p x n rest) (at_sibling t p x n rest')
        passed n rest rest' (inl e) = inl (ap (at_sibling t p x n) e)
        passed n rest rest' (inr e) =
            by_cases (sound t n) (λ s.
            by_cases (eqb (t.at n).parent p) (λ q.
            by_cases (eqb (t.at n).token x)
            (λ w. rw (s, q, w) (inl refl))
            (λ w.
            by_cases (eqb (t.at n).sibling 0)
            (λ u. rw (s, q, w, u) (inl refl))
            (λ u. rw (s, q, w, u) (inr e))))
            (λ q. rw (s, q) (inl refl)))
            (λ s. rw s (inl refl))

-- with slots to look in, from the first child on
from_first : (index : List ℕ) (stood : ℕ) (t : Trie) (p x : ℕ) → power_of_two (length index) ≡ true → ((t.at p).child ≡ 0 → ⊥)
    → search_in_turn t.nodes t index stood p x (slot_of (length index) p x) (t.at p).child ≡ search_indexed index stood t p x
unfolding search_indexed
from_first index stood t p x w z = rw (ne_eqb _ _ z, w)

pub turns-as-siblings : TurnsAsSiblings
turns-as-siblings index stood t p x w z = turns-fewer t p x index stood t.nodes (slot_of (length index) p x) (t.at p).child ∙ from_first index stood t p x w z

pub turns-as-slots : TurnsAsSlots
turns-as-slots index stood t p x slots w z all h s y =
    slots-enough t p x index stood slots t.nodes (slot_of (length index) p x) (t.at p).child all (first-within t p h s) (omega arith) y ∙ from_first index stood t p x w z

pub chain-or-entry : ChainOrEntry
unfolding search_indexed
chain-or-entry index stood t p x = by_cases (eqb (t.at p).child 0)
    (λ z. rw z (inl (children-none t p x (t.at p) refl (eqb-true _ _ z))))
    (λ z. by_cases (power_of_two (length index))
    (λ w. rw (z, w, ← children-some t p x (t.at p) refl (eqb-false _ _ z)) (turn-answers t p x index stood t.nodes (slot_of (length index) p x) (t.at p).child))
    (λ w. rw (z, w) (inl refl)))

-- ---- the lookup first ends as the chain does, where the chain is whole

pub lookups-as-chains : (index : List ℕ) (at : ℕ → Node) (nodes : ℕ) → AsChains at nodes (lookup_first index)
unfolding lookup_first lookup
lookups-as-chains index at nodes t p x grown h f = by_cases (power_of_two (length index))
    (λ w. by_cases (eqb (probe (length index) t index p x (slot_of (length index) p x)) 0)
    (λ z. rw (w, z))
    (λ z. let m = f.met _ (confirmed-is t p x _ (probe_found t index p x (length index) (slot_of (length index) p x) (eqb-false _ _ z))) in rw (w, z, m.0) (sym m.1)))
    (λ w. rw w)
