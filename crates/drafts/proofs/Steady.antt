-- What a search reads: nodes that are used, and what it finds stands above the parent. So the cells of free nodes have no part
-- in a walk.
use Prim.Native.Nat.{ℕ, zero, suc, ◌<◌}
use mathlib.Core.Path.{◌≡◌, refl, sym, ap, ◌∙◌}
use mathlib.Core.Bool.{true, false}
use mathlib.Core.List.{List, [], ◌∷◌}
use native.Mathlib.Omega.{arith}
use lib.Dec.{eqb, ltb}
use lib.ListN.{length}
use borrow.Author.Tests.{eqb-false, ltb-true}
use Rattle.basis.proofs.Cases.{by_cases}
use Rattle.space.specs.declared.Node.{Node}
use Rattle.space.proofs.JudgingLaws.{node-bounds, follows-rises}
use Rattle.trie.specs.Siblings.{Trie, sound, at_sibling, search_siblings, search_children}
use Rattle.trie.specs.Walks.{onward, Finding, walk_from_by, walk_by}
use Rattle.trie.specs.Index.{power_of_two, slot_of, slot_after, confirmed, entry_beside, search_in_turn, search_indexed}
use Rattle.trie.specs.declared.Search.{Search}
use Rattle.trie.specs.declared.Search.TheVariants.{Found, Last, Damaged}
use Rattle.trie.proofs.SearchLaws.{Step, hurt, same, ended, onto, search-step, sibling-within, sibling-rises, first-within, Finds}
use Rattle.trie.proofs.IndexLaws.{confirmed-is, sibling-step}

-- ---- the same records below the count

abbrev pub with_at : (ℕ → Node) → ℕ → ℕ → Trie
with_at at nodes links = record { at = at; nodes = nodes; links = links }

abbrev pub Agree : (at at' : ℕ → Node) → ℕ → Type 0
Agree at at' nodes = (n : ℕ) → n < nodes → at n ≡ at' n

-- what the laws of a draft ask of a way of finding a child besides
pub record Steady (find : Finding) : Type 0 where
  pub local : (at at' : ℕ → Node) (nodes links parent token : ℕ) → Agree at at' nodes → parent < nodes → sound (with_at at nodes links) parent ≡ true
      → find (with_at at nodes links) parent token ≡ find (with_at at' nodes links) parent token
  pub rises : (t : Trie) (parent token c : ℕ) → parent < t.nodes → sound t parent ≡ true → find t parent token ≡ Found c → parent < c

module _ (at at' : ℕ → Node) (nodes links parent token : ℕ) (same_at : Agree at at' nodes) where
  abbrev t : Trie
  t = with_at at nodes links

  abbrev t' : Trie
  t' = with_at at' nodes links

  sibling-local : (n : ℕ) (rest rest' : Search) → n < nodes → ((at n).sibling < nodes → rest ≡ rest') → at_sibling (with_at at nodes links) parent token n rest ≡ at_sibling (with_at at' nodes links) parent token n rest'
  sibling-local n rest rest' h e =
      let a : at' n ≡ at n = sym (same_at n h) in
      by_cases (sound (with_at at nodes links) n)
      (λ s. let r : rest ≡ rest' = e (sibling-within t n h s) in rw (a, r))
      (λ s. rw (a, s))

  siblings-local : (steps n : ℕ) → n < nodes → search_siblings steps (with_at at nodes links) parent token n ≡ search_siblings steps (with_at at' nodes links) parent token n
  unfolding search_siblings
  siblings-local zero n h = refl
  siblings-local (suc steps) n h =
      let a : at n ≡ at' n = same_at n h in
      sibling-local n _ _ h (λ k. siblings-local steps (at n).sibling k ∙ ap (λ (y : Node). search_siblings steps t' parent token y.sibling) a)

  confirmed-local : (x : ℕ) → confirmed (with_at at nodes links) parent token x ≡ confirmed (with_at at' nodes links) parent token x
  unfolding confirmed
  confirmed-local x = by_cases (ltb x nodes)
      (λ h. rw (same_at x (ltb-true _ _ h)))
      (λ h. by_cases (ltb parent x) (λ p. rw (h, p)) (λ p. rw (h, p)))

  turns-local : (index : List ℕ) (stood steps slot n : ℕ) → n < nodes → search_in_turn steps (with_at at nodes links) index stood parent token slot n ≡ search_in_turn steps (with_at at' nodes links) index stood parent token slot n
  unfolding search_in_turn
  turns-local index stood zero slot n h = refl
  turns-local index stood (suc steps) slot n h =
      let x : ℕ = entry_beside index stood slot n in
      let a : at n ≡ at' n = same_at n h in
      by_cases (eqb x 0)
      (λ e. rw e (siblings-local (suc steps) n h))
      (λ e. by_cases (confirmed t parent token x)
      (λ k. let b : confirmed t' parent token x ≡ true = sym (confirmed-local x) ∙ k in
      let y : at' x ≡ at x = sym (same_at x (confirmed-is t parent token x k).below) in rw (e, k, b, y))
      (λ k. let b : confirmed t' parent token x ≡ false = sym (confirmed-local x) ∙ k in
      rw (e, k, b) (sibling-local n _ _ h (λ l. turns-local index stood steps (slot_after (length index) slot) (at n).sibling l ∙ ap (λ (z : Node). search_in_turn steps t' index stood parent token (slot_after (length index) slot) z.sibling) a))))

-- ---- what is found stands above the parent

module _ (t : Trie) (parent token : ℕ) where
  step-rises : {n c : ℕ} {rest r : Search} → Step t parent token n rest r → parent < n → n < t.nodes → r ≡ Found c
      → (parent < (t.at n).sibling → (t.at n).sibling < t.nodes → rest ≡ Found c → parent < c) → parent < c
  step-rises hurt l h e again = let z : ◌≡◌ {A = ℕ} 0 1 = cc in absurd (omega arith)
  step-rises {n = n} {c = c} (same s p q) l h e again = let i : n ≡ c = cc in omega arith
  step-rises (ended s p q r) l h e again = let z : ◌≡◌ {A = ℕ} 0 1 = cc in absurd (omega arith)
  step-rises {n = n} (onto s p q r) l h e again = let up = sibling-rises t n s r in again (omega arith) (sibling-within t n h s) e

  siblings-rise : (steps n c : ℕ) → parent < n → n < t.nodes → search_siblings steps t parent token n ≡ Found c → parent < c
  unfolding search_siblings
  siblings-rise zero n c l h e = let z : ◌≡◌ {A = ℕ} 0 1 = cc in absurd (omega arith)
  siblings-rise (suc steps) n c l h e = step-rises (search-step steps t parent token n) l h e (λ a b f. siblings-rise steps (t.at n).sibling c a b f)

  turns-rise : (index : List ℕ) (stood steps slot n c : ℕ) → parent < n → n < t.nodes → search_in_turn steps t index stood parent token slot n ≡ Found c → parent < c
  unfolding search_in_turn
  turns-rise index stood zero slot n c l h e = let z : ◌≡◌ {A = ℕ} 0 1 = cc in absurd (omega arith)
  turns-rise index stood (suc steps) slot n c l h e =
      by_cases (eqb (entry_beside index stood slot n) 0)
      (λ z. siblings-rise (suc steps) n c l h (rw z at e))
      (λ z. by_cases (confirmed t parent token (entry_beside index stood slot n))
      (λ k. let up = (confirmed-is t parent token (entry_beside index stood slot n) k).above in
      by_cases (sound t (entry_beside index stood slot n))
      (λ s. let f : Found (entry_beside index stood slot n) ≡ Found c = rw (z, k, s) at e in let i : entry_beside index stood slot n ≡ c = cc in omega arith)
      (λ s. let f : Damaged ≡ Found c = rw (z, k, s) at e in let i : ◌≡◌ {A = ℕ} 0 1 = cc in absurd (omega arith)))
      (λ k. step-rises (sibling-step t parent token n (search_in_turn steps t index stood parent token (slot_after (length index) slot) (t.at n).sibling)) l h (rw (z, k) at e)
      (λ a b f. turns-rise index stood steps (slot_after (length index) slot) (t.at n).sibling c a b f)))

  module _ (h : parent < t.nodes) (s : sound t parent ≡ true) where
    first-rises : ((t.at parent).child ≡ 0 → ⊥) → parent < (t.at parent).child
    first-rises = follows-rises t.nodes parent (t.at parent).child (node-bounds t.nodes t.links parent (t.at parent) s).child-follows

    indexed-rises : (index : List ℕ) (stood c : ℕ) → search_indexed index stood t parent token ≡ Found c → parent < c
    unfolding search_indexed search_children
    indexed-rises index stood c e = by_cases (eqb (t.at parent).child 0)
        (λ z. let f : Last 0 ≡ Found c = rw z at e in let x : ◌≡◌ {A = ℕ} 0 1 = cc in absurd (omega arith))
        (λ z. let up = first-rises (eqb-false _ _ z) in
        by_cases (power_of_two (length index))
        (λ p. turns-rise index stood t.nodes (slot_of (length index) parent token) (t.at parent).child c up (first-within t parent h s) (rw (z, p) at e))
        (λ p. siblings-rise t.nodes (t.at parent).child c up (first-within t parent h s) (rw (z, p) at e)))

module _ (at at' : ℕ → Node) (nodes links parent token : ℕ) (same_at : Agree at at' nodes) (h : parent < nodes) (s : sound (with_at at nodes links) parent ≡ true) where
  indexed-local : (index : List ℕ) (stood : ℕ) → search_indexed index stood (with_at at nodes links) parent token ≡ search_indexed index stood (with_at at' nodes links) parent token
  unfolding search_indexed search_children
  indexed-local index stood =
      let a : at' parent ≡ at parent = sym (same_at parent h) in
      let f : (at parent).child < nodes = first-within (with_at at nodes links) parent h s in
      by_cases (eqb (at parent).child 0)
      (λ z. rw (a, z))
      (λ z. by_cases (power_of_two (length index))
      (λ p. rw (a, z, p) (turns-local at at' nodes links parent token same_at index stood nodes (slot_of (length index) parent token) (at parent).child f))
      (λ p. rw (a, z, p) (siblings-local at at' nodes links parent token same_at nodes (at parent).child f)))

pub indexes-steady : (index : List ℕ) (stood : ℕ) → Steady (search_indexed index stood)
indexes-steady index stood = record {
  local = λ at at' nodes links parent token a h s. indexed-local at at' nodes links parent token a h s index stood;
  rises = λ t parent token c h s e. indexed-rises t parent token h s index stood c e;
}

-- ---- the walk

module _ {find : Finding} (finds : Finds find) (steady : Steady find) (at at' : ℕ → Node) (nodes links : ℕ) (agree : Agree at at' nodes) where
  step_local : (n x : ℕ) (xs : List ℕ) → n < nodes → sound (with_at at nodes links) n ≡ true → (f : Search) → find (with_at at nodes links) n x ≡ f
      → ((c : ℕ) → c < nodes → sound (with_at at nodes links) c ≡ true → walk_from_by find (with_at at nodes links) c xs ≡ walk_from_by find (with_at at' nodes links) c xs)
      → onward f n (x ∷ xs) (λ child. walk_from_by find (with_at at nodes links) child xs) ≡ onward f n (x ∷ xs) (λ child. walk_from_by find (with_at at' nodes links) child xs)
  step_local n x xs h s (Found c) e next = let k = finds.found (with_at at nodes links) n x c h s e in next c k.within k.judged
  step_local n x xs h s (Last l) e next = refl
  step_local n x xs h s Damaged e next = refl

  from-local : (xs : List ℕ) (n : ℕ) → n < nodes → sound (with_at at nodes links) n ≡ true → walk_from_by find (with_at at nodes links) n xs ≡ walk_from_by find (with_at at' nodes links) n xs
  unfolding walk_from_by
  from-local [] n h s = refl
  from-local (x ∷ xs) n h s =
      step_local n x xs h s (find (with_at at nodes links) n x) refl (λ c i j. from-local xs c i j)
      ∙ ap (λ (f : Search). onward f n (x ∷ xs) (λ child. walk_from_by find (with_at at' nodes links) child xs)) (steady.local at at' nodes links n x agree h s)

  pub walk-local : (root : ℕ) (xs : List ℕ) → root < nodes → walk_by find (with_at at nodes links) root xs ≡ walk_by find (with_at at' nodes links) root xs
  unfolding walk_by
  walk-local root xs h =
      let a : at' root ≡ at root = sym (agree root h) in
      by_cases (sound (with_at at nodes links) root)
      (λ s. rw (a, from-local xs root h s))
      (λ s. rw (a, s))
