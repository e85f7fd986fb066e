-- What a search with an index finds: a confirmed entry, or a sibling, whichever comes first. A walk by another way of finding
-- a child is the walk by the chains wherever both find the same.
use Rattle.std.proofs.Common.{◌≡◌, ℕ, zero, suc, ◌<◌, true, false, eqb, List, [], ◌∷◌, length, get_or, sym, refl, ap, ◌∙◌, arith, ltb-true, lt-ltb, eq-eqb, eqb-true}
use borrow.Author.Tests.{eqb-false}
use Rattle.basis.proofs.Cases.{by_cases}
use Rattle.space.specs.declared.Node.{Node}
use Rattle.trie.specs.Siblings.{Trie, sound, at_sibling, search_siblings, search_children}
use Rattle.trie.specs.Walks.{onward, root_sound, walk_from, walk, Finding, walk_from_by, walk_by}
use Rattle.trie.specs.Index.{power_below, power_of_two, slot_of, slot_after, confirmed, probe, entry_beside, search_in_turn, search_indexed}
use Rattle.trie.specs.Ledger.{is_last, last_below, Grown}
use Rattle.trie.specs.declared.Search.{Search}
use Rattle.trie.specs.declared.Search.TheVariants.{Found, Last, Damaged}
use Rattle.trie.proofs.SearchCases.{search-next, children-none, children-some}
use Rattle.trie.proofs.SearchLaws.{Step, hurt, same, ended, onto, Child, step-found, search-found, first-within, children-found, LastChild, step-ended, search-ended, Ends, children-ended, Finds}
use Rattle.trie.proofs.WalkLaws.{both_true}

-- ---- what a lookup finds

-- x is the child of `parent` with the token
pub record Confirmed (t : Trie) (parent token x : ℕ) : Type 0 where
  pub above : parent < x
  pub below : x < t.nodes
  pub parent_is : (t.at x).parent ≡ parent
  pub token-is : (t.at x).token ≡ token

pub confirmed-is : (t : Trie) (parent token x : ℕ) → confirmed t parent token x ≡ true → Confirmed t parent token x
unfolding confirmed
confirmed-is t parent token x e =
    let a = both_true _ _ e in
    let b = both_true _ _ a.0 in
    let c = both_true _ _ b.0 in
    record { above = ltb-true _ _ c.0; below = ltb-true _ _ c.1; parent_is = eqb-true _ _ b.1; token-is = eqb-true _ _ a.1 }

pub confirmed-true : (t : Trie) (p y x : ℕ) → Confirmed t p y x → confirmed t p y x ≡ true
unfolding confirmed
confirmed-true t p y x k = rw (lt-ltb _ _ k.above, lt-ltb _ _ k.below, eq-eqb _ _ k.parent_is, eq-eqb _ _ k.token-is)

module _ (t : Trie) (index : List ℕ) (parent token : ℕ) where
  pub probe_found : (steps slot : ℕ) → (probe steps t index parent token slot ≡ 0 → ⊥) → confirmed t parent token (probe steps t index parent token slot) ≡ true
  unfolding probe
  probe_found zero slot h = absurd (h refl)
  probe_found (suc steps) slot h = by_cases (eqb (get_or index slot 0) 0)
      (λ e. absurd (h (rw e)))
      (λ e. by_cases (confirmed t parent token (get_or index slot 0))
      (λ k. rw (e, k) k)
      (λ k. rw (e, k) (probe_found steps (slot_after (length index) slot) (rw (e, k) at h))))

-- ---- one turn

-- what a turn at sibling n with the entry x comes to, where `rest` is what the turns behind it give
pub data Turn (steps : ℕ) (t : Trie) (parent token n x : ℕ) (rest : Search) : Search → Type 0 where
  alone : x ≡ 0 → Turn steps t parent token n x rest (search_siblings (suc steps) t parent token n)
  met : Confirmed t parent token x → sound t x ≡ true → Turn steps t parent token n x rest (Found x)
  bad : Confirmed t parent token x → sound t x ≡ false → Turn steps t parent token n x rest Damaged
  passed : (x ≡ 0 → ⊥) → confirmed t parent token x ≡ false → {r : Search} → Step t parent token n rest r → Turn steps t parent token n x rest r

pub sibling-step : (t : Trie) (parent token n : ℕ) (rest : Search) → Step t parent token n rest (at_sibling t parent token n rest)
sibling-step t parent token n rest =
    by_cases (sound t n) (λ s.
    by_cases (eqb (t.at n).parent parent) (λ p.
    by_cases (eqb (t.at n).token token)
    (λ q. rw (s, p, q) (same s (eqb-true _ _ p) (eqb-true _ _ q)))
    (λ q.
    by_cases (eqb (t.at n).sibling 0)
    (λ r. rw (s, p, q, r) (ended s (eqb-true _ _ p) (eqb-false _ _ q) (eqb-true _ _ r)))
    (λ r. rw (s, p, q, r) (onto s (eqb-true _ _ p) (eqb-false _ _ q) (eqb-false _ _ r)))))
    (λ p. rw (s, p) hurt))
    (λ s. rw s hurt)

module _ (t : Trie) (index : List ℕ) (stood parent token : ℕ) where
  turn : (steps slot n : ℕ)
      → Turn steps t parent token n (entry_beside index stood slot n) (search_in_turn steps t index stood parent token (slot_after (length index) slot) (t.at n).sibling)
      (search_in_turn (suc steps) t index stood parent token slot n)
  unfolding search_in_turn
  turn steps slot n = by_cases (eqb (entry_beside index stood slot n) 0)
      (λ e. rw e (alone (eqb-true _ _ e)))
      (λ e. by_cases (confirmed t parent token (entry_beside index stood slot n))
      (λ k. by_cases (sound t (entry_beside index stood slot n))
      (λ s. rw (e, k, s) (met (confirmed-is t parent token _ k) s))
      (λ s. rw (e, k, s) (bad (confirmed-is t parent token _ k) s)))
      (λ k. rw (e, k) (passed (eqb-false _ _ e) k (sibling-step t parent token n _))))

  -- ---- the laws of the walk hold with any index, on any cells

  turn-found : (steps slot n c : ℕ) → n < t.nodes → search_in_turn steps t index stood parent token slot n ≡ Found c → Child t parent token c
  unfolding search_in_turn
  turn-found zero slot n c h e = let z : ◌≡◌ {A = ℕ} 0 1 = cc in absurd (omega arith)
  turn-found (suc steps) slot n c h e = go (turn steps slot n) e (λ i f. turn-found steps (slot_after (length index) slot) (t.at n).sibling c i f)
    where
      go : {x : ℕ} {rest r : Search} → Turn steps t parent token n x rest r → r ≡ Found c → ((t.at n).sibling < t.nodes → rest ≡ Found c → Child t parent token c) → Child t parent token c
      go (alone _) f again = search-found (suc steps) t parent token n c h f
      go {x} (met k s) f again =
          let z : x ≡ c = cc in
          rw (← z) (record { within = k.below; judged = s; parent_is = k.parent_is; token-is = k.token-is })
      go (bad k s) f again = let z : ◌≡◌ {A = ℕ} 0 1 = cc in absurd (omega arith)
      go (passed _ _ w) f again = step-found w h f again

  turn-ended : (steps slot n l : ℕ) → n < t.nodes → search_in_turn steps t index stood parent token slot n ≡ Last l → LastChild t n l
  unfolding search_in_turn
  turn-ended zero slot n l h e = let z : ◌≡◌ {A = ℕ} 0 1 = cc in absurd (omega arith)
  turn-ended (suc steps) slot n l h e = go (turn steps slot n) e (λ i f. turn-ended steps (slot_after (length index) slot) (t.at n).sibling l i f)
    where
      go : {x : ℕ} {rest r : Search} → Turn steps t parent token n x rest r → r ≡ Last l → ((t.at n).sibling < t.nodes → rest ≡ Last l → LastChild t (t.at n).sibling l) → LastChild t n l
      go (alone _) f again = search-ended (suc steps) t parent token n l h f
      go (met k s) f again = let z : ◌≡◌ {A = ℕ} 0 1 = cc in absurd (omega arith)
      go (bad k s) f again = let z : ◌≡◌ {A = ℕ} 0 1 = cc in absurd (omega arith)
      go (passed _ _ w) f again = step-ended w h f again

  module _ (h : parent < t.nodes) (s : sound t parent ≡ true) where
    found-indexed : (c : ℕ) → search_indexed index stood t parent token ≡ Found c → Child t parent token c
    unfolding search_indexed
    found-indexed c e = by_cases (eqb (t.at parent).child 0)
        (λ z. let f : Last 0 ≡ Found c = rw z at e in let x : ◌≡◌ {A = ℕ} 0 1 = cc in absurd (omega arith))
        (λ z. by_cases (power_of_two (length index))
        (λ p. turn-found t.nodes (slot_of (length index) parent token) (t.at parent).child c (first-within t parent h s) (rw (z, p) at e))
        (λ p. children-found t parent token c h s (rw (z, p) at e)))

    ended-indexed : (last : ℕ) → search_indexed index stood t parent token ≡ Last last → Ends t parent last
    unfolding search_indexed
    ended-indexed last e = by_cases (eqb (t.at parent).child 0)
        (λ z. let f : Last 0 ≡ Last last = rw z at e in
        let l : last ≡ 0 = cc in
        record { parent-within = h; last_within = omega arith; no-child = λ _. eqb-true _ _ z; no-sibling = λ n. absurd (n l) })
        (λ z. by_cases (power_of_two (length index))
        (λ p. let c : (t.at parent).child ≡ 0 → ⊥ = eqb-false _ _ z in
        let f = turn-ended t.nodes (slot_of (length index) parent token) (t.at parent).child last (first-within t parent h s) (rw (z, p) at e) in
        record { parent-within = h; last_within = f.within; no-child = λ l. absurd (let r = f.reached in omega arith); no-sibling = λ _. f.no-sibling })
        (λ p. children-ended t parent token last h s (rw (z, p) at e)))

pub indexes-find : (index : List ℕ) (stood : ℕ) → Finds (search_indexed index stood)
indexes-find index stood = record {
  found = λ t parent token c h s e. found-indexed t index stood parent token h s c e;
  ended = λ t parent token last h s e. ended-indexed t index stood parent token h s last e;
}

-- ---- as by the chains

-- l is the last child of `parent`
pub record Ending (t : Trie) (parent l : ℕ) : Type 0 where
  pub above : parent < l
  pub below : l < t.nodes
  pub parent_is : (t.at l).parent ≡ parent
  pub none : (t.at l).sibling ≡ 0

-- each node that confirms this parent and token is sound, and is what the chain ends with; where there is none, the chain
-- ends with the last child, which is the one of the highest number
pub record Chained (t : Trie) (parent token : ℕ) : Type 0 where
  pub met : (x : ℕ) → Confirmed t parent token x → (sound t x ≡ true) × (search_children t parent token ≡ Found x)
  pub lacks : ((x : ℕ) → Confirmed t parent token x → ⊥) → (l : ℕ) → Ending t parent l → search_children t parent token ≡ Last l
  pub latest : ((t.at parent).child ≡ 0 → ⊥) → is_last t parent (last_below t.at t.nodes parent) ≡ true

-- a way of finding a child that ends as the chain does, there, among these nodes and those that they may become
abbrev pub AsChains : (ℕ → Node) → ℕ → Finding → Type 0
AsChains at nodes find =
    (t : Trie) (parent token : ℕ) → Grown at nodes t.at t.nodes → parent < t.nodes → Chained t parent token → find t parent token ≡ search_children t parent token

pub grown-same : (at : ℕ → Node) (nodes : ℕ) → Grown at nodes at nodes
grown-same at nodes = record { no-fewer = omega arith; parent-kept = λ i h. refl; token-kept = λ i h. refl }

pub grown-on : {at : ℕ → Node} {nodes : ℕ} {mid : ℕ → Node} {some : ℕ} {after : ℕ → Node} {more : ℕ} → Grown at nodes mid some → Grown mid some after more → Grown at nodes after more
grown-on f g = let a = f.no-fewer in let b = g.no-fewer in record {
  no-fewer = omega arith;
  parent-kept = λ i h. g.parent-kept i (omega arith) ∙ f.parent-kept i h;
  token-kept = λ i h. g.token-kept i (omega arith) ∙ f.token-kept i h;
}

pub as-chains-on : {at : ℕ → Node} {nodes : ℕ} {after : ℕ → Node} {more : ℕ} (find : Finding) → Grown at nodes after more → AsChains at nodes find → AsChains after more find
as-chains-on find g f t parent token h = f t parent token (grown-on g h)

-- what stands behind a sibling counts only where it is passed
pub at-alike : (t : Trie) (parent token n : ℕ) (rest rest' : Search)
    → (sound t n ≡ true → (t.at n).parent ≡ parent → ((t.at n).token ≡ token → ⊥) → ((t.at n).sibling ≡ 0 → ⊥) → rest ≡ rest')
    → at_sibling t parent token n rest ≡ at_sibling t parent token n rest'
at-alike t parent token n rest rest' f =
    by_cases (sound t n) (λ s.
    by_cases (eqb (t.at n).parent parent) (λ p.
    by_cases (eqb (t.at n).token token)
    (λ q. rw (s, p, q))
    (λ q.
    by_cases (eqb (t.at n).sibling 0)
    (λ r. rw (s, p, q, r))
    (λ r. rw (s, p, q, r) (f s (eqb-true _ _ p) (eqb-false _ _ q) (eqb-false _ _ r)))))
    (λ p. rw (s, p)))
    (λ s. rw s)

module _ (t : Trie) (index : List ℕ) (stood parent token : ℕ) where
  -- from sibling n on
  abbrev ChainedFrom : ℕ → ℕ → Type 0
  ChainedFrom steps n = (x : ℕ) → Confirmed t parent token x → (sound t x ≡ true) × (search_siblings steps t parent token n ≡ Found x)

  -- a sibling that is passed leaves what is behind it
  chained-on : (steps n : ℕ) → ChainedFrom (suc steps) n → sound t n ≡ true → (t.at n).parent ≡ parent → ((t.at n).token ≡ token → ⊥) → ((t.at n).sibling ≡ 0 → ⊥)
      → ChainedFrom steps (t.at n).sibling
  chained-on steps n f s p q r x k = let g = f x k in (g.0, sym (search-next steps t parent token n s p q r) ∙ g.1)

  turn-same : (steps slot n : ℕ) → ChainedFrom steps n → search_in_turn steps t index stood parent token slot n ≡ search_siblings steps t parent token n
  unfolding search_in_turn search_siblings
  turn-same zero slot n f = refl
  turn-same (suc steps) slot n f = by_cases (eqb (entry_beside index stood slot n) 0)
      (λ e. rw e)
      (λ e. by_cases (confirmed t parent token (entry_beside index stood slot n))
      (λ k. let g = f (entry_beside index stood slot n) (confirmed-is t parent token _ k) in rw (e, k, g.0) (sym g.1))
      (λ k. rw (e, k) (at-alike t parent token n _ _ (λ s p q r. turn-same steps (slot_after (length index) slot) (t.at n).sibling (chained-on steps n f s p q r)))))

pub indexes-as-chains : (index : List ℕ) (stood : ℕ) (at : ℕ → Node) (nodes : ℕ) → AsChains at nodes (search_indexed index stood)
unfolding search_indexed
indexes-as-chains index stood at nodes t parent token grown h f = by_cases (eqb (t.at parent).child 0)
    (λ z. rw z (children-none t parent token (t.at parent) refl (eqb-true _ _ z)))
    (λ z. by_cases (power_of_two (length index))
    (λ p. let all = children-some t parent token (t.at parent) refl (eqb-false _ _ z) in
    rw (z, p) (turn-same t index stood parent token t.nodes (slot_of (length index) parent token) (t.at parent).child (λ x k. ((f.met x k).0, all ∙ (f.met x k).1)) ∙ all))
    (λ p. rw (z, p)))

-- ---- a walk by another way of finding a child

module _ (find : Finding) (t : Trie) (Met : ℕ → Type 0)
    (alike : (p x : ℕ) → Met p → find t p x ≡ search_children t p x)
    (keeps : (p x c : ℕ) → Met p → search_children t p x ≡ Found c → Met c) where
  pub from-alike : (p : ℕ) (xs : List ℕ) → Met p → walk_from_by find t p xs ≡ walk_from t p xs
  unfolding walk_from_by
  from-alike p [] m = refl
  from-alike p (x ∷ xs) m = ap (λ (r : Search). onward r p (x ∷ xs) (λ child. walk_from_by find t child xs)) (alike p x m)
      ∙ go (search_children t p x) refl (λ c k. from-alike c xs k)
    where
      go : (r : Search) → search_children t p x ≡ r → ((c : ℕ) → Met c → walk_from_by find t c xs ≡ walk_from t c xs)
          → onward r p (x ∷ xs) (λ child. walk_from_by find t child xs) ≡ onward r p (x ∷ xs) (λ child. walk_from t child xs)
      go (Found c) e f = f c (keeps p x c m e)
      go (Last l) e f = refl
      go Damaged e f = refl

  pub walk-alike : (root : ℕ) (xs : List ℕ) → Met root → walk_by find t root xs ≡ walk t root xs
  unfolding walk_by
  walk-alike root xs m = by_cases (root_sound t root) (λ e. rw e (from-alike root xs m)) (λ e. rw e)

-- without slots that can be looked in, the chains alone are gone along
pub unpowered : (index : List ℕ) (stood : ℕ) (t : Trie) (parent token : ℕ) → power_of_two (length index) ≡ false → search_indexed index stood t parent token ≡ search_children t parent token
unfolding search_indexed search_children
unpowered index stood t parent token e = by_cases (eqb (t.at parent).child 0) (λ z. rw z) (λ z. rw (z, e))

-- so all such indexes are alike
pub walk-unpowered : (index other : List ℕ) (stood : ℕ) (t : Trie) (n : ℕ) (xs : List ℕ) → power_of_two (length index) ≡ false → power_of_two (length other) ≡ false
    → walk_from_by (search_indexed index stood) t n xs ≡ walk_from_by (search_indexed other stood) t n xs
walk-unpowered index other stood t n xs e f = chained index e ∙ sym (chained other f)
  where
    chained : (i : List ℕ) → power_of_two (length i) ≡ false → walk_from_by (search_indexed i stood) t n xs ≡ walk_from t n xs
    chained i g = from-alike (search_indexed i stood) t (λ p. Unit) (λ p x m. unpowered i stood t p x g) (λ p x c m z. tt) n xs tt

-- an index of no cells is none
pub walk_none : (stood : ℕ) (t : Trie) (root : ℕ) (xs : List ℕ) → walk_by (search_indexed [] stood) t root xs ≡ walk t root xs
unfolding power_below
walk_none stood t root xs = walk-alike (search_indexed [] stood) t (λ p. Unit) (λ p x m. unpowered [] stood t p x refl) (λ p x c m e. tt) root xs tt
