-- The search with an index while a node is entered or a leaf linked, on any trie, sound or damaged: what was found is found
-- again, and what was missed is missed again or is the node entered. A sibling that is new takes no slot, so the slots that
-- are looked in are those of before.
use Rattle.std.proofs.Common.{◌≡◌, ℕ, zero, suc, ◌+◌, ◌<◌, ◌≤◌, true, false, eqb, ltb, ◌⊎◌, List, length, sym, refl, ap, ◌∙◌, subst, inl, inr, arith, ltb-true, le-ltb, eq-eqb, ne_eqb, eqb-true}
use mathlib.Core.Bool.{false≢true}
use borrow.Author.Tests.{eqb-false}
use Rattle.basis.specs.Choice.{pick}
use Rattle.basis.proofs.Cases.{by_cases}
use Rattle.space.specs.Judging.{follows}
use Rattle.space.specs.declared.Node.{Node}
use Rattle.space.proofs.JudgingLaws.{node-bounds, node-sound}
use Rattle.trie.specs.Siblings.{Trie, sound, search_siblings, search_children}
use Rattle.trie.specs.Append.{new_node}
use Rattle.trie.specs.Index.{power_of_two, slot_of, slot_after, confirmed, entry_beside, search_in_turn, search_indexed}
use Rattle.trie.specs.Entered.{Entered, EnteredFound, FoundStays, MissedStays, Relinked, LinkedSame}
use Rattle.trie.specs.declared.Search.{Search}
use Rattle.trie.specs.declared.Search.TheVariants.{Found, Last, Damaged}
use Rattle.trie.proofs.SearchCases.{search-last, search-next, children-none, children-some}
use Rattle.trie.proofs.SearchLaws.{Step, hurt, same, ended, onto, search-step, sibling-within, first-within, Ends, children-ended}
use Rattle.trie.proofs.AppendLaws.{with-child, with-no-child, with-sibling, with-no-sibling}
use Rattle.trie.proofs.WalkLaws.{Grown, kept, new_is, new-sound, new-found, found-again, last-onward, children-again, children-onward}
use Rattle.trie.proofs.IndexLaws.{Confirmed, confirmed-is, confirmed-true}

-- ---- entries

module _ {t t' : Trie} {parent last token : ℕ} (g : Grown t t' parent last token) (e : Ends t parent last) where
  confirmed-up : (n x y : ℕ) → Confirmed t n x y → Confirmed t' n x y
  confirmed-up n x y k =
      let a = kept g e y k.below in
      record { above = k.above; below = omega (arith, k.below, g.nodes-more); parent_is = a.parent-same ∙ k.parent_is; token-is = a.token-same ∙ k.token-is }

  -- the new node, or one that was there
  confirmed-down : (n x y : ℕ) → Confirmed t' n x y → ((y ≡ t.nodes) × (n ≡ parent) × (x ≡ token)) ⊎ Confirmed t n x y
  confirmed-down n x y k = by_cases (eqb y t.nodes)
      (λ q. let i : y ≡ t.nodes = eqb-true _ _ q in
      let r : t'.at y ≡ new_node token parent = ap t'.at i ∙ new_is g e in
      inl (i, sym k.parent_is ∙ ap (λ (z : Node). z.parent) r, sym k.token-is ∙ ap (λ (z : Node). z.token) r))
      (λ q. let h : y < t.nodes = below y t.nodes (eqb-false _ _ q) (omega (arith, k.below, g.nodes-more)) in
      let a = kept g e y h in
      inr (record { above = k.above; below = h; parent_is = sym a.parent-same ∙ k.parent_is; token-is = sym a.token-same ∙ k.token-is }))
    where
      below : (a b : ℕ) → (a ≡ b → ⊥) → a < b + 1 → a < b
      below a b z l = omega arith

  abbrev Other : ℕ → ℕ → Type 0
  Other n x = n ≡ parent → x ≡ token → ⊥

  confirmed-same : (n x : ℕ) → Other n x → (y : ℕ) → confirmed t' n x y ≡ confirmed t n x y
  confirmed-same n x o y = by_cases (confirmed t n x y)
      (λ c. confirmed-true t' n x y (confirmed-up n x y (confirmed-is t n x y c)) ∙ sym c)
      (λ c. by_cases (confirmed t' n x y)
      (λ d. absurd (go c (confirmed-down n x y (confirmed-is t' n x y d))))
      (λ d. d ∙ sym c))
    where
      go : confirmed t n x y ≡ false → ((y ≡ t.nodes) × (n ≡ parent) × (x ≡ token)) ⊎ Confirmed t n x y → ⊥
      go c (inl i) = o i.1 i.2
      go c (inr k) = false≢true (sym c ∙ confirmed-true t n x y k)

  -- for the child that was entered: an entry that counts was counted before, or is that one
  confirmed-new : (y : ℕ) → confirmed t parent token y ≡ false → confirmed t' parent token y ≡ true → y ≡ t.nodes
  confirmed-new y c d = go (confirmed-down parent token y (confirmed-is t' parent token y d))
    where
      go : ((y ≡ t.nodes) × (parent ≡ parent) × (token ≡ token)) ⊎ Confirmed t parent token y → y ≡ t.nodes
      go (inl i) = i.0
      go (inr k) = absurd (false≢true (sym c ∙ confirmed-true t parent token y k))

-- ---- the chain

-- a child that the chain ends with has its parent
last-parent : (k : ℕ) (t : Trie) (p x n l : ℕ) → search_siblings k t p x n ≡ Last l → (t.at l).parent ≡ p
unfolding search_siblings
last-parent zero t p x n l f = let z : ◌≡◌ {A = ℕ} 0 1 = cc in absurd (omega arith)
last-parent (suc k) t p x n l f = go (search-step k t p x n) f (λ r. last-parent k t p x (t.at n).sibling l r)
  where
    go : {rest r : Search} → Step t p x n rest r → r ≡ Last l → (rest ≡ Last l → (t.at l).parent ≡ p) → (t.at l).parent ≡ p
    go hurt f on = let z : ◌≡◌ {A = ℕ} 0 1 = cc in absurd (omega arith)
    go (same s q w) f on = let z : ◌≡◌ {A = ℕ} 0 1 = cc in absurd (omega arith)
    go (ended s q w u) f on = let i : n ≡ l = cc in ap (λ (m : ℕ). (t.at m).parent) (sym i) ∙ q
    go (onto s q w u) f on = on f

children-last-parent : (t : Trie) (p x l : ℕ) → (l ≡ 0 → ⊥) → search_children t p x ≡ Last l → (t.at l).parent ≡ p
children-last-parent t p x l some f = by_cases (eqb (t.at p).child 0)
    (λ z. absurd (some (let d = children-none t p x (t.at p) refl (eqb-true _ _ z) in let i : 0 ≡ l = cc in sym i)))
    (λ z. last-parent t.nodes t p x (t.at p).child l (children-some t p x (t.at p) refl (eqb-false _ _ z) ∙ f))

module _ {t t' : Trie} {parent last token : ℕ} (g : Grown t t' parent last token) (e : Ends t parent last) where
  -- the new node is the last of its siblings
  new-last : (k x : ℕ) → (x ≡ token → ⊥) → search_siblings (suc k) t' parent x t.nodes ≡ Last t.nodes
  new-last k x o =
      let r = new_is g e in
      search-last k t' parent x t.nodes (new-sound g e) (ap (λ (y : Node). y.parent) r) (λ q. o (sym q ∙ ap (λ (y : Node). y.token) r)) (ap (λ (y : Node). y.sibling) r)

  -- the cell that leads on from a node that had no sibling: none still, or it was the last child and leads to the new one
  sibling-after : (m : ℕ) → m < t.nodes → (t.at m).sibling ≡ 0 → ((t'.at m).sibling ≡ 0) ⊎ ((last ≡ 0 → ⊥) × (m ≡ last) × ((t'.at m).sibling ≡ t.nodes))
  sibling-after m h u =
      let n : m ≡ t.nodes → ⊥ = omega arith in
      by_cases (eqb last 0)
      (λ z. by_cases (eqb m parent)
      (λ q. inl (ap (λ (y : Node). y.sibling) (g.records m ∙ with-child t.at t.nodes parent last token m n (eqb-true _ _ z) (eqb-true _ _ q)) ∙ u))
      (λ q. inl (ap (λ (y : Node). y.sibling) (g.records m ∙ with-no-child t.at t.nodes parent last token m n (eqb-true _ _ z) (eqb-false _ _ q)) ∙ u)))
      (λ z. by_cases (eqb m last)
      (λ q. inr (eqb-false _ _ z, eqb-true _ _ q, ap (λ (y : Node). y.sibling) (g.records m ∙ with-sibling t.at t.nodes parent last token m n (eqb-false _ _ z) (eqb-true _ _ q))))
      (λ q. inl (ap (λ (y : Node). y.sibling) (g.records m ∙ with-no-sibling t.at t.nodes parent last token m n (eqb-false _ _ z) (eqb-false _ _ q)) ∙ u)))

  child-after : (m : ℕ) → m < t.nodes → (t.at m).child ≡ 0 → ((t'.at m).child ≡ 0) ⊎ ((m ≡ parent) × ((t'.at m).child ≡ t.nodes))
  child-after m h u =
      let n : m ≡ t.nodes → ⊥ = omega arith in
      by_cases (eqb last 0)
      (λ z. by_cases (eqb m parent)
      (λ q. inr (eqb-true _ _ q, ap (λ (y : Node). y.child) (g.records m ∙ with-child t.at t.nodes parent last token m n (eqb-true _ _ z) (eqb-true _ _ q))))
      (λ q. inl (ap (λ (y : Node). y.child) (g.records m ∙ with-no-child t.at t.nodes parent last token m n (eqb-true _ _ z) (eqb-false _ _ q)) ∙ u)))
      (λ z. by_cases (eqb m last)
      (λ q. inl (ap (λ (y : Node). y.child) (g.records m ∙ with-sibling t.at t.nodes parent last token m n (eqb-false _ _ z) (eqb-true _ _ q)) ∙ u))
      (λ q. inl (ap (λ (y : Node). y.child) (g.records m ∙ with-no-sibling t.at t.nodes parent last token m n (eqb-false _ _ z) (eqb-false _ _ q)) ∙ u)))

  module _ (own : (last ≡ 0 → ⊥) → (t.at last).parent ≡ parent) (p x : ℕ) (o : p ≡ parent → x ≡ token → ⊥) where
    abbrev StillLast : ℕ → ℕ → Type 0
    StillLast k n = (l : ℕ) × (search_siblings k t' p x n ≡ Last l)

    last_step : (k' n : ℕ) {l : ℕ} {rest r : Search} → Step t p x n rest r → n < t.nodes → r ≡ Last l
        → ((t.at n).sibling < t.nodes → rest ≡ Last l → StillLast (suc k') (t.at n).sibling) → StillLast (suc (suc k')) n
    last_step k' n hurt h f on = let z : ◌≡◌ {A = ℕ} 0 1 = cc in absurd (omega arith)
    last_step k' n (same s q w) h f on = let z : ◌≡◌ {A = ℕ} 0 1 = cc in absurd (omega arith)
    last_step k' n (ended s q w u) h f on = go (sibling-after n h u)
      where
        go : ((t'.at n).sibling ≡ 0) ⊎ ((last ≡ 0 → ⊥) × (n ≡ last) × ((t'.at n).sibling ≡ t.nodes)) → StillLast (suc (suc k')) n
        go (inl z) =
            let a = kept g e n h in
            (n, search-last (suc k') t' p x n (a.sound-same s) (a.parent-same ∙ q) (λ y. w (sym a.token-same ∙ y)) z)
        go (inr i) =
            let a = kept g e n h in
            let j : p ≡ parent = sym q ∙ ap (λ (m : ℕ). (t.at m).parent) i.1 ∙ own i.0 in (
              t.nodes,
              search-next (suc k') t' p x n (a.sound-same s) (a.parent-same ∙ q) (λ y. w (sym a.token-same ∙ y)) (λ y. let v : t.nodes ≡ 0 = sym i.2 ∙ y in omega arith)
                  ∙ ap (search_siblings (suc k') t' p x) i.2 ∙ ap (λ (m : ℕ). search_siblings (suc k') t' m x t.nodes) j ∙ new-last k' x (o j),
            )
    last_step k' n (onto s q w u) h f on =
        let a = kept g e n h in
        let v : (t'.at n).sibling ≡ (t.at n).sibling = a.sibling-same u in
        let r = on (sibling-within t n h s) f in
        (r.0, search-next (suc k') t' p x n (a.sound-same s) (a.parent-same ∙ q) (λ y. w (sym a.token-same ∙ y)) (λ y. u (sym v ∙ y)) ∙ ap (search_siblings (suc k') t' p x) v ∙ r.1)

    last-again : (k k' n l : ℕ) → k < k' → n < t.nodes → search_siblings k t p x n ≡ Last l → StillLast k' n
    unfolding search_siblings
    last-again zero k' n l i h f = let z : ◌≡◌ {A = ℕ} 0 1 = cc in absurd (omega arith)
    last-again (suc k) zero n l i h f = absurd (omega arith)
    last-again (suc k) (suc zero) n l i h f = absurd (omega arith)
    last-again (suc k) (suc (suc k')) n l i h f = last_step k' n (search-step k t p x n) h f (λ j r. last-again k (suc k') (t.at n).sibling l (omega arith) j r)

    children-last : (l : ℕ) → p < t.nodes → sound t p ≡ true → search_children t p x ≡ Last l → (m : ℕ) × (search_children t' p x ≡ Last m)
    children-last l h s f = by_cases (eqb (t.at p).child 0)
        (λ z. none (child-after p h (eqb-true _ _ z)))
        (λ z. let c : (t'.at p).child ≡ (t.at p).child = (kept g e p h).child-same (eqb-false _ _ z) in
        let r = last-again t.nodes t'.nodes (t.at p).child l (omega (arith, g.nodes-more)) (first-within t p h s) (children-some t p x (t.at p) refl (eqb-false _ _ z) ∙ f) in
        (r.0, sym (children-some t' p x (t'.at p) refl (λ y. eqb-false _ _ z (sym c ∙ y))) ∙ ap (search_siblings t'.nodes t' p x) c ∙ r.1))
      where
        none : ((t'.at p).child ≡ 0) ⊎ ((p ≡ parent) × ((t'.at p).child ≡ t.nodes)) → (m : ℕ) × (search_children t' p x ≡ Last m)
        none (inl z) = (0, sym (children-none t' p x (t'.at p) refl z))
        none (inr i) =
            let m : t'.nodes ≡ suc t.nodes = let n = g.nodes-more in omega arith in (
              t.nodes,
              sym (children-some t' p x (t'.at p) refl (λ y. let v : t.nodes ≡ 0 = sym i.1 ∙ y in omega arith))
                  ∙ ap (search_siblings t'.nodes t' p x) i.1 ∙ ap (λ (k : ℕ). search_siblings k t' p x t.nodes) m
                  ∙ ap (λ (q : ℕ). search_siblings (suc t.nodes) t' q x t.nodes) i.0 ∙ new-last t.nodes x (o i.0),
            )

-- ---- the search

-- a sibling that is new takes no slot
turn-new : (index : List ℕ) (stood k : ℕ) (t : Trie) (p x slot n : ℕ) → stood ≤ n → search_in_turn (suc k) t index stood p x slot n ≡ search_siblings (suc k) t p x n
unfolding search_in_turn entry_beside
turn-new index stood k t p x slot n a = rw (le-ltb n stood a)

-- where it misses, the chain does
turn_last : (index : List ℕ) (stood k : ℕ) (t : Trie) (p x slot n l : ℕ) → search_in_turn k t index stood p x slot n ≡ Last l → search_siblings k t p x n ≡ Last l
unfolding search_in_turn search_siblings
turn_last index stood zero t p x slot n l f = let z : ◌≡◌ {A = ℕ} 0 1 = cc in absurd (omega arith)
turn_last index stood (suc k) t p x slot n l f =
    by_cases (eqb (entry_beside index stood slot n) 0)
    (λ z. rw z at f)
    (λ z. by_cases (confirmed t p x (entry_beside index stood slot n))
    (λ c. by_cases (sound t (entry_beside index stood slot n))
    (λ s. let i : Found (entry_beside index stood slot n) ≡ Last l = rw (z, c, s) at f in let y : ◌≡◌ {A = ℕ} 0 1 = cc in absurd (omega arith))
    (λ s. let i : Damaged ≡ Last l = rw (z, c, s) at f in let y : ◌≡◌ {A = ℕ} 0 1 = cc in absurd (omega arith)))
    (λ c. by_cases (sound t n) (λ s.
    by_cases (eqb (t.at n).parent p) (λ q.
    by_cases (eqb (t.at n).token x)
    (λ w. let i : Found n ≡ Last l = rw (z, c, s, q, w) at f in let y : ◌≡◌ {A = ℕ} 0 1 = cc in absurd (omega arith))
    (λ w.
    by_cases (eqb (t.at n).sibling 0)
    (λ u. rw (s, q, w, u) (rw (z, c, s, q, w, u) at f))
    (λ u. rw (s, q, w, u) (turn_last index stood k t p x (slot_after (length index) slot) (t.at n).sibling l (rw (z, c, s, q, w, u) at f)))))
    (λ q. let i : Damaged ≡ Last l = rw (z, c, s, q) at f in let y : ◌≡◌ {A = ℕ} 0 1 = cc in absurd (omega arith)))
    (λ s. let i : Damaged ≡ Last l = rw (z, c, s) at f in let y : ◌≡◌ {A = ℕ} 0 1 = cc in absurd (omega arith))))

pub missed-chain : (index : List ℕ) (stood : ℕ) (t : Trie) (p x l : ℕ) → search_indexed index stood t p x ≡ Last l → search_children t p x ≡ Last l
unfolding search_indexed
missed-chain index stood t p x l f = by_cases (eqb (t.at p).child 0)
    (λ z. sym (children-none t p x (t.at p) refl (eqb-true _ _ z)) ∙ (rw z at f))
    (λ z. by_cases (power_of_two (length index))
    (λ w. sym (children-some t p x (t.at p) refl (eqb-false _ _ z)) ∙ turn_last index stood t.nodes t p x _ (t.at p).child l (rw (z, w) at f))
    (λ w. rw (z, w) at f))

-- a node without a child
pub childless : (index : List ℕ) (stood : ℕ) (t : Trie) (p x : ℕ) → (t.at p).child ≡ 0 → search_indexed index stood t p x ≡ Last 0
unfolding search_indexed
childless index stood t p x z = rw z

module _ (index : List ℕ) (stood : ℕ) {t t' : Trie} {parent last token : ℕ} (g : Grown t t' parent last token) (e : Ends t parent last) (few : stood ≤ t.nodes) (own : (last ≡ 0 → ⊥) → (t.at last).parent ≡ parent) where
  -- there is room for a turn more, and a node
  some-node : eqb t.nodes 0 ≡ false
  some-node = ne_eqb _ _ (λ (y : t.nodes ≡ 0). omega (arith, e.parent-within))

  node-more : t'.nodes ≡ suc t.nodes
  node-more = let n = g.nodes-more in omega arith

  -- ---- the child that is entered

  turn-entered : (k k' slot n : ℕ) → k < k' → n < t.nodes → (last ≡ 0 → ⊥) → search_in_turn k t index stood parent token slot n ≡ Last last → search_in_turn k' t' index stood parent token slot n ≡ Found t.nodes
  unfolding search_in_turn
  turn-entered zero k' slot n i h o f = let z : ◌≡◌ {A = ℕ} 0 1 = cc in absurd (omega arith)
  turn-entered (suc k) zero slot n i h o f = absurd (omega arith)
  turn-entered (suc k) (suc zero) slot n i h o f = absurd (omega arith)
  turn-entered (suc k) (suc (suc k')) slot n i h o f =
      let a = kept g e n h in
      by_cases (eqb (entry_beside index stood slot n) 0)
      (λ z. rw z (last-onward g e (suc k) (suc (suc k')) n i h o (rw z at f)))
      (λ z. by_cases (confirmed t parent token (entry_beside index stood slot n))
      (λ m. by_cases (sound t (entry_beside index stood slot n))
      (λ s. let j : Found (entry_beside index stood slot n) ≡ Last last = rw (z, m, s) at f in let y : ◌≡◌ {A = ℕ} 0 1 = cc in absurd (omega arith))
      (λ s. let j : Damaged ≡ Last last = rw (z, m, s) at f in let y : ◌≡◌ {A = ℕ} 0 1 = cc in absurd (omega arith)))
      (λ m. by_cases (confirmed t' parent token (entry_beside index stood slot n))
      (λ d. let y : entry_beside index stood slot n ≡ t.nodes = confirmed-new g e (entry_beside index stood slot n) m d in
      let d' : confirmed t' parent token t.nodes ≡ true = sym (ap (confirmed t' parent token) y) ∙ d in
      rw (y, some-node, d', new-sound g e))
      (λ d. by_cases (sound t n) (λ s.
      by_cases (eqb (t.at n).parent parent) (λ q.
      by_cases (eqb (t.at n).token token)
      (λ w. let j : Found n ≡ Last last = rw (z, m, s, q, w) at f in let y : ◌≡◌ {A = ℕ} 0 1 = cc in absurd (omega arith))
      (λ w.
      by_cases (eqb (t.at n).sibling 0)
      (λ u. let l : Last n ≡ Last last = rw (z, m, s, q, w, u) at f in
      let v : (t'.at n).sibling ≡ t.nodes = ap (λ (y : Node). y.sibling) (g.records n ∙ with-sibling t.at t.nodes parent last token n (omega arith) o cc) in
      rw (z, d, a.sound-same s, a.parent-same, q, a.token-same, w, v, some-node) (turn-new index stood k' t' parent token (slot_after (length index) slot) t.nodes few ∙ new-found g e k'))
      (λ u. rw (z, d, a.sound-same s, a.parent-same, q, a.token-same, w, a.sibling-same (eqb-false _ _ u), u)
      (turn-entered k (suc k') (slot_after (length index) slot) (t.at n).sibling (omega arith) (sibling-within t n h s) o (rw (z, m, s, q, w, u) at f)))))
      (λ q. let j : Damaged ≡ Last last = rw (z, m, s, q) at f in let y : ◌≡◌ {A = ℕ} 0 1 = cc in absurd (omega arith)))
      (λ s. let j : Damaged ≡ Last last = rw (z, m, s) at f in let y : ◌≡◌ {A = ℕ} 0 1 = cc in absurd (omega arith)))))

  entered-first : power_of_two (length index) ≡ true → (t'.at parent).child ≡ t.nodes → search_indexed index stood t' parent token ≡ Found t.nodes
  entered-first w c =
      let slot : ℕ = slot_of (length index) parent token in
      unfolded
      ∙ ap (λ (k : ℕ). search_in_turn k t' index stood parent token slot t.nodes) node-more
      ∙ turn-new index stood t.nodes t' parent token slot t.nodes few ∙ new-found g e t.nodes
    where
      unfolded : search_indexed index stood t' parent token ≡ search_in_turn t'.nodes t' index stood parent token (slot_of (length index) parent token) t.nodes
      unfolded = unfold search_indexed in rw (c, some-node, w)

  entered-found : sound t parent ≡ true → search_indexed index stood t parent token ≡ Last last → search_indexed index stood t' parent token ≡ Found t.nodes
  unfolding search_indexed
  entered-found s f = by_cases (power_of_two (length index))
      (λ w. by_cases (eqb (t.at parent).child 0)
      (λ z. let l : Last 0 ≡ Last last = rw z at f in
      let i : last ≡ 0 = cc in
      entered-first w (ap (λ (y : Node). y.child) (g.records parent ∙ with-child t.at t.nodes parent last token parent (omega (arith, e.parent-within)) i refl)))
      (λ z. let v : (t'.at parent).child ≡ (t.at parent).child = (kept g e parent e.parent-within).child-same (eqb-false _ _ z) in
      let o : last ≡ 0 → ⊥ = λ y. eqb-false _ _ z (e.no-child y) in
      rw (v, z, w) (turn-entered t.nodes t'.nodes (slot_of (length index) parent token) (t.at parent).child (omega (arith, g.nodes-more)) (first-within t parent e.parent-within s) o (rw (z, w) at f))))
      (λ w. let on : search_children t' parent token ≡ Found t.nodes = children-onward g e s (missed-chain index stood t parent token last f) in
      by_cases (eqb (t'.at parent).child 0)
      (λ z. let d = children-none t' parent token (t'.at parent) refl (eqb-true _ _ z) in let y : ◌≡◌ {A = ℕ} 0 1 = cc in absurd (omega arith))
      (λ z. rw (z, w) on))

  -- ---- other children

  module _ (p x : ℕ) (o : Other g e p x) where
    turn-again : (k k' slot n c : ℕ) → k ≤ k' → n < t.nodes → search_in_turn k t index stood p x slot n ≡ Found c → search_in_turn k' t' index stood p x slot n ≡ Found c
    unfolding search_in_turn
    turn-again zero k' slot n c l h f = let z : ◌≡◌ {A = ℕ} 0 1 = cc in absurd (omega arith)
    turn-again (suc k) zero slot n c l h f = absurd (omega arith)
    turn-again (suc k) (suc k') slot n c l h f =
        let a = kept g e n h in
        let d : confirmed t' p x (entry_beside index stood slot n) ≡ confirmed t p x (entry_beside index stood slot n) = confirmed-same g e p x o (entry_beside index stood slot n) in
        by_cases (eqb (entry_beside index stood slot n) 0)
        (λ z. rw z (found-again g e (suc k) (suc k') p x n c l h (rw z at f)))
        (λ z. by_cases (confirmed t p x (entry_beside index stood slot n))
        (λ m. by_cases (sound t (entry_beside index stood slot n))
        (λ s. let s' = (kept g e (entry_beside index stood slot n) (confirmed-is t p x _ m).below).sound-same s in rw (z, d, m, s') (rw (z, m, s) at f))
        (λ s. let i : Damaged ≡ Found c = rw (z, m, s) at f in let y : ◌≡◌ {A = ℕ} 0 1 = cc in absurd (omega arith)))
        (λ m. by_cases (sound t n) (λ s.
        by_cases (eqb (t.at n).parent p) (λ q.
        by_cases (eqb (t.at n).token x)
        (λ w. rw (z, d, m, a.sound-same s, a.parent-same, q, a.token-same, w) (rw (z, m, s, q, w) at f))
        (λ w.
        by_cases (eqb (t.at n).sibling 0)
        (λ u. let i : Last n ≡ Found c = rw (z, m, s, q, w, u) at f in let y : ◌≡◌ {A = ℕ} 0 1 = cc in absurd (omega arith))
        (λ u. rw (z, d, m, a.sound-same s, a.parent-same, q, a.token-same, w, a.sibling-same (eqb-false _ _ u), u)
        (turn-again k k' (slot_after (length index) slot) (t.at n).sibling c (omega arith) (sibling-within t n h s) (rw (z, m, s, q, w, u) at f)))))
        (λ q. let i : Damaged ≡ Found c = rw (z, m, s, q) at f in let y : ◌≡◌ {A = ℕ} 0 1 = cc in absurd (omega arith)))
        (λ s. let i : Damaged ≡ Found c = rw (z, m, s) at f in let y : ◌≡◌ {A = ℕ} 0 1 = cc in absurd (omega arith))))

    indexed-again : (c : ℕ) → p < t.nodes → sound t p ≡ true → search_indexed index stood t p x ≡ Found c → search_indexed index stood t' p x ≡ Found c
    unfolding search_indexed
    indexed-again c h s f = by_cases (eqb (t.at p).child 0)
        (λ z. let i : Last 0 ≡ Found c = rw z at f in let y : ◌≡◌ {A = ℕ} 0 1 = cc in absurd (omega arith))
        (λ z. let v : (t'.at p).child ≡ (t.at p).child = (kept g e p h).child-same (eqb-false _ _ z) in
        by_cases (power_of_two (length index))
        (λ w. rw (v, z, w) (turn-again t.nodes t'.nodes (slot_of (length index) p x) (t.at p).child c (omega (arith, g.nodes-more)) (first-within t p h s) (rw (z, w) at f)))
        (λ w. rw (v, z, w) (children-again g e p x c h s (rw (z, w) at f))))

    turn-missed : (k k' slot n l : ℕ) → k < k' → n < t.nodes → search_in_turn k t index stood p x slot n ≡ Last l → (m : ℕ) × (search_in_turn k' t' index stood p x slot n ≡ Last m)
    unfolding search_in_turn
    turn-missed zero k' slot n l i h f = let z : ◌≡◌ {A = ℕ} 0 1 = cc in absurd (omega arith)
    turn-missed (suc k) zero slot n l i h f = absurd (omega arith)
    turn-missed (suc k) (suc zero) slot n l i h f = absurd (omega arith)
    turn-missed (suc k) (suc (suc k')) slot n l i h f =
        let a = kept g e n h in
        let d : confirmed t' p x (entry_beside index stood slot n) ≡ confirmed t p x (entry_beside index stood slot n) = confirmed-same g e p x o (entry_beside index stood slot n) in
        by_cases (eqb (entry_beside index stood slot n) 0)
        (λ z. rw z (last-again g e own p x o (suc k) (suc (suc k')) n l i h (rw z at f)))
        (λ z. by_cases (confirmed t p x (entry_beside index stood slot n))
        (λ m. by_cases (sound t (entry_beside index stood slot n))
        (λ s. let j : Found (entry_beside index stood slot n) ≡ Last l = rw (z, m, s) at f in let y : ◌≡◌ {A = ℕ} 0 1 = cc in absurd (omega arith))
        (λ s. let j : Damaged ≡ Last l = rw (z, m, s) at f in let y : ◌≡◌ {A = ℕ} 0 1 = cc in absurd (omega arith)))
        (λ m. by_cases (sound t n) (λ s.
        by_cases (eqb (t.at n).parent p) (λ q.
        by_cases (eqb (t.at n).token x)
        (λ w. let j : Found n ≡ Last l = rw (z, m, s, q, w) at f in let y : ◌≡◌ {A = ℕ} 0 1 = cc in absurd (omega arith))
        (λ w.
        by_cases (eqb (t.at n).sibling 0)
        (λ u. rw (z, d, m, a.sound-same s, a.parent-same, q, a.token-same, w) (at-end k' slot n h (eqb-true _ _ q) (sibling-after g e n h (eqb-true _ _ u))))
        (λ u. rw (z, d, m, a.sound-same s, a.parent-same, q, a.token-same, w, a.sibling-same (eqb-false _ _ u), u)
        (turn-missed k (suc k') (slot_after (length index) slot) (t.at n).sibling l (omega arith) (sibling-within t n h s) (rw (z, m, s, q, w, u) at f)))))
        (λ q. let j : Damaged ≡ Last l = rw (z, m, s, q) at f in let y : ◌≡◌ {A = ℕ} 0 1 = cc in absurd (omega arith)))
        (λ s. let j : Damaged ≡ Last l = rw (z, m, s) at f in let y : ◌≡◌ {A = ℕ} 0 1 = cc in absurd (omega arith))))
      where
        at-end : (k' slot n : ℕ) → n < t.nodes → (t.at n).parent ≡ p → ((t'.at n).sibling ≡ 0) ⊎ ((last ≡ 0 → ⊥) × (n ≡ last) × ((t'.at n).sibling ≡ t.nodes))
            → (m : ℕ) × (pick (eqb (t'.at n).sibling 0) (Last n) (search_in_turn (suc k') t' index stood p x (slot_after (length index) slot) (t'.at n).sibling) ≡ Last m)
        at-end k' slot n h q (inl z) = (n, rw (eq-eqb _ _ z))
        at-end k' slot n h q (inr j) =
            let v : p ≡ parent = sym q ∙ ap (λ (m : ℕ). (t.at m).parent) j.1 ∙ own j.0 in
            (t.nodes, rw (j.2, some-node) (turn-new index stood k' t' p x (slot_after (length index) slot) t.nodes few ∙ ap (λ (m : ℕ). search_siblings (suc k') t' m x t.nodes) v ∙ new-last g e k' x (o v)))

    indexed-missed : (l : ℕ) → p < t.nodes → sound t p ≡ true → search_indexed index stood t p x ≡ Last l → (m : ℕ) × (search_indexed index stood t' p x ≡ Last m)
    unfolding search_indexed
    indexed-missed l h s f = by_cases (power_of_two (length index))
        (λ w. by_cases (eqb (t.at p).child 0)
        (λ z. none w (child-after g e p h (eqb-true _ _ z)))
        (λ z. let v : (t'.at p).child ≡ (t.at p).child = (kept g e p h).child-same (eqb-false _ _ z) in
        rw (v, z, w) (turn-missed t.nodes t'.nodes (slot_of (length index) p x) (t.at p).child l (omega (arith, g.nodes-more)) (first-within t p h s) (rw (z, w) at f))))
        (λ w. let r = children-last g e own p x o l h s (missed-chain index stood t p x l f) in
        (r.0, by_cases (eqb (t'.at p).child 0) (λ z. rw z (children-none t' p x (t'.at p) refl (eqb-true _ _ z) ∙ r.1)) (λ z. rw (z, w) r.1)))
      where
        opened : power_of_two (length index) ≡ true → (t'.at p).child ≡ t.nodes → search_indexed index stood t' p x ≡ search_in_turn t'.nodes t' index stood p x (slot_of (length index) p x) t.nodes
        opened w c = unfold search_indexed in rw (c, some-node, w)

        none : power_of_two (length index) ≡ true → ((t'.at p).child ≡ 0) ⊎ ((p ≡ parent) × ((t'.at p).child ≡ t.nodes)) → (m : ℕ) × (search_indexed index stood t' p x ≡ Last m)
        none w (inl z) = (0, childless index stood t' p x z)
        none w (inr j) =
            let slot : ℕ = slot_of (length index) p x in (
              t.nodes,
              opened w j.1 ∙ ap (λ (k : ℕ). search_in_turn k t' index stood p x slot t.nodes) node-more
                  ∙ turn-new index stood t.nodes t' p x slot t.nodes few
                  ∙ ap (λ (q : ℕ). search_siblings (suc t.nodes) t' q x t.nodes) j.0 ∙ new-last g e t.nodes x (o j.0),
            )

module _ (index : List ℕ) (stood : ℕ) {t t' : Trie} {parent last token : ℕ} (en : Entered (search_indexed index stood) t t' parent last token) where
  pub entered-grown : Grown t t' parent last token
  entered-grown = record { nodes-more = en.nodes-more; links-same = en.links-same; records = en.records }

  pub entered-ends : Ends t parent last
  entered-ends = children-ended t parent token last en.within en.judged (missed-chain index stood t parent token last en.missed)

  entered-own : (last ≡ 0 → ⊥) → (t.at last).parent ≡ parent
  entered-own some = children-last-parent t parent token last some (missed-chain index stood t parent token last en.missed)

pub node-found : EnteredFound
node-found index stood t t' parent last token en few =
    entered-found index stood (entered-grown index stood en) (entered-ends index stood en) few (entered-own index stood en) en.judged en.missed

pub found-stays : FoundStays
found-stays index stood t t' parent last token en few n x c h s f =
    indexed-again index stood (entered-grown index stood en) (entered-ends index stood en) few (entered-own index stood en) n x (λ i j.
    let y = sym f ∙ ap (λ (k : ℕ). search_indexed index stood t k x) i ∙ ap (search_indexed index stood t parent) j ∙ en.missed in
    let z : ◌≡◌ {A = ℕ} 0 1 = cc in omega arith) c h s f

pub missed-stays : MissedStays
missed-stays index stood t t' parent last token en few n x l h s f = by_cases (eqb n parent)
    (λ i. by_cases (eqb x token)
    (λ j. inr (eqb-true _ _ i, eqb-true _ _ j))
    (λ j. inl (go (λ a b. eqb-false _ _ j b))))
    (λ i. inl (go (λ a b. eqb-false _ _ i a)))
  where
    go : (n ≡ parent → x ≡ token → ⊥) → (k : ℕ) × (search_indexed index stood t' n x ≡ Last k)
    go o = indexed-missed index stood (entered-grown index stood en) (entered-ends index stood en) few (entered-own index stood en) n x o l h s f

-- ---- links

module _ {t t' : Trie} (k : Relinked t t') where
  pub relinked-sound : (n : ℕ) → n < t.nodes → sound t n ≡ true → sound t' n ≡ true
  relinked-sound n h s =
      let b = node-bounds t.nodes t.links n (t.at n) s in
      node-sound t'.nodes t'.links n (t'.at n) (record {
        child-follows = subst (λ (i : ℕ). follows t'.nodes n i ≡ true) (sym (k.children-same n h)) (subst (λ (i : ℕ). follows i n (t.at n).child ≡ true) (sym k.nodes-same) b.child-follows);
        sibling-follows = subst (λ (i : ℕ). follows t'.nodes n i ≡ true) (sym (k.siblings-same n h)) (subst (λ (i : ℕ). follows i n (t.at n).sibling ≡ true) (sym k.nodes-same) b.sibling-follows);
        parent-most = subst (λ (i : ℕ). i ≤ n) (sym (k.parents-same n h)) b.parent-most;
        link-most = k.links-held n h b.link-most;
      })

  relinked-confirmed : (n x y : ℕ) → confirmed t' n x y ≡ confirmed t n x y
  unfolding confirmed
  relinked-confirmed n x y = by_cases (ltb y t.nodes)
      (λ h. rw (k.nodes-same, k.parents-same y (ltb-true _ _ h), k.tokens-same y (ltb-true _ _ h)))
      (λ h. by_cases (ltb n y) (λ b. rw (k.nodes-same, h, b)) (λ b. rw (k.nodes-same, h, b)))

  module _ (p x : ℕ) (r : Search) (d : r ≡ Damaged → ⊥) where
    relinked-chain : (i n : ℕ) → n < t.nodes → search_siblings i t p x n ≡ r → search_siblings i t' p x n ≡ r
    unfolding search_siblings
    relinked-chain zero n h f = absurd (d (sym f))
    relinked-chain (suc i) n h f =
        by_cases (sound t n) (λ s.
        by_cases (eqb (t.at n).parent p) (λ q.
        by_cases (eqb (t.at n).token x)
        (λ w. rw (relinked-sound n h s, k.parents-same n h, q, k.tokens-same n h, w) (rw (s, q, w) at f))
        (λ w.
        by_cases (eqb (t.at n).sibling 0)
        (λ u. rw (relinked-sound n h s, k.parents-same n h, q, k.tokens-same n h, w, k.siblings-same n h, u) (rw (s, q, w, u) at f))
        (λ u. rw (relinked-sound n h s, k.parents-same n h, q, k.tokens-same n h, w, k.siblings-same n h, u) (relinked-chain i (t.at n).sibling (sibling-within t n h s) (rw (s, q, w, u) at f)))))
        (λ q. absurd (d (sym (rw (s, q) at f)))))
        (λ s. absurd (d (sym (rw s at f))))

    module _ (index : List ℕ) (stood : ℕ) where
      relinked-turn : (i slot n : ℕ) → n < t.nodes → search_in_turn i t index stood p x slot n ≡ r → search_in_turn i t' index stood p x slot n ≡ r
      unfolding search_in_turn
      relinked-turn zero slot n h f = absurd (d (sym f))
      relinked-turn (suc i) slot n h f =
          let same : confirmed t' p x (entry_beside index stood slot n) ≡ confirmed t p x (entry_beside index stood slot n) = relinked-confirmed p x (entry_beside index stood slot n) in
          by_cases (eqb (entry_beside index stood slot n) 0)
          (λ z. rw z (relinked-chain (suc i) n h (rw z at f)))
          (λ z. by_cases (confirmed t p x (entry_beside index stood slot n))
          (λ m. by_cases (sound t (entry_beside index stood slot n))
          (λ s. rw (z, same, m, relinked-sound (entry_beside index stood slot n) (confirmed-is t p x _ m).below s) (rw (z, m, s) at f))
          (λ s. absurd (d (sym (rw (z, m, s) at f)))))
          (λ m. by_cases (sound t n) (λ s.
          by_cases (eqb (t.at n).parent p) (λ q.
          by_cases (eqb (t.at n).token x)
          (λ w. rw (z, same, m, relinked-sound n h s, k.parents-same n h, q, k.tokens-same n h, w) (rw (z, m, s, q, w) at f))
          (λ w.
          by_cases (eqb (t.at n).sibling 0)
          (λ u. rw (z, same, m, relinked-sound n h s, k.parents-same n h, q, k.tokens-same n h, w, k.siblings-same n h, u) (rw (z, m, s, q, w, u) at f))
          (λ u. rw (z, same, m, relinked-sound n h s, k.parents-same n h, q, k.tokens-same n h, w, k.siblings-same n h, u)
          (relinked-turn i (slot_after (length index) slot) (t.at n).sibling (sibling-within t n h s) (rw (z, m, s, q, w, u) at f)))))
          (λ q. absurd (d (sym (rw (z, m, s, q) at f)))))
          (λ s. absurd (d (sym (rw (z, m, s) at f))))))

      relinked-indexed : p < t.nodes → sound t p ≡ true → search_indexed index stood t p x ≡ r → search_indexed index stood t' p x ≡ r
      unfolding search_indexed search_children
      relinked-indexed h s f = by_cases (eqb (t.at p).child 0)
          (λ z. rw (k.children-same p h, z) (rw z at f))
          (λ z. by_cases (power_of_two (length index))
          (λ w. rw (k.children-same p h, z, w)
          (ap (λ (i : ℕ). search_in_turn i t' index stood p x (slot_of (length index) p x) (t.at p).child) k.nodes-same
          ∙ relinked-turn t.nodes (slot_of (length index) p x) (t.at p).child (first-within t p h s) (rw (z, w) at f)))
          (λ w. rw (k.children-same p h, z, w)
          (ap (λ (i : ℕ). search_siblings i t' p x (t.at p).child) k.nodes-same ∙ relinked-chain t.nodes (t.at p).child (first-within t p h s) (rw (z, w) at f))))

pub linked-same : LinkedSame
linked-same index stood t t' k n x r h s d f = relinked-indexed k n x r d index stood h s f
