-- A law for each case of the search with an index, over what stands in the slot and the record that was read.
use Rattle.std.specs.Prelude.{None, Some}
use Rattle.std.proofs.Common.{◌≡◌, ℕ, zero, suc, ◌+◌, ◌<◌, ◌≤◌, Bool, true, false, ◌⊎◌, List, [], length, take, sym, refl, ap, ◌∙◌, inl, inr, arith, length-take, take_all, eq-eqb, ne_eqb}
use Rattle.basis.specs.Choice.{pick}
use Rattle.basis.proofs.Cases.{by_cases}
use Rattle.space.specs.Layout.{sizes, node_in}
use Rattle.space.specs.Judging.{read_node}
use Rattle.space.specs.declared.Node.{Node}
use Rattle.space.proofs.JudgingLaws.{read-node-sound, read-node-damaged}
use Rattle.trie.specs.Siblings.{Trie, trie_in, sound, search_siblings, search_children}
use Rattle.trie.specs.Walks.{walk_from_by, walk_by, shown}
use Rattle.trie.specs.Index.{power_of_two, power_below, slot_of, slot_after, used_slots, confirmed, confirmed_in, judged_in, entry_beside, search_in_turn, search_indexed, Slotted}
use Rattle.trie.specs.declared.Search.{Search}
use Rattle.trie.specs.declared.Search.TheVariants.{Found, Last, Damaged}
use Rattle.trie.proofs.SearchCases.{Here, at_next}
use Rattle.trie.proofs.SearchLaws.{sibling-within, sibling-rises, first-within}
use Rattle.trie.proofs.IndexLaws.{at-alike, unpowered, walk-unpowered, confirmed-is}

-- ---- an entry

module _ (cs : List ℕ) (nodes links x : ℕ) where
  pub judge-damaged : None ≡ read_node nodes links (node_in sizes cs) x → Damaged ≡ judged_in cs nodes links x
  unfolding judged_in
  judge-damaged e = simp (read-node-damaged nodes links (node_in sizes cs) x e)

  pub judge-sound : (y : Node) → Some y ≡ read_node nodes links (node_in sizes cs) x → Found x ≡ judged_in cs nodes links x
  unfolding judged_in
  judge-sound y e = simp (read-node-sound nodes links (node_in sizes cs) x e).1

-- ---- steps beyond the last sibling change nothing

module _ (t : Trie) (parent token : ℕ) where
  pub siblings-enough : (k m n : ℕ) → n < t.nodes → t.nodes ≤ k + n → t.nodes ≤ m + n → search_siblings k t parent token n ≡ search_siblings m t parent token n
  unfolding search_siblings
  siblings-enough zero m n h a b = absurd (omega arith)
  siblings-enough (suc k) zero n h a b = absurd (omega arith)
  siblings-enough (suc k) (suc m) n h a b = at-alike t parent token n _ _ (λ s p q r.
      let up : n < (t.at n).sibling = sibling-rises t n s r in
      siblings-enough k m (t.at n).sibling (sibling-within t n h s) (omega arith) (omega arith))

-- ---- the turns

-- the search has come to sibling n and this slot; `steps` are left, enough for every node from n on, and give w
pub record Turns (t : Trie) (index : List ℕ) (stood parent token n slot : ℕ) (w : Search) : Type 0 where
  pub steps : ℕ
  pub within : n < t.nodes
  pub slot-within : slot < length index
  pub enough : t.nodes ≤ steps + n
  pub same : w ≡ search_in_turn steps t index stood parent token slot n

pub turns-begin : (t : Trie) (index : List ℕ) (stood parent token n slot : ℕ) → n < t.nodes → slot < length index → Turns t index stood parent token n slot (search_in_turn t.nodes t index stood parent token slot n)
turns-begin t index stood parent token n slot h k = record { steps = t.nodes; within = h; slot-within = k; enough = omega arith; same = refl }

-- with one step taken off
pub record Turned (t : Trie) (index : List ℕ) (stood parent token n slot : ℕ) (w : Search) : Type 0 where
  pub steps : ℕ
  pub enough : t.nodes ≤ steps + n + 1
  pub same : w ≡ search_in_turn (suc steps) t index stood parent token slot n

turned : (k : ℕ) (t : Trie) (index : List ℕ) (stood parent token n slot : ℕ) (w : Search) → n < t.nodes → t.nodes ≤ k + n → w ≡ search_in_turn k t index stood parent token slot n → Turned t index stood parent token n slot w
turned zero t index stood parent token n slot w l e q = absurd (omega arith)
turned (suc k) t index stood parent token n slot w l e q = record { steps = k; enough = omega arith; same = q }

module _ {t : Trie} {index : List ℕ} {stood parent token n slot : ℕ} {w : Search} (a : Turns t index stood parent token n slot w) where
  pub first-turn : Turned t index stood parent token n slot w
  first-turn = turned a.steps t index stood parent token n slot w a.within a.enough a.same

  abbrev Rest : Search
  Rest = search_in_turn first-turn.steps t index stood parent token (slot_after (length index) slot) (t.at n).sibling

  pub turns_alone : entry_beside index stood slot n ≡ 0 → search_siblings t.nodes t parent token n ≡ w
  unfolding search_in_turn
  turns_alone e =
      let more = first-turn.enough in
      siblings-enough t parent token t.nodes (suc first-turn.steps) n a.within (omega arith) (omega arith)
      ∙ sym (first-turn.same ∙ simp (eq-eqb _ _ e))

  module _ (e : entry_beside index stood slot n ≡ 0 → ⊥) where
    pub turns-confirmed : confirmed t parent token (entry_beside index stood slot n) ≡ true → pick (sound t (entry_beside index stood slot n)) (Found (entry_beside index stood slot n)) Damaged ≡ w
    unfolding search_in_turn
    turns-confirmed k = sym (first-turn.same ∙ simp (ne_eqb _ _ e, k))

    pub turns-passed : confirmed t parent token (entry_beside index stood slot n) ≡ false → Here t parent token n Rest w
    unfolding search_in_turn
    turns-passed k = record { gives = first-turn.same ∙ simp (ne_eqb _ _ e, k) }

    module _ (k : confirmed t parent token (entry_beside index stood slot n) ≡ false) (y : Node) (i : Some y ≡ read_node t.nodes t.links t.at n)
        (p : y.parent ≡ parent) (q : y.token ≡ token → ⊥) (r : y.sibling ≡ 0 → ⊥) where
      pub turns_next : (slot' : ℕ) → slot' ≡ slot_after (length index) slot → slot' < length index → (n < y.sibling) × Turns t index stood parent token y.sibling slot' w
      turns_next slot' f l =
          let x = at_next (turns-passed k) y i p q r a.within in
          let up : n < y.sibling = x.0 in
          let m = first-turn.enough in (
            up,
            record {
              steps = first-turn.steps;
              within = x.1;
              slot-within = l;
              enough = omega arith;
              same = x.3 ∙ rw (f, x.2);
            },
          )

-- ---- all children

-- slots that are none at all are no power of two
pub none-powered : (index : List ℕ) → length index ≡ 0 → power_of_two (length index) ≡ false
unfolding power_below
none-powered index e = rw e

module _ (t : Trie) (index : List ℕ) (stood parent token : ℕ) where
  pub no-slots : length index ≡ 0 → search_indexed index stood t parent token ≡ search_children t parent token
  no-slots e = unpowered index stood t parent token (none-powered index e)

  module _ (y : Node) (e : y ≡ t.at parent) where
    pub indexed-none : y.child ≡ 0 → Last 0 ≡ search_indexed index stood t parent token
    unfolding search_indexed
    indexed-none z = simp (eq-eqb _ _ (sym (ap (λ (x : Node). x.child) e) ∙ z))

    indexed-some : (y.child ≡ 0 → ⊥) → power_of_two (length index) ≡ true
        → search_in_turn t.nodes t index stood parent token (slot_of (length index) parent token) y.child ≡ search_indexed index stood t parent token
    unfolding search_indexed
    indexed-some z p = let c : y.child ≡ (t.at parent).child = ap (λ (x : Node). x.child) e in
        simp (ne_eqb _ _ (λ (x : (t.at parent).child ≡ 0). z (c ∙ x)), p, c)

-- ---- in the cells of a space

-- the turns
pub record InTurn (cs : List ℕ) (nodes links : ℕ) (index : List ℕ) (stood parent token n slot : ℕ) (w : Search) : Type 0 where
  pub turns : Turns (trie_in sizes cs nodes links) index stood parent token n slot w

-- from the first child of `parent` on, whose record is y
pub in-turn : (cs : List ℕ) (nodes links parent token : ℕ) (index : List ℕ) (stood slot : ℕ) (y : Node) → y ≡ node_in sizes cs parent → (y.child ≡ 0 → ⊥) → power_of_two (length index) ≡ true
    → parent < nodes → sound (trie_in sizes cs nodes links) parent ≡ true → (slot ≡ slot_of (length index) parent token) × (slot < length index)
    → InTurn cs nodes links index stood parent token y.child slot (search_indexed index stood (trie_in sizes cs nodes links) parent token)
in-turn cs nodes links parent token index stood slot y e z p h s k =
    let t : Trie = trie_in sizes cs nodes links in
    let f = first-within t parent h s in
    let c : y.child ≡ (t.at parent).child = ap (λ (x : Node). x.child) e in
    let i : search_indexed index stood t parent token ≡ search_in_turn nodes t index stood parent token slot y.child = sym (indexed-some t index stood parent token y e z p) ∙ rw k.0 in
    rw i (record { turns = turns-begin t index stood parent token y.child slot (omega arith) k.1 })

-- with the entry x in the slot and what its record was found to be
module _ {cs : List ℕ} {nodes links : ℕ} {index : List ℕ} {stood parent token n slot : ℕ} {w : Search} (a : InTurn cs nodes links index stood parent token n slot w)
    (x : ℕ) (is : x ≡ entry_beside index stood slot n) where
  pub met-free : x ≡ 0 → search_siblings nodes (trie_in sizes cs nodes links) parent token n ≡ w
  met-free e = turns_alone a.turns (sym is ∙ e)

  module _ (some : x ≡ 0 → ⊥) (b : Bool) (told : b ≡ confirmed_in cs nodes parent token x) where
    taken : entry_beside index stood slot n ≡ 0 → ⊥
    taken e = some (is ∙ e)

    told_at : confirmed (trie_in sizes cs nodes links) parent token (entry_beside index stood slot n) ≡ b
    unfolding confirmed_in confirmed
    told_at = ap (λ (i : ℕ). confirmed (trie_in sizes cs nodes links) parent token i) (sym is) ∙ sym told

    pub met-within : b ≡ true → x < nodes
    met-within e = rw is (confirmed-is (trie_in sizes cs nodes links) parent token (entry_beside index stood slot n) (told_at ∙ e)).below

    pub met-confirmed : b ≡ true → judged_in cs nodes links x ≡ w
    unfolding judged_in
    met-confirmed e = rw is (turns-confirmed a.turns taken (told_at ∙ e))

    module _ (e : b ≡ false) where
      pub met-other : Here (trie_in sizes cs nodes links) parent token n (Rest a.turns) w
      met-other = turns-passed a.turns taken (told_at ∙ e)

      module _ (y : Node) (i : Some y ≡ read_node nodes links (node_in sizes cs) n) (p : y.parent ≡ parent) (q : y.token ≡ token → ⊥) (r : y.sibling ≡ 0 → ⊥) where
        pub met_next : (slot' : ℕ) → (slot' ≡ slot_after (length index) slot) × (slot' < length index) → (n < y.sibling) × InTurn cs nodes links index stood parent token y.sibling slot' w
        met_next slot' f = let k = turns_next a.turns taken (told_at ∙ e) y i p q r slot' f.0 f.1 in (k.0, record { turns = k.1 })

-- ---- the slots that are looked in

module _ (index : List ℕ) (k : ℕ) (used : k ≡ used_slots (length index)) where
  used-either : ((power_of_two (length index) ≡ true) × (take k index ≡ index)) ⊎ ((power_of_two (length index) ≡ false) × (take k index ≡ []))
  unfolding used_slots
  used-either = by_cases (power_of_two (length index))
      (λ p. let e : k ≡ length index = used ∙ rw p in inl (p, take_all k index (omega arith)))
      (λ p. let e : k ≡ 0 = used ∙ rw p in inr (p, ap (λ (i : ℕ). take i index) e))

  pub used-slotted : Slotted (take k index)
  used-slotted = go used-either
    where
      go : ((power_of_two (length index) ≡ true) × (take k index ≡ index)) ⊎ ((power_of_two (length index) ≡ false) × (take k index ≡ [])) → Slotted (take k index)
      go (inl a) z = rw a.1 a.0
      go (inr a) z = absurd (z (ap length a.1))

  used-descends : (stood : ℕ) (t : Trie) (n : ℕ) (xs : List ℕ) → walk_from_by (search_indexed (take k index) stood) t n xs ≡ walk_from_by (search_indexed index stood) t n xs
  used-descends stood t n xs = go used-either
    where
      go : ((power_of_two (length index) ≡ true) × (take k index ≡ index)) ⊎ ((power_of_two (length index) ≡ false) × (take k index ≡ []))
          → walk_from_by (search_indexed (take k index) stood) t n xs ≡ walk_from_by (search_indexed index stood) t n xs
      go (inl a) = ap (λ (i : List ℕ). walk_from_by (search_indexed i stood) t n xs) a.1
      go (inr a) = ap (λ (i : List ℕ). walk_from_by (search_indexed i stood) t n xs) a.1 ∙ walk-unpowered [] index stood t n xs (none-powered [] refl) a.0

  pub used-walks : (stood : ℕ) (t : Trie) (root : ℕ) (xs : List ℕ) → shown (walk_by (search_indexed (take k index) stood) t root xs) ≡ shown (walk_by (search_indexed index stood) t root xs)
  unfolding walk_by
  used-walks stood t root xs = rw (used-descends stood t root xs) refl

  pub used-length : k ≤ length index → k ≡ length (take k index)
  used-length h = let l = length-take k index in omega arith
