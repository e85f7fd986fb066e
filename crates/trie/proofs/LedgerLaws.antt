-- A ledger that is true of a space stays so: entering a node keeps it true, and so does everything that a space may become.
-- Where it is true, a search by it ends as by the sibling chain; whatever it holds, a search by it keeps what walks ask of one.
use Rattle.std.proofs.Common.{◌≡◌, ℕ, zero, suc, ◌+◌, ◌-◌, ◌*◌, ◌/◌, ◌%◌, ◌^◌, ◌<◌, ◌≤◌, min, true, eqb, ltb, leb, List, [], ◌∷◌, length, get_or, set, sym, refl, ap, ◌∙◌, subst, mod-lt, mul_comm, div-lt_iff_lt-mul, mul-lt-mul_of_pos_right, div-mul-le_self, arith, length-set, get_or-set_other, get_or-set_same, ltb-false, ltb-true, le-ltb, lt-ltb, eq-eqb, eqb-true, le-leb, leb-false, leb-true}
use native.Mathlib.Nat.{min-le_left, min-le_right, min-eq_left}
use borrow.Author.Tests.{eqb-false}
use Rattle.basis.proofs.Cases.{by_cases}
use Rattle.space.specs.declared.Node.{Node}
use Rattle.trie.specs.Siblings.{Trie, sound, at_sibling, search_siblings, search_children}
use Rattle.trie.specs.declared.Search.{Search}
use Rattle.trie.specs.declared.Search.TheVariants.{Found, Last, Damaged}
use Rattle.trie.specs.Walks.{onward, root_sound, walk_from_by, walk_by}
use Rattle.trie.specs.Index.{slot_after, probe, insert_from, empty_index}
use Rattle.trie.specs.Ledger.{Ledger, stamp, last_in, blank_ledger, mixed_slot, ledger_capacity, enter_node, enter_nodes, caught_up, usable, Reach, zeros, last_below, Entered, Complete, Grown, is_last, absent, found_in, search_in, search_kept, trusted_in, trusted_kept}
use Rattle.trie.proofs.SearchCases.{search-next, children-none, children-some}
use Rattle.trie.proofs.SearchLaws.{Step, hurt, same, ended, onto, Child, step-found, first-within, children-found, Ends, children-ended, Finds}
use Rattle.trie.proofs.WalkLaws.{both_true}
use Rattle.trie.proofs.IndexLaws.{Confirmed, confirmed-is, probe_found, sibling-step, at-alike, Ending, Chained, AsChains}
use Rattle.trie.proofs.BuildLaws.{reach-probe, Inserted, inserted, reach-kept, taken-kept, zeros-set, zeros-some, zeros-free, ahead_of, length-free}

-- ---- slots

pub mixed-inside : (size p y : ℕ) → 0 < size → mixed_slot size p y < size
unfolding mixed_slot
mixed-inside size p y h =
    let x : ℕ = (p * 1780508695 + y * 97174869) % (2 ^ 32) in
    let l : x < 2 ^ 32 = mod-lt (p * 1780508695 + y * 97174869) (omega arith) in
    (div-lt_iff_lt-mul {k = 2 ^ 32} {x = x * size} {y = size} (omega arith)).1 (subst (λ (z : ℕ). x * size < z) (mul_comm (2 ^ 32) size) (mul-lt-mul_of_pos_right l h))

insert-long : (steps : ℕ) (index : List ℕ) (slot x : ℕ) → length (insert_from steps index slot x) ≡ length index
unfolding insert_from
insert-long zero index slot x = refl
insert-long (suc steps) index slot x = by_cases (eqb (get_or index slot 0) 0)
    (λ e. rw e (length-set index slot x))
    (λ e. rw e (insert-long steps index (slot_after (length index) slot) x))

-- ---- a blank one is true of every space

blank-cell : (n i : ℕ) → get_or (empty_index n) i 0 ≡ 0
unfolding empty_index
blank-cell zero i = refl
blank-cell (suc n) zero = refl
blank-cell (suc n) (suc i) = blank-cell n i

pub blank-complete : (at : ℕ → Node) (nodes m n : ℕ) → Complete at nodes (blank_ledger m n)
unfolding last_below
blank-complete at nodes m n =
    let z : stamp (blank_ledger m n) ≡ 0 = blank-cell m 0 in
    record {
      within = omega arith;
      entered = rw z (record {
        reached = λ x h up. absurd (omega arith);
        noted = λ p. blank-cell m (suc p);
        room = rw (zeros-free n, length-free n) (omega arith);
      });
    }

-- ---- one node more

long-lasts : (at : ℕ → Node) (k : Ledger) (n : ℕ) → length (enter_node at k n).lasts ≡ length k.lasts
unfolding enter_node
long-lasts at k n = by_cases (ltb (at n).parent n)
    (λ e. rw e (length-set (set k.lasts (suc (at n).parent) n) 0 (suc n) ∙ length-set k.lasts (suc (at n).parent) n))
    (λ e. rw e (length-set k.lasts 0 (suc n)))

long-slots : (at : ℕ → Node) (k : Ledger) (n : ℕ) → length (enter_node at k n).slots ≡ length k.slots
unfolding enter_node
long-slots at k n = by_cases (ltb (at n).parent n)
    (λ e. rw e (insert-long (length k.slots) k.slots (mixed_slot (length k.slots) (at n).parent (at n).token) n))
    (λ e. rw e)

stamp-one : (at : ℕ → Node) (k : Ledger) (n : ℕ) → 0 < length k.lasts → stamp (enter_node at k n) ≡ suc n
unfolding enter_node
stamp-one at k n h = by_cases (ltb (at n).parent n)
    (λ e. rw e (get_or-set_same (set k.lasts (suc (at n).parent) n) 0 (suc n) 0 (rw (length-set k.lasts (suc (at n).parent) n) h)))
    (λ e. rw e (get_or-set_same k.lasts 0 (suc n) 0 h))

below-now : (x n : ℕ) → x < suc n → (x ≡ n → ⊥) → x < n
below-now x n h e = omega arith

-- in range, whatever is in the cells
module _ (at : ℕ → Node) (n : ℕ) (k : Ledger) (e : Entered at n k) (hs : n < length k.slots) (hl : n < length k.lasts) where
  abbrev p : ℕ
  p = (at n).parent

  abbrev size : ℕ
  size = length k.slots

  abbrev slot : ℕ
  slot = mixed_slot size p (at n).token

  abbrev new : List ℕ
  new = insert_from size k.slots slot n

  placed : Inserted k.slots new n size slot
  placed =
      let f = zeros-some k.slots (omega (arith, e.room)) in
      let s = mixed-inside size p (at n).token (omega arith) in
      let d = ahead_of k.slots n slot f.0 s f.1 in
      inserted k.slots n size slot f.0 d.0 s f.1 f.2 d.1 d.2

  same-long : length new ≡ size
  same-long = insert-long size k.slots slot n

  stays : (i : ℕ) → (get_or k.slots i 0 ≡ 0 → ⊥) → get_or new i 0 ≡ get_or k.slots i 0
  stays i h = ap (λ (m : List ℕ). get_or m i 0) placed.is ∙ taken-kept k.slots n placed.at placed.free i h

  -- node n is a child
  module _ (up : p < n) where
    child-reached : (x : ℕ) → x < suc n → (at x).parent < x → Reach new x (length new) (mixed_slot (length new) (at x).parent (at x).token)
    child-reached x h u = rw same-long (by_cases (eqb x n)
        (λ z. rw (eqb-true x n z) placed.reach)
        (λ z. reach-kept k.slots new x same-long stays (λ q. omega arith) (e.reached x (below-now x n h (eqb-false x n z)) u)))

    child-noted : (i : ℕ) → get_or (set (set k.lasts (suc p) n) 0 (suc n)) (suc i) 0 ≡ last_below at (suc n) i
    unfolding last_below
    child-noted i =
        get_or-set_other (set k.lasts (suc p) n) 0 (suc i) (suc n) 0 (λ z. omega arith)
        ∙ by_cases (eqb p i)
        (λ z. let q : p ≡ i = eqb-true p i z in
        rw (lt-ltb p n up, z) (ap (λ (j : ℕ). get_or (set k.lasts (suc p) n) (suc j) 0) (sym q) ∙ get_or-set_same k.lasts (suc p) n 0 (omega arith)))
        (λ z. let q : p ≡ i → ⊥ = eqb-false p i z in
        rw (lt-ltb p n up, z) (get_or-set_other k.lasts (suc p) (suc i) n 0 (apart q) ∙ e.noted i))
      where
        apart : (p ≡ i → ⊥) → suc i ≡ suc p → ⊥
        apart q w = q (omega arith)

    child-entered : Entered at (suc n) (record { lasts = set (set k.lasts (suc p) n) 0 (suc n); slots = new })
    child-entered =
        let less : zeros k.slots ≡ suc (zeros new) = zeros-set k.slots placed.at n placed.inside placed.free (λ q. omega arith) ∙ ap (λ (m : List ℕ). suc (zeros m)) (sym placed.is) in
        record { reached = child-reached; noted = child-noted; room = rw same-long (omega (arith, e.room)) }

  -- or a root
  root-entered : n ≤ p → Entered at (suc n) (record { lasts = set k.lasts 0 (suc n); slots = k.slots })
  unfolding last_below
  root-entered r = record {
    reached = λ x h u. e.reached x (below-now x n h (λ z. over x u z)) u;
    noted = λ i. get_or-set_other k.lasts 0 (suc i) (suc n) 0 (λ z. omega arith) ∙ e.noted i ∙ rw (le-ltb p n r);
    room = omega (arith, e.room);
  }
    where
      over : (x : ℕ) → (at x).parent < x → x ≡ n → ⊥
      over x u z = let v : (at x).parent ≡ (at n).parent = ap (λ (j : ℕ). (at j).parent) z in omega arith

  pub node-entered : Entered at (suc n) (enter_node at k n)
  unfolding enter_node
  node-entered = by_cases (ltb p n)
      (λ z. rw z (child-entered (ltb-true p n z)))
      (λ z. rw z (root-entered (ltb-false p n z)))

-- ---- some nodes more

module _ (at : ℕ → Node) (k : Ledger) (from : ℕ) where
  pub nodes-long : (j : ℕ) → (length (enter_nodes at k from j).lasts ≡ length k.lasts) × (length (enter_nodes at k from j).slots ≡ length k.slots)
  unfolding enter_nodes
  nodes-long zero = (refl, refl)
  nodes-long (suc j) = (long-lasts at (enter_nodes at k from j) (from + j) ∙ (nodes-long j).0, long-slots at (enter_nodes at k from j) (from + j) ∙ (nodes-long j).1)

  pub nodes-stamp : (j : ℕ) → stamp k ≡ from → (0 < j → 0 < length k.lasts) → stamp (enter_nodes at k from j) ≡ from + j
  unfolding enter_nodes
  nodes-stamp zero e h = e ∙ omega arith
  nodes-stamp (suc j) e h = stamp-one at (enter_nodes at k from j) (from + j) (rw (nodes-long j).0 (h (omega arith))) ∙ omega arith

  pub nodes-entered : (j : ℕ) → Entered at from k → from + j ≤ length k.slots → from + j ≤ length k.lasts → Entered at (from + j) (enter_nodes at k from j)
  unfolding enter_nodes
  nodes-entered zero e hs hl = subst (λ (i : ℕ). Entered at i k) (omega arith) e
  nodes-entered (suc j) e hs hl =
      let l = nodes-long j in
      let one = node-entered at (from + j) (enter_nodes at k from j) (nodes-entered j e (omega arith) (omega arith)) (rw l.1 (omega arith)) (rw l.0 (omega arith)) in
      subst (λ (i : ℕ). Entered at i (enter_node at (enter_nodes at k from j) (from + j))) (omega arith) one

  -- in two parts
  pub nodes-parted : (i j : ℕ) → enter_nodes at k from (i + j) ≡ enter_nodes at (enter_nodes at k from i) (from + i) j
  unfolding enter_nodes
  nodes-parted i zero = let z : i + 0 ≡ i = omega arith in ap (enter_nodes at k from) z
  nodes-parted i (suc j) =
      let z : i + suc j ≡ suc (i + j) = omega arith in
      let y : from + (i + j) ≡ from + i + j = omega arith in
      ap (enter_nodes at k from) z
      ∙ ap (λ (m : Ledger). enter_node at m (from + (i + j))) (nodes-parted i j)
      ∙ ap (enter_node at (enter_nodes at (enter_nodes at k from i) (from + i) j)) y

-- ---- in a space that went on

module _ (at : ℕ → Node) (nodes : ℕ) (after : ℕ → Node) (more : ℕ) (g : Grown at nodes after more) where
  last-kept : (n p : ℕ) → n ≤ nodes → last_below after n p ≡ last_below at n p
  unfolding last_below
  last-kept zero p h = refl
  last-kept (suc n) p h = rw (g.parent-kept n (omega arith), last-kept n p (omega arith))

  entered_on : (k : Ledger) (n : ℕ) → n ≤ nodes → Entered at n k → Entered after n k
  entered_on k n h e = record {
    reached = λ x l u. rw (g.parent-kept x (omega arith), g.token-kept x (omega arith)) (e.reached x l (subst (λ (i : ℕ). i < x) (g.parent-kept x (omega arith)) u));
    noted = λ p. e.noted p ∙ sym (last-kept n p h);
    room = e.room;
  }

  -- what was true of it stays true
  pub complete-on : (k : Ledger) → Complete at nodes k → Complete after more k
  complete-on k c = let w = c.within in let h = g.no-fewer in record { within = omega arith; entered = entered_on k (stamp k) c.within c.entered }

  one_alike : (k : Ledger) (n : ℕ) → n < nodes → enter_node after k n ≡ enter_node at k n
  unfolding enter_node
  one_alike k n h = rw (g.parent-kept n h, g.token-kept n h)

  all_alike : (k : Ledger) (from j : ℕ) → from + j ≤ nodes → enter_nodes after k from j ≡ enter_nodes at k from j
  unfolding enter_nodes
  all_alike k from zero h = refl
  all_alike k from (suc j) h = ap (λ (m : Ledger). enter_node after m (from + j)) (all_alike k from j (omega arith)) ∙ one_alike (enter_nodes at k from j) (from + j) (omega arith)

-- ---- catching up

pub capacity-slots : (k : Ledger) → 2 * ledger_capacity k ≤ length k.slots
unfolding ledger_capacity
capacity-slots k = by_cases (leb (length k.slots) (2 ^ 32))
    (λ e. rw e (let a = min-le_right (length k.lasts - 1) (length k.slots / 2) in let b = div-mul-le_self (length k.slots) 2 in omega arith))
    (λ e. rw e (omega arith))

pub capacity-lasts : (k : Ledger) → ledger_capacity k ≤ length k.lasts - 1
unfolding ledger_capacity
capacity-lasts k = by_cases (leb (length k.slots) (2 ^ 32))
    (λ e. rw e (min-le_left (length k.lasts - 1) (length k.slots / 2)))
    (λ e. rw e (omega arith))

pub capacity-most : (k : Ledger) → 0 < ledger_capacity k → length k.slots ≤ 2 ^ 32
unfolding ledger_capacity
capacity-most k h = by_cases (leb (length k.slots) (2 ^ 32))
    (λ e. leb-true _ _ e)
    (λ e. let z : 0 < 0 = rw e at h in absurd (omega arith))

capacity-same : (k m : Ledger) → length m.lasts ≡ length k.lasts → length m.slots ≡ length k.slots → ledger_capacity m ≡ ledger_capacity k
unfolding ledger_capacity
capacity-same k m e f = rw (e, f)

module _ (at : ℕ → Node) (nodes : ℕ) (k : Ledger) where
  abbrev limit : ℕ
  limit = min nodes (ledger_capacity k)

  abbrev caught : Ledger
  caught = caught_up at nodes k

  caught-none : limit < stamp k → caught_up at nodes k ≡ k
  unfolding caught_up enter_nodes
  caught-none h = let z : limit - stamp k ≡ 0 = omega arith in rw z

  pub caught-capacity : ledger_capacity (caught_up at nodes k) ≡ ledger_capacity k
  unfolding caught_up
  caught-capacity = let l = nodes-long at k (stamp k) (limit - stamp k) in capacity-same k (enter_nodes at k (stamp k) (limit - stamp k)) l.0 l.1

  pub caught-stamp : stamp k ≤ limit → stamp (caught_up at nodes k) ≡ limit
  unfolding caught_up
  caught-stamp h =
      let a = capacity-lasts k in
      let b = min-le_right nodes (ledger_capacity k) in
      nodes-stamp at k (stamp k) (limit - stamp k) refl (λ j. omega arith) ∙ omega arith

  pub caught-complete : Complete at nodes k → Complete at nodes (caught_up at nodes k)
  caught-complete c = by_cases (leb (stamp k) limit)
      (λ e. let h : stamp k ≤ limit = leb-true _ _ e in
      let s = caught-stamp h in
      let a = capacity-lasts k in
      let b = min-le_right nodes (ledger_capacity k) in
      let d = capacity-slots k in
      let f = min-le_left nodes (ledger_capacity k) in
      record {
        within = rw s f;
        entered = rw s (unfold caught_up in subst (λ (i : ℕ). Entered at i (enter_nodes at k (stamp k) (limit - stamp k))) (omega arith)
            (nodes-entered at k (stamp k) (limit - stamp k) c.entered (omega arith) (omega arith)));
      })
      (λ e. rw (caught-none (leb-false _ _ e)) c)

  -- with room for every node, all are entered
  pub caught-usable : Complete at nodes k → nodes ≤ ledger_capacity k → usable nodes (caught_up at nodes k) ≡ true
  unfolding usable
  caught-usable c h =
      let m : limit ≡ nodes = min-eq_left h in
      let w = c.within in
      let s : stamp (caught_up at nodes k) ≡ nodes = caught-stamp (omega arith) ∙ m in
      rw (caught-capacity, le-leb _ _ h, s, eq-eqb nodes nodes refl)

-- catching up twice is catching up once
pub caught-again : (at : ℕ → Node) (nodes : ℕ) (after : ℕ → Node) (more : ℕ) → Grown at nodes after more → (k : Ledger)
    → caught_up after more (caught_up at nodes k) ≡ caught_up after more k
unfolding caught_up
caught-again at nodes after more g k = by_cases (leb (stamp k) (limit at nodes k))
    (λ e. let h : stamp k ≤ limit at nodes k = leb-true _ _ e in
    let s = caught-stamp at nodes k h in
    let w = caught-capacity at nodes k in
    let a = min-le_left nodes (ledger_capacity k) in
    let f : limit at nodes k ≤ min more (ledger_capacity k) = rising (ledger_capacity k) g.no-fewer in
    let parts : limit at nodes k - stamp k + (min more (ledger_capacity k) - limit at nodes k) ≡ min more (ledger_capacity k) - stamp k = omega arith in
    let whole : stamp k + (limit at nodes k - stamp k) ≡ limit at nodes k = omega arith in
    ap (λ (i : ℕ). enter_nodes after (caught_up at nodes k) (stamp (caught_up at nodes k)) (min more i - stamp (caught_up at nodes k))) w
    ∙ ap (λ (i : ℕ). enter_nodes after (caught_up at nodes k) i (min more (ledger_capacity k) - i)) s
    ∙ ap (λ (m : Ledger). enter_nodes after m (limit at nodes k) (min more (ledger_capacity k) - limit at nodes k)) (sym (all_alike at nodes after more g k (stamp k) (limit at nodes k - stamp k) (omega arith)))
    ∙ ap (λ (i : ℕ). enter_nodes after (enter_nodes after k (stamp k) (limit at nodes k - stamp k)) i (min more (ledger_capacity k) - limit at nodes k)) (sym whole)
    ∙ sym (nodes-parted after k (stamp k) (limit at nodes k - stamp k) (min more (ledger_capacity k) - limit at nodes k))
    ∙ ap (enter_nodes after k (stamp k)) parts)
    (λ e. ap (caught_up after more) (caught-none at nodes k (leb-false _ _ e)))
  where
    rising : (c : ℕ) → nodes ≤ more → min nodes c ≤ min more c
    rising c h = omega arith

-- ---- a search

siblings-at : (n : ℕ) (t : Trie) (parent token x : ℕ) → search_siblings (suc n) t parent token x ≡ at_sibling t parent token x (search_siblings n t parent token (t.at x).sibling)
unfolding search_siblings
siblings-at n t parent token x = refl

-- the last child, by its own record
last-is : (t : Trie) (parent l : ℕ) → is_last t parent l ≡ true → Ending t parent l
unfolding is_last
last-is t parent l e =
    let a = both_true _ _ e in
    let b = both_true _ _ a.0 in
    let c = both_true _ _ b.0 in
    let d = both_true _ _ c.0 in
    record { above = ltb-true _ _ d.0; below = ltb-true _ _ d.1; parent_is = eqb-true _ _ b.1; none = eqb-true _ _ a.1 }

pub usable-parts : (nodes : ℕ) (k : Ledger) → usable nodes k ≡ true → (nodes ≤ ledger_capacity k) × (stamp k ≡ nodes)
unfolding usable
usable-parts nodes k e = let a = both_true _ _ e in (leb-true _ _ a.0, eqb-true _ _ a.1)

-- in one that is true and has every node, half of the slots and more are free: a probe ends
pub ledger-free : (at : ℕ → Node) (nodes : ℕ) (k : Ledger) → Complete at nodes k → usable nodes k ≡ true → length k.slots ≤ 2 * zeros k.slots
ledger-free at nodes k c u =
    let a = usable-parts nodes k u in
    let b = capacity-slots k in
    let d = c.entered.room in
    omega (arith, a.0, a.1)

module _ (k : Ledger) (t : Trie) (parent token : ℕ) where
  abbrev looked : ℕ
  looked = probe (length k.slots) t k.slots parent token (mixed_slot (length k.slots) parent token)

  -- ---- where it is true

  module _ (c : Complete t.at t.nodes k) (u : usable t.nodes k ≡ true) (f : Chained t parent token) where
    looked-at : (x : ℕ) → Confirmed t parent token x → looked ≡ x
    looked-at x q =
        let s = (usable-parts t.nodes k u).1 in
        let up : (t.at x).parent < x = rw q.parent_is q.above in
        let h : x < stamp k = rw s q.below in
        let way : Reach k.slots x (length k.slots) (mixed_slot (length k.slots) parent token) = rw (q.parent_is, q.token-is) at (c.entered.reached x h up) in
        reach-probe t k.slots parent token x q (λ a r. one a x (sym (f.met a r).1 ∙ (f.met x q).1)) way
      where
        one : (a b : ℕ) → Found a ≡ Found b → a ≡ b
        one a b e = cc

    absent-same : looked ≡ 0 → absent k t parent token ≡ search_children t parent token
    unfolding absent
    absent-same z = by_cases (is_last t parent (last_in k parent))
        (λ e. rw e (sym (f.lacks (λ x q. nothing x q) (last_in k parent) (last-is t parent (last_in k parent) e))))
        (λ e. rw e)
      where
        nothing : (x : ℕ) → Confirmed t parent token x → ⊥
        nothing x q = let y : x ≡ 0 = sym (looked-at x q) ∙ z in omega (arith, q.above)

    found-same : found_in k t parent token ≡ search_children t parent token
    unfolding found_in
    found-same = by_cases (eqb looked 0)
        (λ e. rw e (absent-same (eqb-true _ _ e)))
        (λ e. let m = f.met looked (confirmed-is t parent token looked (probe_found t k.slots parent token (length k.slots) (mixed_slot (length k.slots) parent token) (eqb-false _ _ e))) in
        rw (e, m.0) (sym m.1))

  -- after the first child
  pub search-true : parent < t.nodes → Complete t.at t.nodes k → Chained t parent token → search_in k t parent token ≡ search_children t parent token
  unfolding search_in
  search-true h c f = by_cases (eqb (t.at parent).child 0)
      (λ z. rw z (children-none t parent token (t.at parent) refl (eqb-true _ _ z)))
      (λ z. by_cases (usable t.nodes k)
      (λ u. let all = children-some t parent token (t.at parent) refl (eqb-false _ _ z) in
      rw (z, u) (behind t.nodes h all (found-same c u f ∙ sym all) ∙ all))
      (λ u. rw (z, u)))
    where
      behind : (n : ℕ) → parent < n → search_siblings n t parent token (t.at parent).child ≡ search_children t parent token
          → found_in k t parent token ≡ search_siblings n t parent token (t.at parent).child
          → at_sibling t parent token (t.at parent).child (found_in k t parent token) ≡ search_siblings n t parent token (t.at parent).child
      behind zero l all alike = absurd (omega arith)
      behind (suc n) l all alike =
          at-alike t parent token (t.at parent).child _ _ (λ s p q r. alike ∙ search-next n t parent token (t.at parent).child s p q r)
          ∙ sym (siblings-at n t parent token (t.at parent).child)

  -- what it notes needs no confirming
  noted-true : Complete t.at t.nodes k → usable t.nodes k ≡ true → Chained t parent token → ((t.at parent).child ≡ 0 → ⊥) → is_last t parent (last_in k parent) ≡ true
  noted-true c u f z =
      let s = (usable-parts t.nodes k u).1 in
      ap (is_last t parent) (c.entered.noted parent ∙ ap (λ (i : ℕ). last_below t.at i parent) s) ∙ f.latest z

  trusted-same : Complete t.at t.nodes k → Chained t parent token → trusted_in k t parent token ≡ search_in k t parent token
  unfolding trusted_in search_in found_in absent
  trusted-same c f = by_cases (eqb (t.at parent).child 0)
      (λ z. rw z)
      (λ z. by_cases (usable t.nodes k)
      (λ u. rw (z, u, noted-true c u f (eqb-false _ _ z)))
      (λ u. rw (z, u)))

  -- ---- whatever it holds

  module _ (h : parent < t.nodes) (s : sound t parent ≡ true) where
    found-child : (c : ℕ) → found_in k t parent token ≡ Found c → Child t parent token c
    unfolding found_in absent
    found-child c e = by_cases (eqb looked 0)
        (λ z. by_cases (is_last t parent (last_in k parent))
        (λ l. let g : Last (last_in k parent) ≡ Found c = rw (z, l) at e in let x : ◌≡◌ {A = ℕ} 0 1 = cc in absurd (omega arith))
        (λ l. children-found t parent token c h s (rw (z, l) at e)))
        (λ z. by_cases (sound t looked)
        (λ l. let g : Found looked ≡ Found c = rw (z, l) at e in
        let y : looked ≡ c = cc in
        let q = confirmed-is t parent token looked (probe_found t k.slots parent token (length k.slots) (mixed_slot (length k.slots) parent token) (eqb-false _ _ z)) in
        rw (← y) (record { within = q.below; judged = l; parent_is = q.parent_is; token-is = q.token-is }))
        (λ l. let g : Damaged ≡ Found c = rw (z, l) at e in let x : ◌≡◌ {A = ℕ} 0 1 = cc in absurd (omega arith)))

    found-ended : (last : ℕ) → found_in k t parent token ≡ Last last → Ends t parent last
    unfolding found_in absent
    found-ended last e = by_cases (eqb looked 0)
        (λ z. by_cases (is_last t parent (last_in k parent))
        (λ l. let g : Last (last_in k parent) ≡ Last last = rw (z, l) at e in
        let y : last_in k parent ≡ last = cc in
        let q = last-is t parent (last_in k parent) l in
        rw (← y) (record { parent-within = h; last_within = q.below; no-child = λ i. absurd (omega (arith, q.above)); no-sibling = λ _. q.none }))
        (λ l. children-ended t parent token last h s (rw (z, l) at e)))
        (λ z. by_cases (sound t looked)
        (λ l. let g : Found looked ≡ Last last = rw (z, l) at e in let x : ◌≡◌ {A = ℕ} 0 1 = cc in absurd (omega arith))
        (λ l. let g : Damaged ≡ Last last = rw (z, l) at e in let x : ◌≡◌ {A = ℕ} 0 1 = cc in absurd (omega arith)))

    first_found : {r : Search} → Step t parent token (t.at parent).child (found_in k t parent token) r → (c : ℕ) → r ≡ Found c → Child t parent token c
    first_found w c e = step-found w (first-within t parent h s) e (λ i f. found-child c f)

    first_ended : ((t.at parent).child ≡ 0 → ⊥) → {r : Search} → Step t parent token (t.at parent).child (found_in k t parent token) r → (last : ℕ) → r ≡ Last last → Ends t parent last
    first_ended z hurt last e = let x : ◌≡◌ {A = ℕ} 0 1 = cc in absurd (omega arith)
    first_ended z (same i p q) last e = let x : ◌≡◌ {A = ℕ} 0 1 = cc in absurd (omega arith)
    first_ended z (ended i p q r) last e =
        let f : (t.at parent).child ≡ last = cc in
        rw (← f) (record { parent-within = h; last_within = first-within t parent h s; no-child = λ l. absurd (z l); no-sibling = λ _. r })
    first_ended z (onto i p q r) last e = found-ended last e

    in-found : (c : ℕ) → search_in k t parent token ≡ Found c → Child t parent token c
    unfolding search_in
    in-found c e = by_cases (eqb (t.at parent).child 0)
        (λ z. let f : Last 0 ≡ Found c = rw z at e in let x : ◌≡◌ {A = ℕ} 0 1 = cc in absurd (omega arith))
        (λ z. by_cases (usable t.nodes k)
        (λ u. first_found (sibling-step t parent token (t.at parent).child (found_in k t parent token)) c (rw (z, u) at e))
        (λ u. children-found t parent token c h s (rw (z, u) at e)))

    in-ended : (last : ℕ) → search_in k t parent token ≡ Last last → Ends t parent last
    unfolding search_in
    in-ended last e = by_cases (eqb (t.at parent).child 0)
        (λ z. let f : Last 0 ≡ Last last = rw z at e in
        let l : last ≡ 0 = cc in
        record { parent-within = h; last_within = omega arith; no-child = λ _. eqb-true _ _ z; no-sibling = λ n. absurd (n l) })
        (λ z. by_cases (usable t.nodes k)
        (λ u. first_ended (eqb-false _ _ z) (sibling-step t parent token (t.at parent).child (found_in k t parent token)) last (rw (z, u) at e))
        (λ u. children-ended t parent token last h s (rw (z, u) at e)))

-- the laws of the walk hold with any ledger, on any cells
pub ledgers-find : (k : Ledger) → Finds (search_in k)
ledgers-find k = record {
  found = λ t parent token c h s e. in-found k t parent token h s c e;
  ended = λ t parent token last h s e. in-ended k t parent token h s last e;
}

pub kept-find : (k : Ledger) → Finds (search_kept k)
kept-find k = record {
  found = λ t parent token c h s e. in-found (caught_up t.at t.nodes k) t parent token h s c e;
  ended = λ t parent token last h s e. in-ended (caught_up t.at t.nodes k) t parent token h s last e;
}

-- as by the chains, where it is true
pub kept-as-chains : (at : ℕ → Node) (nodes : ℕ) (k : Ledger) → Complete at nodes k → AsChains at nodes (search_kept k)
kept-as-chains at nodes k c t parent token g h f =
    search-true (caught_up t.at t.nodes k) t parent token h (caught-complete t.at t.nodes k (complete-on at nodes t.at t.nodes g k c)) f

pub trusted-as-chains : (at : ℕ → Node) (nodes : ℕ) (k : Ledger) → Complete at nodes k → AsChains at nodes (trusted_kept k)
trusted-as-chains at nodes k c t parent token g h f =
    trusted-same (caught_up t.at t.nodes k) t parent token (caught-complete t.at t.nodes k (complete-on at nodes t.at t.nodes g k c)) f
    ∙ kept-as-chains at nodes k c t parent token g h f

-- a walk by a ledger that is caught up once is the walk by one that is caught up at each search
module _ (k : Ledger) (t : Trie) where
  from-caught : (n : ℕ) (xs : List ℕ) → walk_from_by (search_in (caught_up t.at t.nodes k)) t n xs ≡ walk_from_by (search_kept k) t n xs
  unfolding walk_from_by
  from-caught n [] = refl
  from-caught n (x ∷ xs) = go (search_in (caught_up t.at t.nodes k) t n x) (λ c. from-caught c xs)
    where
      go : (r : Search) → ((c : ℕ) → walk_from_by (search_in (caught_up t.at t.nodes k)) t c xs ≡ walk_from_by (search_kept k) t c xs)
          → onward r n (x ∷ xs) (λ child. walk_from_by (search_in (caught_up t.at t.nodes k)) t child xs) ≡ onward r n (x ∷ xs) (λ child. walk_from_by (search_kept k) t child xs)
      go (Found c) f = f c
      go (Last l) f = refl
      go Damaged f = refl

  pub walk-caught : (root : ℕ) (xs : List ℕ) → walk_by (search_in (caught_up t.at t.nodes k)) t root xs ≡ walk_by (search_kept k) t root xs
  unfolding walk_by
  walk-caught root xs = by_cases (root_sound t root) (λ e. rw e (from-caught root xs)) (λ e. rw e)
