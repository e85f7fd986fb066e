-- A law for each case of the search by a ledger, over the cells and records that were read.
use Rattle.std.specs.Prelude.{None, Some}
use Prim.Native.Nat.{ℕ, suc, ◌+◌, ◌-◌, ◌^◌, ◌<◌, ◌≤◌}
use mathlib.Core.Path.{◌≡◌, refl, sym, ap, ◌∙◌}
use mathlib.Core.Bool.{Bool, true, false}
use mathlib.Core.List.{List, []}
use mathlib.Core.Logic.{◌⊎◌, inl, inr}
use native.Mathlib.Omega.{arith}
use lib.Dec.{eqb}
use lib.ListN.{length, get_or, take, length-take}
use lib.Seq.{take_all}
use borrow.Author.Tests.{eq-eqb, ne_eqb, lt-ltb}
use Rattle.basis.specs.Choice.{pick}
use Rattle.basis.proofs.Cases.{by_cases}
use Rattle.space.specs.Layout.{sizes, node_in}
use Rattle.space.specs.Judging.{read_node}
use Rattle.space.specs.declared.Node.{Node}
use Rattle.space.proofs.JudgingLaws.{read-node-sound, read-node-damaged}
use Rattle.trie.specs.Siblings.{Trie, trie_in, at_sibling, search_children}
use Rattle.trie.specs.Walks.{walk_from_by, walk_from, walk_by, shown}
use Rattle.trie.specs.Index.{slot_after, confirmed, confirmed_in, judged_in, probe}
use Rattle.trie.specs.Ledger.{Ledger, mixed_slot, usable, is_last, absent, found_in, search_in}
use Rattle.trie.specs.declared.Search.{Search}
use Rattle.trie.specs.declared.Search.TheVariants.{Last}
use Rattle.trie.proofs.SearchCases.{Here}
use Rattle.trie.proofs.IndexLaws.{probe_found, confirmed-is, from-alike}
use Rattle.trie.proofs.LedgerLaws.{capacity-slots, capacity-lasts, capacity-most, usable-parts}
use Rattle.keeping.specs.Clauses.{ledger_in, LooksUp, Usable, UsesSlots}

-- ---- the slots

-- nothing was met yet; so many slots were looked at, and the next is `slot`
pub record Looking (space : List ℕ) (nodes parent token : ℕ) (slots : List ℕ) (slot looked : ℕ) : Type 0 where
  pub inside : slot < length slots
  pub rest : (links : ℕ) → probe (length slots) (trie_in sizes space nodes links) slots parent token (mixed_slot (length slots) parent token)
      ≡ probe (length slots - looked) (trie_in sizes space nodes links) slots parent token slot

module _ (space : List ℕ) (nodes parent token : ℕ) (slots : List ℕ) where
  step_is : (links k slot : ℕ) → probe (suc k) (trie_in sizes space nodes links) slots parent token slot
      ≡ pick (eqb (get_or slots slot 0) 0) 0 (pick (confirmed_in space nodes parent token (get_or slots slot 0)) (get_or slots slot 0) (probe k (trie_in sizes space nodes links) slots parent token (slot_after (length slots) slot)))
  unfolding probe confirmed_in confirmed
  step_is links k slot = refl

  end_is : (links slot : ℕ) → probe 0 (trie_in sizes space nodes links) slots parent token slot ≡ 0
  unfolding probe
  end_is links slot = refl

  pub looking-begin : (slot : ℕ) → (slot ≡ mixed_slot (length slots) parent token) × (slot < length slots) → Looking space nodes parent token slots slot 0
  looking-begin slot e = record {
    inside = e.1;
    rest = λ links. rw e.0 (ap (λ (k : ℕ). probe k (trie_in sizes space nodes links) slots parent token (mixed_slot (length slots) parent token)) none_looked);
  }
    where
      none_looked : length slots ≡ length slots - 0
      none_looked = omega arith

  module _ {slot looked : ℕ} (p : Looking space nodes parent token slots slot looked) where
    pub looking-ended : length slots ≤ looked → LooksUp space nodes parent token slots 0
    looking-ended l links =
        let z : length slots - looked ≡ 0 = omega arith in
        sym (p.rest links ∙ ap (λ (k : ℕ). probe k (trie_in sizes space nodes links) slots parent token slot) z ∙ end_is links slot)

    module _ (l : looked < length slots) (x : ℕ) (e : x ≡ get_or slots slot 0) where
      here : (links : ℕ) → probe (length slots) (trie_in sizes space nodes links) slots parent token (mixed_slot (length slots) parent token)
          ≡ pick (eqb x 0) 0 (pick (confirmed_in space nodes parent token x) x (probe (length slots - (looked + 1)) (trie_in sizes space nodes links) slots parent token (slot_after (length slots) slot)))
      here links =
          let one : length slots - looked ≡ suc (length slots - (looked + 1)) = omega arith in
          p.rest links ∙ ap (λ (k : ℕ). probe k (trie_in sizes space nodes links) slots parent token slot) one ∙ step_is links (length slots - (looked + 1)) slot ∙ rw (← e)

      pub looking-free : x ≡ 0 → LooksUp space nodes parent token slots 0
      looking-free z links = sym (here links ∙ rw (eq-eqb x 0 z))

      module _ (z : x ≡ 0 → ⊥) (b : Bool) (f : b ≡ confirmed_in space nodes parent token x) where
        pub looking-met : b ≡ true → LooksUp space nodes parent token slots x
        looking-met t links = sym (here links ∙ rw (ne_eqb x 0 z, sym f ∙ t))

        pub looking-on : b ≡ false → (next : ℕ) → (next ≡ slot_after (length slots) slot) × (next < length slots) → Looking space nodes parent token slots next (looked + 1)
        looking-on t next g = record {
          inside = g.1;
          rest = λ links. here links ∙ rw (ne_eqb x 0 z, sym f ∙ t, ← g.0);
        }

-- ---- the last child

module _ (space : List ℕ) (nodes links parent l : ℕ) where
  abbrev t : Trie
  t = trie_in sizes space nodes links

  module _ (h : parent < l) where
    module _ (k : l < nodes) where
      pub last-damaged : None ≡ read_node nodes links (node_in sizes space) l → false ≡ is_last (trie_in sizes space nodes links) parent l
      unfolding is_last
      last-damaged e = simp (lt-ltb parent l h, lt-ltb l nodes k, read-node-damaged nodes links (node_in sizes space) l e)

      module _ (y : Node) (e : Some y ≡ read_node nodes links (node_in sizes space) l) where
        is : y ≡ node_in sizes space l
        is = (read-node-sound nodes links (node_in sizes space) l e).0

        pub last-stray : (y.parent ≡ parent → ⊥) → false ≡ is_last (trie_in sizes space nodes links) parent l
        unfolding is_last
        last-stray p = simp (lt-ltb parent l h, lt-ltb l nodes k, (read-node-sound nodes links (node_in sizes space) l e).1, ne_eqb _ _ (λ (z : (node_in sizes space l).parent ≡ parent). p (ap (λ (n : Node). n.parent) is ∙ z)))

        pub last-own : y.parent ≡ parent → eqb y.sibling 0 ≡ is_last (trie_in sizes space nodes links) parent l
        unfolding is_last
        last-own p = ap (λ (n : Node). eqb n.sibling 0) is ∙ simp (lt-ltb parent l h, lt-ltb l nodes k, (read-node-sound nodes links (node_in sizes space) l e).1, eq-eqb _ _ (sym (ap (λ (n : Node). n.parent) is) ∙ p))

-- ---- by the slots, then the last child

module _ (space : List ℕ) (nodes links parent token : ℕ) (lasts slots : List ℕ) (x : ℕ) (e : LooksUp space nodes parent token slots x) where
  abbrev u : Trie
  u = trie_in sizes space nodes links

  abbrev w : Search
  w = found_in (ledger_in lasts slots) (trie_in sizes space nodes links) parent token

  module _ (z : x ≡ 0 → ⊥) where
    pub met-within : x < nodes
    met-within =
        let y = e links in
        let q = probe_found u slots parent token (length slots) (mixed_slot (length slots) parent token) (λ o. z (y ∙ o)) in
        rw y (confirmed-is u parent token _ q).below

    pub found-judged : judged_in space nodes links x ≡ found_in (ledger_in lasts slots) (trie_in sizes space nodes links) parent token
    unfolding judged_in found_in
    found-judged = sym (rw (← (e links), ne_eqb x 0 z))

  module _ (z : x ≡ 0) (l : ℕ) (f : l ≡ get_or lasts (parent + 1) 0) (b : Bool) (g : b ≡ is_last (trie_in sizes space nodes links) parent l) where
    noted : l ≡ get_or lasts (suc parent) 0
    noted = let o : parent + 1 ≡ suc parent = omega arith in f ∙ ap (λ (i : ℕ). get_or lasts i 0) o

    pub found-last : b ≡ true → Last l ≡ found_in (ledger_in lasts slots) (trie_in sizes space nodes links) parent token
    unfolding found_in absent
    found-last h = sym (rw (← (e links), eq-eqb x 0 z, ← noted, sym g ∙ h))

    pub found-chain : b ≡ false → search_children (trie_in sizes space nodes links) parent token ≡ found_in (ledger_in lasts slots) (trie_in sizes space nodes links) parent token
    unfolding found_in absent
    found-chain h = sym (rw (← (e links), eq-eqb x 0 z, ← noted, sym g ∙ h))

-- ---- all children

pub record Kept (nodes : ℕ) (lasts slots : List ℕ) : Type 0 where
  pub lasts-room : nodes < length lasts
  pub slots-some : 0 < length slots
  pub slots-most : length slots ≤ 2 ^ 32

pub usable-room : (nodes : ℕ) (lasts slots : List ℕ) → 0 < nodes → usable nodes (ledger_in lasts slots) ≡ true → Kept nodes lasts slots
usable-room nodes lasts slots h u =
    let a = (usable-parts nodes (ledger_in lasts slots) u).0 in
    let b = capacity-lasts (ledger_in lasts slots) in
    let c = capacity-slots (ledger_in lasts slots) in
    record { lasts-room = omega arith; slots-some = omega arith; slots-most = capacity-most (ledger_in lasts slots) (omega arith) }

module _ (t : Trie) (lasts slots : List ℕ) (parent token : ℕ) where
  pub no-slots : parent < t.nodes → length slots ≡ 0 → search_children t parent token ≡ search_in (ledger_in lasts slots) t parent token
  unfolding search_in search_children
  no-slots h z = by_cases (eqb (t.at parent).child 0)
      (λ e. rw e)
      (λ e. by_cases (usable t.nodes (ledger_in lasts slots))
      (λ u. let k = usable-room t.nodes lasts slots (omega arith) u in absurd (omega (arith, k.slots-some)))
      (λ u. rw (e, u)))

  module _ (y : Node) (e : y ≡ t.at parent) where
    pub kept-none : y.child ≡ 0 → Last 0 ≡ search_in (ledger_in lasts slots) t parent token
    unfolding search_in
    kept-none z = let q : eqb (t.at parent).child 0 ≡ true = eq-eqb _ _ (sym (ap (λ (n : Node). n.child) e) ∙ z) in sym (rw q)

    pub kept-first : (y.child ≡ 0 → ⊥) → usable t.nodes (ledger_in lasts slots) ≡ true → Here t parent token y.child (found_in (ledger_in lasts slots) t parent token) (search_in (ledger_in lasts slots) t parent token)
    unfolding search_in
    kept-first z u =
        let c : y.child ≡ (t.at parent).child = ap (λ (n : Node). n.child) e in
        let q : eqb (t.at parent).child 0 ≡ false = ne_eqb _ _ (λ o. z (c ∙ o)) in
        record { gives = rw (q, u) (ap (λ (i : ℕ). at_sibling t parent token i (found_in (ledger_in lasts slots) t parent token)) (sym c)) }

-- ---- the slots that are looked in

-- without every node, the chains alone are gone along
unusable : (k : Ledger) (t : Trie) (parent token : ℕ) → usable t.nodes k ≡ false → search_in k t parent token ≡ search_children t parent token
unfolding search_in search_children
unusable k t parent token e = by_cases (eqb (t.at parent).child 0) (λ z. rw z) (λ z. rw (z, e))

none-usable : (nodes : ℕ) (lasts : List ℕ) → 0 < nodes → usable nodes (ledger_in lasts []) ≡ false
none-usable nodes lasts h = by_cases (usable nodes (ledger_in lasts []))
    (λ u. let k = usable-room nodes lasts [] h u in absurd (omega (arith, k.slots-some)))
    (λ u. u)

walk-chains : (k : Ledger) (t : Trie) (n : ℕ) (xs : List ℕ) → usable t.nodes k ≡ false → walk_from_by (search_in k) t n xs ≡ walk_from t n xs
walk-chains k t n xs e = from-alike (search_in k) t (λ p. Unit) (λ p x m. unusable k t p x e) (λ p x c m z. tt) n xs tt

module _ (nodes : ℕ) (lasts slots : List ℕ) (k : ℕ) (used : UsesSlots nodes lasts slots k) where
  abbrev Either : Type 0
  Either = ((usable nodes (ledger_in lasts slots) ≡ true) × (take k slots ≡ slots)) ⊎ ((usable nodes (ledger_in lasts slots) ≡ false) × (take k slots ≡ []))

  used-either : Either
  used-either = by_cases (usable nodes (ledger_in lasts slots))
      (λ p. let e : k ≡ length slots = used.0 ∙ rw p in inl (p, take_all k slots (omega arith)))
      (λ p. let e : k ≡ 0 = used.0 ∙ rw p in inr (p, ap (λ (i : ℕ). take i slots) e))

  pub used-usable : Usable nodes lasts (take k slots)
  used-usable = go used-either
    where
      go : Either → Usable nodes lasts (take k slots)
      go (inl a) z = rw a.1 a.0
      go (inr a) z = absurd (z (ap length a.1))

  used-descends : (t : Trie) → t.nodes ≡ nodes → 0 < nodes → (n : ℕ) (xs : List ℕ) → walk_from_by (search_in (ledger_in lasts (take k slots))) t n xs ≡ walk_from_by (search_in (ledger_in lasts slots)) t n xs
  used-descends t same some n xs = go used-either
    where
      go : Either → walk_from_by (search_in (ledger_in lasts (take k slots))) t n xs ≡ walk_from_by (search_in (ledger_in lasts slots)) t n xs
      go (inl a) = ap (λ (i : List ℕ). walk_from_by (search_in (ledger_in lasts i)) t n xs) a.1
      go (inr a) =
          ap (λ (i : List ℕ). walk_from_by (search_in (ledger_in lasts i)) t n xs) a.1
          ∙ walk-chains (ledger_in lasts []) t n xs (rw same (none-usable nodes lasts some))
          ∙ sym (walk-chains (ledger_in lasts slots) t n xs (rw same a.0))

  pub used-walks : (t : Trie) → t.nodes ≡ nodes → 0 < nodes → (root : ℕ) (xs : List ℕ)
      → shown (walk_by (search_in (ledger_in lasts (take k slots))) t root xs) ≡ shown (walk_by (search_in (ledger_in lasts slots)) t root xs)
  unfolding walk_by
  used-walks t same some root xs = rw (used-descends t same some root xs) refl

  pub used-length : k ≡ length (take k slots)
  used-length = let l = length-take k slots in let h = used.1 in omega arith
