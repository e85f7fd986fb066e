-- A law for each case of the search, over the record that was read.
use Rattle.std.specs.Prelude.{None, Some}
use Rattle.std.proofs.Common.{◌≡◌, ℕ, zero, suc, ◌+◌, ◌<◌, ◌≤◌, true, false, eqb, sym, refl, ap, ◌∙◌, arith, eq-eqb, ne_eqb}
use Rattle.space.specs.Judging.{read_node}
use Rattle.space.specs.declared.Node.{Node}
use Rattle.space.proofs.JudgingLaws.{node-bounds, follows-rises, follows-within, read-node-sound, read-node-damaged}
use Rattle.trie.specs.Siblings.{Trie, sound, at_sibling, search_siblings, search_children}
use Rattle.trie.specs.declared.Search.{Search}
use Rattle.trie.specs.declared.Search.TheVariants.{Found, Last, Damaged}

-- one step of the search at node n
module _ (steps : ℕ) (t : Trie) (parent token n : ℕ) where
  pub search-unsound : sound t n ≡ false → search_siblings (suc steps) t parent token n ≡ Damaged
  unfolding search_siblings
  search-unsound e = simp e

  module _ (e : sound t n ≡ true) where
    pub search-stray : ((t.at n).parent ≡ parent → ⊥) → search_siblings (suc steps) t parent token n ≡ Damaged
    unfolding search_siblings
    search-stray p = simp (e, ne_eqb _ _ p)

    module _ (p : (t.at n).parent ≡ parent) where
      pub search-same : (t.at n).token ≡ token → search_siblings (suc steps) t parent token n ≡ Found n
      unfolding search_siblings
      search-same q = simp (e, eq-eqb _ _ p, eq-eqb _ _ q)

      module _ (q : (t.at n).token ≡ token → ⊥) where
        pub search-last : (t.at n).sibling ≡ 0 → search_siblings (suc steps) t parent token n ≡ Last n
        unfolding search_siblings
        search-last r = simp (e, eq-eqb _ _ p, ne_eqb _ _ q, eq-eqb _ _ r)

        pub search-next : ((t.at n).sibling ≡ 0 → ⊥) → search_siblings (suc steps) t parent token n ≡ search_siblings steps t parent token (t.at n).sibling
        unfolding search_siblings
        search-next r = simp (e, eq-eqb _ _ p, ne_eqb _ _ q, ne_eqb _ _ r)

-- the search has come to n and gives w, where `rest` is what it gives behind n
pub record Here (t : Trie) (parent token n : ℕ) (rest w : Search) : Type 0 where
  pub gives : w ≡ at_sibling t parent token n rest

-- over the record that was read at n
module _ {t : Trie} {parent token n : ℕ} {rest w : Search} (a : Here t parent token n rest w) where
  pub at-damaged : None ≡ read_node t.nodes t.links t.at n → Damaged ≡ w
  at-damaged e = sym (a.gives ∙ simp (read-node-damaged t.nodes t.links t.at n e))

  module _ (y : Node) (e : Some y ≡ read_node t.nodes t.links t.at n) where
    is : y ≡ t.at n
    is = (read-node-sound t.nodes t.links t.at n e).0

    judged : sound t n ≡ true
    judged = (read-node-sound t.nodes t.links t.at n e).1

    pub at-stray : (y.parent ≡ parent → ⊥) → Damaged ≡ w
    at-stray p = sym (a.gives ∙ simp (judged, ne_eqb _ _ (λ (x : (t.at n).parent ≡ parent). p (ap (λ (z : Node). z.parent) is ∙ x))))

    module _ (p : y.parent ≡ parent) where
      own : eqb (t.at n).parent parent ≡ true
      own = eq-eqb _ _ (sym (ap (λ (z : Node). z.parent) is) ∙ p)

      pub at-found : y.token ≡ token → Found n ≡ w
      at-found q = sym (a.gives ∙ simp (judged, own, eq-eqb _ _ (sym (ap (λ (z : Node). z.token) is) ∙ q)))

      module _ (q : y.token ≡ token → ⊥) where
        other : eqb (t.at n).token token ≡ false
        other = ne_eqb _ _ (λ (x : (t.at n).token ≡ token). q (ap (λ (z : Node). z.token) is ∙ x))

        pub at_last : y.sibling ≡ 0 → Last n ≡ w
        at_last r = sym (a.gives ∙ simp (judged, own, other, eq-eqb _ _ (sym (ap (λ (z : Node). z.sibling) is) ∙ r)))

        module _ (r : y.sibling ≡ 0 → ⊥) (l : n < t.nodes) where
          sibling-is : y.sibling ≡ (t.at n).sibling
          sibling-is = ap (λ (z : Node). z.sibling) is

          some : (t.at n).sibling ≡ 0 → ⊥
          some x = r (sibling-is ∙ x)

          -- the sibling, which is above n and within, and what stands behind n
          pub at_next : (n < y.sibling) × (y.sibling < t.nodes) × (y.sibling ≡ (t.at n).sibling) × (w ≡ rest)
          at_next =
              let b = node-bounds t.nodes t.links n (t.at n) judged in
              let e = sibling-is in
              let up : n < (t.at n).sibling = follows-rises t.nodes n (t.at n).sibling b.sibling-follows some in
              let in' : (t.at n).sibling < t.nodes = follows-within t.nodes n (t.at n).sibling (omega arith) b.sibling-follows in
              (omega arith, omega arith, e, a.gives ∙ simp (judged, own, other, ne_eqb _ _ some))

-- the chain has come to n; `steps` are left, enough for every node from n on, and give w
pub record Chain (t : Trie) (parent token n : ℕ) (w : Search) : Type 0 where
  pub steps : ℕ
  pub within : n < t.nodes
  pub enough : t.nodes ≤ steps + n
  pub same : w ≡ search_siblings steps t parent token n

pub chain-begin : (t : Trie) (parent token n : ℕ) → n < t.nodes → Chain t parent token n (search_siblings t.nodes t parent token n)
chain-begin t parent token n h = record { steps = t.nodes; within = h; enough = omega arith; same = refl }

-- with one step taken off
record Step (t : Trie) (parent token n : ℕ) (w : Search) : Type 0 where
  steps : ℕ
  enough : t.nodes ≤ steps + n + 1
  same : w ≡ search_siblings (suc steps) t parent token n

step : (k : ℕ) (t : Trie) (parent token n : ℕ) (w : Search) → n < t.nodes → t.nodes ≤ k + n → w ≡ search_siblings k t parent token n → Step t parent token n w
step zero t parent token n w l e q = absurd (omega arith)
step (suc k) t parent token n w l e q = record { steps = k; enough = omega arith; same = q }

module _ {t : Trie} {parent token n : ℕ} {w : Search} (a : Chain t parent token n w) where
  first : Step t parent token n w
  first = step a.steps t parent token n w a.within a.enough a.same

  opened : Here t parent token n (search_siblings first.steps t parent token (t.at n).sibling) w
  unfolding search_siblings
  opened = record { gives = first.same }

  pub chain-damaged : None ≡ read_node t.nodes t.links t.at n → Damaged ≡ w
  chain-damaged = at-damaged opened

  module _ (y : Node) (e : Some y ≡ read_node t.nodes t.links t.at n) where
    pub chain-stray : (y.parent ≡ parent → ⊥) → Damaged ≡ w
    chain-stray = at-stray opened y e

    module _ (p : y.parent ≡ parent) where
      pub chain-found : y.token ≡ token → Found n ≡ w
      chain-found = at-found opened y e p

      module _ (q : y.token ≡ token → ⊥) where
        pub chain-last : y.sibling ≡ 0 → Last n ≡ w
        chain-last = at_last opened y e p q

        pub chain_next : (y.sibling ≡ 0 → ⊥) → (n < y.sibling) × Chain t parent token y.sibling w
        chain_next r =
            let x = at_next opened y e p q r a.within in
            let up : n < y.sibling = x.0 in
            let m = first.enough in (
              up,
              record {
                steps = first.steps;
                within = x.1;
                enough = omega arith;
                same = x.3 ∙ ap (search_siblings first.steps t parent token) (sym x.2);
              },
            )

-- the search among all children of a node
module _ (t : Trie) (parent token : ℕ) (y : Node) (e : y ≡ t.at parent) where
  pub children-none : y.child ≡ 0 → Last 0 ≡ search_children t parent token
  unfolding search_children
  children-none z = simp (eq-eqb _ _ (sym (ap (λ (x : Node). x.child) e) ∙ z))

  pub children-some : (y.child ≡ 0 → ⊥) → search_siblings t.nodes t parent token y.child ≡ search_children t parent token
  unfolding search_children
  children-some z = let c : y.child ≡ (t.at parent).child = ap (λ (x : Node). x.child) e in
      simp (ne_eqb _ _ (λ (x : (t.at parent).child ≡ 0). z (c ∙ x)), c)
