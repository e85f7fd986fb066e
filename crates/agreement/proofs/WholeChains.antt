-- From what each test of the check says by itself to what holds of the whole: children, siblings and answers are listed in order, each once.
use Prim.Native.Nat.{ℕ, zero, suc, ◌≤◌, ◌<◌}
use mathlib.Core.Path.{◌≡◌, refl, sym, ap, ◌∙◌, subst}
use mathlib.Core.Bool.{◌&&◌}
use native.Mathlib.Omega.{arith}
use lib.Dec.{eqb}
use borrow.Author.Tests.{eqb-true, eqb-false}
use Rattle.basis.proofs.Cases.{by_cases}
use Rattle.plain.specs.Coding.{Coding}
use Rattle.plain.specs.Table.{after}
use Rattle.plain.proofs.AfterLaws.{Follows}
use Rattle.space.specs.declared.Node.{Node}
use Rattle.space.proofs.JudgingLaws.{follows-rises, follows-within}
use Rattle.trie.specs.Siblings.{Trie, sound, search_siblings, search_children}
use Rattle.trie.specs.declared.Search.TheVariants.{Found, Last, Damaged}
use Rattle.store.specs.Views.{View}
use Rattle.agreement.specs.Whole.{all_nodes}
use Rattle.agreement.proofs.TrieNodes.{par, next_of}
use Rattle.agreement.proofs.RisingChains.{InChain, here, there, Rises, chain_first, chain_next}
use Rattle.agreement.proofs.AnswerChains.{Chained, chains-first, chains-next}
use Rattle.agreement.proofs.WholeTests.{NodeFacts, LastFacts, none_last, has_last, Whole, NodeLocal, EndsFacts, no-ends, both_ends, SubgoalLocal, AnswerLocal, Local}

-- ---- a node that is found is in the chain

not_found : {A : Type 0} (i j : ℕ) → Last j ≡ Found i → A
not_found i j e = let z : ◌≡◌ {A = ℕ} 0 1 = cc in absurd (omega arith)

not-damaged : {A : Type 0} (i : ℕ) → Damaged ≡ Found i → A
not-damaged i e = let z : ◌≡◌ {A = ℕ} 0 1 = cc in absurd (omega arith)

found-same : (i j : ℕ) → Found i ≡ Found j → i ≡ j
found-same i j e = cc

module _ (T : Trie) where
  abbrev sib : ℕ → ℕ
  sib j = (T.at j).sibling

  siblings-chain : (k p t c i : ℕ) → search_siblings k T p t c ≡ Found i → InChain sib c i
  unfolding search_siblings
  siblings-chain zero p t c i e = not-damaged i e
  siblings-chain (suc k) p t c i e = by_cases (sound T c && eqb (T.at c).parent p)
      (λ a. by_cases (eqb (T.at c).token t)
      (λ b. here (found-same c i (rw (a, b) at e)))
      (λ b. by_cases (eqb (T.at c).sibling 0)
      (λ d. not_found i c (rw (a, b, d) at e))
      (λ d. there (eqb-false _ _ d) (siblings-chain k p t (T.at c).sibling i (rw (a, b, d) at e)))))
      (λ a. not-damaged i (rw a at e))

  children-chain : (p t i : ℕ) → search_children T p t ≡ Found i → ((T.at p).child ≡ 0 → ⊥) × InChain sib (T.at p).child i
  unfolding search_children
  children-chain p t i e = by_cases (eqb (T.at p).child 0)
      (λ a. not_found i 0 (rw a at e))
      (λ a. (eqb-false _ _ a, siblings-chain T.nodes p t (T.at p).child i (rw a at e)))

module _ (c : Coding) (v : View) (node : (i : ℕ) → i < v.nodes → NodeLocal c v i) where
  abbrev nd : ℕ → Node
  nd = v.node

  abbrev n : ℕ
  n = v.nodes

  abbrev next : ℕ → ℕ
  next i = (v.node i).sibling

  up : (i : ℕ) → i < n → (par nd i ≡ i → ⊥) → par nd i < i
  up i h ne = let l = (node i h).judged.parent-most in strict l ne
    where
      strict : {a b : ℕ} → a ≤ b → (a ≡ b → ⊥) → a < b
      strict h k = omega arith

  rising : (x : ℕ) → Rises (par nd) next n x
  rising x = record {
    rises = λ i h e z.
        let f = node i h in
        by_cases (eqb (par nd i) i)
        (λ p. absurd (z (f.root-sibling (eqb-true _ _ p))))
        (λ p. record {
          above = follows-rises n i (next i) f.judged.sibling-follows z;
          below = follows-within n i (next i) (omega arith) f.judged.sibling-follows;
          under = f.sibling-own (eqb-false _ _ p) z ∙ e;
        });
  }

  first-own : (p : ℕ) → p < n → ((nd p).child ≡ 0 → ⊥) → Follows (par nd) n p p (nd p).child
  first-own p h z =
      let f = node p h in
      record { above = follows-rises n p (nd p).child f.judged.child-follows z; below = follows-within n p (nd p).child (omega arith) f.judged.child-follows; under = f.child-own z }

  -- a child is in the chain of its parent
  reached : (p i : ℕ) → i < n → par nd i ≡ p → p < i → ((nd p).child ≡ 0 → ⊥) × InChain next (nd p).child i
  reached p i h e l =
      let r = children-chain (all_nodes c v) (par nd i) (nd i).token i ((node i h).found (λ z. omega arith)) in
      (subst (λ (x : ℕ). (nd x).child ≡ 0 → ⊥) e r.0, subst (λ (x : ℕ). InChain next (nd x).child i) e r.1)

  child-fact : (p : ℕ) → p < n → (nd p).child ≡ after (par nd) n p p
  child-fact p h = chain_first (par nd) next n p (rising p) p (nd p).child (first-own p h) (λ i f. reached p i f.below f.under f.above)

  sibling-fact : (i : ℕ) → i < n → (nd i).sibling ≡ next_of nd n i
  sibling-fact i h = by_cases (eqb (par nd i) i)
      (λ p. rw p ((node i h).root-sibling (eqb-true _ _ p)))
      (λ p.
      let l = up i h (eqb-false _ _ p) in
      let r = reached (par nd i) i h refl l in
      let o = first-own (par nd i) (omega arith) r.0 in
      rw p (chain_next (par nd) next n (par nd i) (rising (par nd i)) (nd (par nd i)).child i o.below o.under r.1 h refl (λ j f. (reached (par nd i) j f.below f.under (omega (arith, f.above))).1)))

  token-fact : (i j : ℕ) → i < n → j < n → i < j → (par nd i ≡ i → ⊥) → par nd j ≡ par nd i → (nd j).token ≡ (nd i).token → ⊥
  token-fact i j h k l ne p e =
      let u = up i h ne in
      let a = (node i h).found ne in
      let b = (node j k).found (λ z. omega arith) in
      let z : i ≡ j = found-same i j (sym a ∙ ap (λ (x : ℕ). search_children (all_nodes c v) x (nd i).token) (sym p) ∙ ap (λ (x : ℕ). search_children (all_nodes c v) (par nd j) x) (sym e) ∙ b) in
      omega arith

  node-facts : (i : ℕ) → i < n → NodeFacts v i
  node-facts i h =
      let f = node i h in
      record {
        lower = f.judged.parent-most;
        child = child-fact i h;
        sibling = sibling-fact i h;
        leads = f.leads;
        root-token = f.root-token;
        root-own = f.root-own;
        token-own = λ ne j k l p e. token-fact i j h k l ne p e;
        lives = f.lives;
      }

-- ---- answers

pub local-chained : (c : Coding) (v : View) → ((s : ℕ) → 0 < s → s ≤ v.subgoals → SubgoalLocal c v s) → ((a : ℕ) → 0 < a → a ≤ v.answers → AnswerLocal c v a) → Chained v
local-chained c v subgoal answer = record {
  owner-low = λ a h k. (answer a h k).low;
  owner-high = λ a h k. (answer a h k).high;
  next-own = λ a h k. (answer a h k).next-own;
  first-own = λ s h k z. go s z (subgoal s h k).ends;
}
  where
    go : (s : ℕ) → ((v.subgoal s).first ≡ 0 → ⊥) → EndsFacts v s → ((v.subgoal s).first ≤ v.answers) × ((v.answer (v.subgoal s).first).subgoal ≡ s)
    go s z (no-ends p q) = absurd (z q)
    go s z (both_ends a b d p q o e) = (b, d)

pub local-facts : (c : Coding) (v : View) → Local c v → Whole c v
local-facts c v L =
    let R : Chained v = local-chained c v L.subgoal L.answer in
    record {
      node = node-facts c v L.node;
      subgoal = λ s h k.
          let f = L.subgoal s h k in
          record {
            root_in = f.root_in;
            root-next = f.root-next;
            root-own = f.root-own;
            linked = f.linked;
            state = f.state;
            path = f.path;
            legal = f.legal;
            begins = f.begins;
            variables = f.variables;
            first = chains-first c v R L.count s h k;
            last = last_of s f.ends;
            led = f.led;
          };
      answer = λ a h k.
          let f = L.answer a h k in
          record { low = f.low; high = f.high; leaf-in = f.leaf-in; linked = f.linked; path = f.path; legal = f.legal; next = chains-next c v R L.count a h k };
    }
  where
    last_of : (s : ℕ) → EndsFacts v s → LastFacts v s (v.subgoal s).first (v.subgoal s).last
    last_of s (no-ends p q) = none_last p q
    last_of s (both_ends a b d p q o e) = has_last p q o e
