-- Two views that are the same but for the answers of one subgoal: one that is given answers leaves the records, the paths and
-- the chains of all others, also where they are damaged.
use Prim.Native.Nat.{ℕ, zero, suc, ◌+◌, ◌<◌, ◌≤◌}
use mathlib.Core.Path.{◌≡◌, refl, sym, ap, ◌∙◌, subst}
use mathlib.Core.Bool.{true, ◌&&◌}
use mathlib.Core.List.{List, [], ◌∷◌}
use native.Mathlib.Omega.{arith}
use lib.Dec.{eqb}
use lib.ListN.{length}
use borrow.Author.Tests.{eq-eqb, ne_eqb, eqb-true, eqb-false, lt-ltb, le-leb}
use Rattle.basis.proofs.Cases.{by_cases}
use Rattle.plain.specs.Words.{Word}
use Rattle.plain.specs.Coding.{Coding}
use Rattle.space.specs.Judging.{follows, node_sound, subgoal_sound, answer_sound}
use Rattle.space.specs.declared.Node.{Node}
use Rattle.space.specs.declared.Subgoal.{Subgoal}
use Rattle.space.specs.declared.Answer.{Answer}
use Rattle.space.proofs.JudgingLaws.{follows-rises, follows-within, follows-last, follows-more, NodeBounds, node-bounds, node-sound, subgoal-bounds, answer-bounds}
use Rattle.trie.specs.Siblings.{sound}
use Rattle.trie.specs.Paths.{Path, none, tokens, below, gather, longest}
use Rattle.trie.specs.Append.{with_child, with_sibling, with_node, with_path}
use Rattle.trie.proofs.AppendLaws.{with-child, with-no-child, with-sibling, with-no-sibling}
use Rattle.trie.proofs.PathLaws.{gather-unsound, gather-root, gather-other, gather-deep, gather-up}
use Rattle.trie.proofs.WalkLaws.{both_true}
use Rattle.store.specs.Views.{View, answer_trie}
use Rattle.store.specs.Decisions.{sound_subgoal, sound_answer, sound_answer_of, sound_last, unbroken, chain_from, chain_of}
use Rattle.agreement.specs.Records.{Alike, with_link, with_new_answer, with_finish}
use Rattle.agreement.proofs.ChainSteps.{chain-begins, chain-made, chain-none, chain-longer}

-- ---- a node

-- its token and its parent stay, and where it was sound under the counts before it is sound under those after
pub record NodeKept (nodes links nodes' links' n : ℕ) (y y' : Node) : Type 0 where
  pub token-kept : y'.token ≡ y.token
  pub parent-kept : y'.parent ≡ y.parent
  pub judged : node_sound nodes links n y ≡ true → node_sound nodes' links' n y' ≡ true

pub node-same : (nodes links n : ℕ) (y : Node) → NodeKept nodes links nodes links n y y
node-same nodes links n y = record { token-kept = refl; parent-kept = refl; judged = λ e. e }

node-then : {b l b' l' b'' l'' n : ℕ} {x y z : Node} → NodeKept b l b' l' n x y → NodeKept b' l' b'' l'' n y z → NodeKept b l b'' l'' n x z
node-then p q = record {
  token-kept = q.token-kept ∙ p.token-kept;
  parent-kept = q.parent-kept ∙ p.parent-kept;
  judged = λ e. q.judged (p.judged e);
}

-- by its bounds
bounds-kept : {nodes links nodes' links' n : ℕ} {y y' : Node} → y'.token ≡ y.token → y'.parent ≡ y.parent
    → (NodeBounds nodes links n y → NodeBounds nodes' links' n y') → NodeKept nodes links nodes' links' n y y'
bounds-kept e f g = record { token-kept = e; parent-kept = f; judged = λ j. node-sound _ _ _ _ (g (node-bounds _ _ _ _ j)) }

module _ (n links m : ℕ) (y : Node) where
  -- a node more is used; it may be this one's first child or next sibling
  more-kept : NodeKept n links (n + 1) links m y y
  more-kept = bounds-kept refl refl (λ b. record {
    child-follows = follows-more n m y.child b.child-follows;
    sibling-follows = follows-more n m y.sibling b.sibling-follows;
    parent-most = b.parent-most;
    link-most = b.link-most;
  })

  child-kept : m < n → NodeKept n links (n + 1) links m y (with_child y n)
  child-kept h = bounds-kept refl refl (λ b. record {
    child-follows = follows-last n m h;
    sibling-follows = follows-more n m y.sibling b.sibling-follows;
    parent-most = b.parent-most;
    link-most = b.link-most;
  })

  sibling-kept : m < n → NodeKept n links (n + 1) links m y (with_sibling y n)
  sibling-kept h = bounds-kept refl refl (λ b. record {
    child-follows = follows-more n m y.child b.child-follows;
    sibling-follows = follows-last n m h;
    parent-most = b.parent-most;
    link-most = b.link-most;
  })

  -- a record more is used that links lead to; this node's may lead to it
  link-most-kept : NodeKept n links n (links + 1) m y y
  link-most-kept = bounds-kept refl refl (λ b. record {
    child-follows = b.child-follows;
    sibling-follows = b.sibling-follows;
    parent-most = b.parent-most;
    link-most = omega (arith, b.link-most);
  })

  link-kept : NodeKept n links n (links + 1) m y (with_link y (links + 1))
  link-kept = bounds-kept refl refl (λ b. record {
    child-follows = b.child-follows;
    sibling-follows = b.sibling-follows;
    parent-most = b.parent-most;
    link-most = omega arith;
  })

with-kept : (at : ℕ → Node) (n parent last token links m : ℕ) → m < n → NodeKept n links (n + 1) links m (at m) (with_node at n parent last token m)
with-kept at n parent last token links m h =
    let o : m ≡ n → ⊥ = λ e. omega arith in
    by_cases (eqb last 0)
    (λ z. by_cases (eqb m parent)
    (λ p. rw (with-child at n parent last token m o (eqb-true _ _ z) (eqb-true _ _ p)) (child-kept n links m (at m) h))
    (λ p. rw (with-no-child at n parent last token m o (eqb-true _ _ z) (eqb-false _ _ p)) (more-kept n links m (at m))))
    (λ z. by_cases (eqb m last)
    (λ p. rw (with-sibling at n parent last token m o (eqb-false _ _ z) (eqb-true _ _ p)) (sibling-kept n links m (at m) h))
    (λ p. rw (with-no-sibling at n parent last token m o (eqb-false _ _ z) (eqb-false _ _ p)) (more-kept n links m (at m))))

-- a path of new nodes below any node
pub path-kept : (xs : List ℕ) (at : ℕ → Node) (n parent last links m : ℕ) → m < n → NodeKept n links (n + length xs) links m (at m) (with_path at n parent last xs m)
unfolding with_path
path-kept [] at n parent last links m h =
    let none : n ≡ n + length {A = ℕ} [] = omega arith in
    subst (λ (b : ℕ). NodeKept n links b links m (at m) (at m)) none (node-same n links m (at m))
path-kept (x ∷ xs) at n parent last links m h =
    let more : n + 1 + length xs ≡ n + length (x ∷ xs) = omega arith in
    subst (λ (b : ℕ). NodeKept n links b links m (at m) (with_path (with_node at n parent last x) (n + 1) n 0 xs m)) more
    (node-then (with-kept at n parent last x links m h) (path-kept xs (with_node at n parent last x) (n + 1) n 0 links m (omega arith)))

-- ---- a view

-- w is v with answers given to subgoal s: the records of all others stay
pub record SameBut (s : ℕ) (v w : View) : Type 0 where
  pub N-same : w.N ≡ v.N
  pub F-same : w.F ≡ v.F
  pub A-same : w.A ≡ v.A
  pub subgoals-same : w.subgoals ≡ v.subgoals
  pub nodes-grow : v.nodes ≤ w.nodes
  pub answers-grow : v.answers ≤ w.answers
  pub node_kept : (n : ℕ) → n < v.nodes → NodeKept v.nodes v.answers w.nodes w.answers n (v.node n) (w.node n)
  pub subgoal-kept : (t : ℕ) → 1 ≤ t → t ≤ v.subgoals → (t ≡ s → ⊥) → w.subgoal t ≡ v.subgoal t
  pub answer-kept : (a : ℕ) → 1 ≤ a → a ≤ v.answers → ((v.answer a).subgoal ≡ s → ⊥) → w.answer a ≡ v.answer a
  -- of s itself
  pub leaf-kept : (w.subgoal s).leaf ≡ (v.subgoal s).leaf
  pub root_kept : (w.subgoal s).root ≡ (v.subgoal s).root
  pub variables-kept : (w.subgoal s).variables ≡ (v.subgoal s).variables
  pub root-within : (w.subgoal s).root < w.nodes
  pub last_within : (w.subgoal s).last ≤ w.answers

pub same-but-same : (s : ℕ) (v : View) → (v.subgoal s).root < v.nodes → (v.subgoal s).last ≤ v.answers → SameBut s v v
same-but-same s v root last = record {
  N-same = refl;
  F-same = refl;
  A-same = refl;
  subgoals-same = refl;
  nodes-grow = omega arith;
  answers-grow = omega arith;
  node_kept = λ n h. node-same v.nodes v.answers n (v.node n);
  subgoal-kept = λ t l m o. refl;
  answer-kept = λ a l m o. refl;
  leaf-kept = refl;
  root_kept = refl;
  variables-kept = refl;
  root-within = root;
  last_within = last;
}

pub same-but-then : {s : ℕ} {u v w : View} → SameBut s u v → SameBut s v w → SameBut s u w
same-but-then {s} {u} {v} {w} p q =
    let n : u.nodes ≤ v.nodes = p.nodes-grow in
    let k : u.answers ≤ v.answers = p.answers-grow in
    record {
      N-same = q.N-same ∙ p.N-same;
      F-same = q.F-same ∙ p.F-same;
      A-same = q.A-same ∙ p.A-same;
      subgoals-same = q.subgoals-same ∙ p.subgoals-same;
      nodes-grow = omega (arith, q.nodes-grow);
      answers-grow = omega (arith, q.answers-grow);
      node_kept = λ i h. node-then (p.node_kept i h) (q.node_kept i (omega arith));
      subgoal-kept = λ t l m o. q.subgoal-kept t l (omega (arith, p.subgoals-same)) o ∙ p.subgoal-kept t l m o;
      answer-kept = λ a l m o.
          let e : v.answer a ≡ u.answer a = p.answer-kept a l m o in
          q.answer-kept a l (omega arith) (λ z. o (ap (λ (y : Answer). y.subgoal) (sym e) ∙ z)) ∙ e;
      leaf-kept = q.leaf-kept ∙ p.leaf-kept;
      root_kept = q.root_kept ∙ p.root_kept;
      variables-kept = q.variables-kept ∙ p.variables-kept;
      root-within = q.root-within;
      last_within = q.last_within;
    }

-- a view is the same by its records within the counts
pub same-but-alike : {s : ℕ} {v w x : View} → 1 ≤ s → s ≤ v.subgoals → SameBut s v x → Alike w x → SameBut s v w
same-but-alike {s} {v} {w} {x} low high p e =
    let own : w.subgoal s ≡ x.subgoal s = e.subgoal-same s low (omega (arith, p.subgoals-same)) in
    let n : v.nodes ≤ x.nodes = p.nodes-grow in
    let k : v.answers ≤ x.answers = p.answers-grow in
    record {
      N-same = e.N-same ∙ p.N-same;
      F-same = e.F-same ∙ p.F-same;
      A-same = e.A-same ∙ p.A-same;
      subgoals-same = e.subgoals-same ∙ p.subgoals-same;
      nodes-grow = omega (arith, e.nodes-same);
      answers-grow = omega (arith, e.answers-same);
      node_kept = λ i h. rw (e.nodes-same, e.answers-same, e.node-same i (omega arith)) (p.node_kept i h);
      subgoal-kept = λ t l m o. e.subgoal-same t l (omega (arith, p.subgoals-same)) ∙ p.subgoal-kept t l m o;
      answer-kept = λ a l m o. e.answer-same a l (omega arith) ∙ p.answer-kept a l m o;
      leaf-kept = rw own p.leaf-kept;
      root_kept = rw own p.root_kept;
      variables-kept = rw own p.variables-kept;
      root-within = rw (own, e.nodes-same) p.root-within;
      last_within = rw (own, e.answers-same) p.last_within;
    }

-- ---- an answer more

-- the last answer, which is written, is one to s
last-own : (v : View) (s : ℕ) → sound_last v s ≡ true → ((v.subgoal s).last ≡ 0 → ⊥) → (v.answer (v.subgoal s).last).subgoal ≡ s
last-own v s e o =
    let a : ℕ = (v.subgoal s).last in
    let all : sound_answer_of v s a && eqb (v.answer a).next 0 ≡ true = rw (ne_eqb (v.subgoal s).last 0 o) at e in
    eqb-true _ _ (both_true (sound_answer v a) (eqb (v.answer a).subgoal s) (both_true (sound_answer_of v s a) (eqb (v.answer a).next 0) all).0).1

module _ (v : View) (s : ℕ) (root : (v.subgoal s).root < v.nodes) (last : (v.subgoal s).last ≤ v.answers) (judged : sound_last v s ≡ true) where
  others-kept : (path : ℕ → Node) (nodes leaf a : ℕ) → a ≤ v.answers → ((v.answer a).subgoal ≡ s → ⊥) → (with_new_answer v path nodes s leaf).answer a ≡ v.answer a
  others-kept path nodes leaf a m o =
      rw (ne_eqb a (v.answers + 1) (λ z. omega arith))
      (by_cases (eqb (v.subgoal s).last 0)
      (λ z. rw z)
      (λ z. let other : a ≡ (v.subgoal s).last → ⊥ = λ p. o (ap (λ (b : ℕ). (v.answer b).subgoal) p ∙ last-own v s judged (eqb-false _ _ z)) in
      rw (z, ne_eqb a (v.subgoal s).last other)))

  pub new-kept : (path : ℕ → Node) (nodes leaf : ℕ) → v.nodes ≤ nodes
      → ((n : ℕ) → n < v.nodes → NodeKept v.nodes v.answers nodes v.answers n (v.node n) (path n))
      → SameBut s v (with_new_answer v path nodes s leaf)
  new-kept path nodes leaf more kept =
      let here : eqb s s ≡ true = eq-eqb s s refl in
      record {
        N-same = refl;
        F-same = refl;
        A-same = refl;
        subgoals-same = refl;
        nodes-grow = more;
        answers-grow = omega arith;
        node_kept = λ n h. node-then (kept n h) (by_cases (eqb n leaf)
            (λ e. rw (e, ← eqb-true n leaf e) (link-kept nodes v.answers n (path n)))
            (λ e. rw e (link-most-kept nodes v.answers n (path n))));
        subgoal-kept = λ t l m o. rw (ne_eqb t s o);
        answer-kept = λ a l m o. others-kept path nodes leaf a m o;
        leaf-kept = rw here;
        root_kept = rw here;
        variables-kept = rw here;
        root-within = rw here (omega arith);
        last_within = rw here (omega arith);
      }

-- that s is finished besides leaves the same
pub finish-kept : {s : ℕ} {v w : View} → SameBut s v w → SameBut s v (with_finish w s)
finish-kept {s = s} S =
    let here : eqb s s ≡ true = eq-eqb s s refl in
    record {
      N-same = S.N-same;
      F-same = S.F-same;
      A-same = S.A-same;
      subgoals-same = S.subgoals-same;
      nodes-grow = S.nodes-grow;
      answers-grow = S.answers-grow;
      node_kept = S.node_kept;
      subgoal-kept = λ t l m o. rw (ne_eqb t s o) (S.subgoal-kept t l m o);
      answer-kept = S.answer-kept;
      leaf-kept = rw here S.leaf-kept;
      root_kept = rw here S.root_kept;
      variables-kept = rw here S.variables-kept;
      root-within = rw here S.root-within;
      last_within = rw here S.last_within;
    }

-- ---- counts that grow

pub follows-wider : (bound bound' n x : ℕ) → 0 < bound → bound ≤ bound' → follows bound n x ≡ true → follows bound' n x ≡ true
unfolding follows
follows-wider bound bound' n x some w e = by_cases (eqb x 0)
    (λ t. simp t)
    (λ t.
    let r : n < x = follows-rises bound n x e (eqb-false _ _ t) in
    let l : x < bound = follows-within bound n x some e in
    simp (t, lt-ltb n x r, lt-ltb x bound' (omega arith)))

module _ (nodes nodes' answers answers' : ℕ) (n : nodes ≤ nodes') (k : answers ≤ answers') where
  subgoal-wider : (y : Subgoal) → subgoal_sound nodes answers y ≡ true → subgoal_sound nodes' answers' y ≡ true
  unfolding subgoal_sound
  subgoal-wider y e =
      let b = subgoal-bounds nodes answers y e in
      simp (
        lt-ltb y.leaf nodes' (omega (arith, b.leaf-below)),
        lt-ltb y.root nodes' (omega (arith, b.root_below)),
        le-leb y.variables 32 b.variables-most,
        le-leb y.state 1 b.state-most,
        le-leb y.first answers' (omega (arith, b.first-most)),
        le-leb y.last answers' (omega (arith, b.last-most)),
        b.first-and-last,
      )

  answer-wider : (subgoals a : ℕ) (y : Answer) → answer_sound nodes subgoals answers a y ≡ true → answer_sound nodes' subgoals answers' a y ≡ true
  unfolding answer_sound
  answer-wider subgoals a y e =
      let b = answer-bounds nodes subgoals answers a y e in
      simp (
        lt-ltb y.leaf nodes' (omega (arith, b.leaf-below)),
        lt-ltb 0 y.subgoal b.subgoal-some,
        le-leb y.subgoal subgoals b.subgoal-most,
        follows-wider (answers + 1) (answers' + 1) a y.next (omega arith) (omega arith) b.next-follows,
      )

-- ---- what stays for all but s

none-not : {us : List ℕ} → none ≡ tokens us → ⊥
none-not e = let z : ◌≡◌ {A = ℕ} 0 1 = cc in omega arith

below-tokens : (p : Path) (x : ℕ) (us : List ℕ) → below p x ≡ tokens us → (ys : List ℕ) × (p ≡ tokens ys)
below-tokens none x us e = absurd (none-not e)
below-tokens (tokens ys) x us e = (ys, refl)

module _ {s : ℕ} {v w : View} (S : SameBut s v w) where
  -- a node on the way, by what is known of the node above it
  step_stays : (most root n : ℕ) (us : List ℕ) → n < v.nodes
      → ((sound (answer_trie v) n ≡ true) → ((v.node n).parent ≡ n → ⊥) → gather most (answer_trie v) root n ≡ tokens us → gather most (answer_trie w) root n ≡ tokens us)
      → gather most (answer_trie v) root n ≡ tokens us → gather most (answer_trie w) root n ≡ tokens us
  step_stays most root n us h up e =
      let k = S.node_kept n h in
      by_cases (sound (answer_trie v) n) (λ j.
      by_cases (eqb (v.node n).parent n) (λ p.
      let q : (v.node n).parent ≡ n = eqb-true _ _ p in
      by_cases (eqb n root)
      (λ r. gather-root (answer_trie w) root n (k.judged j) most (k.parent-kept ∙ q) (eqb-true _ _ r) ∙ sym (gather-root (answer_trie v) root n j most q (eqb-true _ _ r)) ∙ e)
      (λ r. absurd (none-not (sym (gather-other (answer_trie v) root n j most q (eqb-false _ _ r)) ∙ e))))
      (λ p. up j (eqb-false _ _ p) e))
      (λ j. absurd (none-not (sym (gather-unsound (answer_trie v) root n most j) ∙ e)))

  pub path-stays : (most root n : ℕ) (us : List ℕ) → n < v.nodes → gather most (answer_trie v) root n ≡ tokens us → gather most (answer_trie w) root n ≡ tokens us
  path-stays zero root n us h = step_stays zero root n us h (λ j p e. absurd (none-not (sym (gather-deep (answer_trie v) root n j p) ∙ e)))
  path-stays (suc most) root n us h = step_stays (suc most) root n us h (λ j p e.
      let k = S.node_kept n h in
      let b = node-bounds v.nodes v.answers n (v.node n) j in
      let f : below (gather most (answer_trie v) root (v.node n).parent) (v.node n).token ≡ tokens us = sym (gather-up (answer_trie v) root n j p most) ∙ e in
      let y = below-tokens (gather most (answer_trie v) root (v.node n).parent) (v.node n).token us f in
      let same : gather most (answer_trie w) root (v.node n).parent ≡ gather most (answer_trie v) root (v.node n).parent =
      path-stays most root (v.node n).parent y.0 (omega (arith, b.parent-most)) y.1 ∙ sym y.1 in
      gather-up (answer_trie w) root n (k.judged j) (λ z. p (sym k.parent-kept ∙ z)) most ∙ rw (k.parent-kept, k.token-kept, same) f)

  module _ (t : ℕ) (low : 1 ≤ t) (high : t ≤ v.subgoals) (other : t ≡ s → ⊥) where
    pub subgoal-stays : sound_subgoal v t ≡ true → sound_subgoal w t ≡ true
    subgoal-stays e = rw (S.subgoal-kept t low high other) (subgoal-wider v.nodes w.nodes v.answers w.answers S.nodes-grow S.answers-grow (v.subgoal t) e)

    -- an answer to t is as it was
    pub own-answer-kept : (a : ℕ) → 1 ≤ a → a ≤ v.answers → (v.answer a).subgoal ≡ t → w.answer a ≡ v.answer a
    own-answer-kept a l m own = S.answer-kept a l m (λ z. other (sym own ∙ z))

    pub answer-stays : (a : ℕ) → 1 ≤ a → a ≤ v.answers → sound_answer_of v t a ≡ true → sound_answer_of w t a ≡ true
    answer-stays a l m e =
        let both = both_true (sound_answer v a) (eqb (v.answer a).subgoal t) e in
        let own : (v.answer a).subgoal ≡ t = eqb-true _ _ both.1 in
        let sound : answer_sound w.nodes v.subgoals w.answers a (v.answer a) ≡ true =
        answer-wider v.nodes w.nodes v.answers w.answers S.nodes-grow S.answers-grow v.subgoals a (v.answer a) both.0 in
        rw (own-answer-kept a l m own, S.subgoals-same, sound) both.1

    pub chain-stays : (c : Coding) (k a : ℕ) (us : List Word) → a ≤ v.answers → chain_from c v t k a ≡ unbroken us → chain_from c w t k a ≡ unbroken us
    chain-stays c zero a us m e = unfold chain_from in e
    chain-stays c (suc k) a us m e = by_cases (eqb a 0)
        (λ z. chain-none c v w t (suc k) (suc k) a us (eqb-true a 0 z) e)
        (λ z.
        let some : a ≡ 0 → ⊥ = eqb-false a 0 z in
        let l : 1 ≤ a = omega arith in
        let b = chain-begins c v t k a us some e in
        let both = both_true (sound_answer v a) (eqb (v.answer a).subgoal t) b.judged in
        let bounds = answer-bounds v.nodes v.subgoals v.answers a (v.answer a) both.0 in
        let next : (v.answer a).next < v.answers + 1 = follows-within (v.answers + 1) a (v.answer a).next (omega arith) bounds.next-follows in
        let same : w.answer a ≡ v.answer a = own-answer-kept a l m (eqb-true _ _ both.1) in
        let goal : w.subgoal t ≡ v.subgoal t = S.subgoal-kept t low high other in
        chain-made c w t k a us some (record {
          form = b.form;
          rest = b.rest;
          is = b.is;
          judged = answer-stays a l m b.judged;
          path = rw (goal, same) (path-stays longest (v.subgoal t).root (v.answer a).leaf b.form bounds.leaf-below b.path);
          legal = rw goal b.legal;
          later = rw same (chain-stays c k (v.answer a).next b.rest (omega arith) b.later);
        }))

    -- the whole chain; there may be more answers now, which it does not come to
    pub chain-whole-stays : (c : Coding) (us : List Word) → (v.subgoal t).first ≤ v.answers → chain_of c v t ≡ unbroken us → chain_of c w t ≡ unbroken us
    chain-whole-stays c us m e =
        let f : chain_from c w t v.answers (v.subgoal t).first ≡ unbroken us = chain-stays c v.answers (v.subgoal t).first us m e in
        rw (S.subgoal-kept t low high other) (chain-longer c w t v.answers w.answers (v.subgoal t).first us S.answers-grow f)
