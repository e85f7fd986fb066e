-- A build on cells that hold a table: every child that enters is found again, and no node is judged damaged.
use Rattle.std.specs.Prelude.{Err, Ok}
use mathlib.Core.Path.{◌≡◌, refl, sym, ap, ◌∙◌, subst}
use mathlib.Core.Bool.{true, false≢true}
use mathlib.Core.List.{List, [], ◌∷◌, ◌++◌, head-eq_of_cons-eq}
use Prim.Native.Nat.{ℕ, zero, suc, ◌≤◌, ◌<◌}
use native.Mathlib.Omega.{arith}
use lib.Dec.{eqb}
use lib.ListN.{length}
use borrow.Author.Tests.{eqb-false, eq-eqb, ne_eqb}
use Rattle.basis.specs.Choice.{pick}
use Rattle.basis.specs.Editions.{known_edition}
use Rattle.basis.proofs.Cases.{by_cases}
use Rattle.plain.specs.Words.{Word}
use Rattle.plain.specs.Coding.{Coding, coding_of}
use Rattle.plain.specs.CodingLaws.{CodingLaws}
use Rattle.plain.specs.Requests.{left}
use Rattle.plain.specs.Table.{Table, fresh, step, after}
use Rattle.plain.proofs.StoredCoding.{coding-laws}
use Rattle.plain.proofs.Keys.{key, Different}
use Rattle.plain.proofs.AfterLaws.{after-found}
use Rattle.space.specs.Judging.{node_sound}
use Rattle.space.specs.Layout.{sizes_of}
use Rattle.space.specs.Heading.{space_header, Header}
use Rattle.space.specs.Fresh.{fresh_space}
use Rattle.space.specs.declared.Node.{Node}
use Rattle.trie.specs.Siblings.{Trie}
use Rattle.trie.specs.Index.{enters, entering, roomy, lookup}
use Rattle.trie.proofs.BuildLaws.{built-finds}
use Rattle.store.specs.Views.{View, subgoal_trie, view_of}
use Rattle.store.specs.Calls.{space_step}
use Rattle.store.specs.Building.{root_above, links_of, node_fit, nodes_fit, Build, built, refused, build_on, build_under, build_index, nodes_under, nodes_of}
use Rattle.agreement.specs.Indexed.{Buildable, FoundAgain, BuildFinds, BuildAnswers, BuildRefused}
use Rattle.agreement.proofs.TrieNodes.{par, Kind, is_root, is_child, parent-most}
use Rattle.agreement.proofs.TrieWalks.{key-some, node-judged, child-one, child-up}
use Rattle.agreement.proofs.SameRecords.{Same, called-links, answered-links}
use Rattle.agreement.proofs.Holding.{Holds}
use Rattle.agreement.proofs.Theorem.{header-any, fresh_in}
use Rattle.agreement.proofs.IndexSteps.{calls-held}

enters-child : (t : Trie) (x : ℕ) → enters t x ≡ true → (t.at x).parent ≡ x → ⊥
unfolding enters
enters-child t x e k = false≢true (rw (eq-eqb _ _ k) at e)

module _ (c : Coding) (laws : CodingLaws c) (t : Table) (v : View) (S : Same c t v) where
  pub same-built : (index : List ℕ) → roomy (subgoal_trie v) (length index) ≡ true → (x : ℕ) → x < v.nodes → enters (subgoal_trie v) x ≡ true
      → lookup (subgoal_trie v) (build_on (subgoal_trie v) index).index (v.node x).parent (v.node x).token ≡ x
  unfolding build_on
  same-built index e x h k =
      let D : Different S.K = S.numbering.different in
      let o = parent-most S.K v.node v.nodes S.tries 0 S.some in
      let up = child-up S.K v.node v.nodes S.tries D x h (enters-child (subgoal_trie v) x k) in
      rw e (built-finds (subgoal_trie v) (omega arith) (length index) e x h k up
      (λ a q. child-one S.K v.node v.nodes S.tries D (v.node x).parent (v.node x).token a x q.below q.above q.parent_is q.token-is h up refl refl))

  -- ---- every node is judged sound

  abbrev nd : ℕ → Node
  nd = v.node

  abbrev D : Different S.K
  D = S.numbering.different

  -- the root of a node's trie
  root-of : (k i s : ℕ) (u : Word) → i < v.nodes → i ≤ k → key S.K i ≡ s ∷ u → (root_above k nd i < v.nodes) × (key S.K (root_above k nd i) ≡ s ∷ [])
  unfolding root_above
  root-of zero i s u h l e = go (S.tries.kind i h)
    where
      go : Kind S.K nd i → (i < v.nodes) × (key S.K i ≡ s ∷ [])
      go (is_root x p t k) = (h, k ∙ ap (λ (y : ℕ). y ∷ []) (head-eq_of_cons-eq (sym k ∙ e)))
      go (is_child p k) = absurd (omega arith)
  root-of (suc k) i s u h l e = go (S.tries.kind i h) (λ j y hj lj ej. root-of k j s y hj lj ej)
    where
      go : Kind S.K nd i → ((j : ℕ) (y : Word) → j < v.nodes → j ≤ k → key S.K j ≡ s ∷ y → (root_above k nd j < v.nodes) × (key S.K (root_above k nd j) ≡ s ∷ []))
          → (pick (eqb (par nd i) i) i (root_above k nd (par nd i)) < v.nodes) × (key S.K (pick (eqb (par nd i) i) i (root_above k nd (par nd i))) ≡ s ∷ [])
      go (is_root x p t q) f = rw (eq-eqb _ _ p) (h, q ∙ ap (λ (y : ℕ). y ∷ []) (head-eq_of_cons-eq (sym q ∙ e)))
      go (is_child p q) f =
          let w = begins (key S.K (par nd i)) refl (sym q ∙ e) in
          rw (ne_eqb (par nd i) i (λ z. omega arith)) (f (par nd i) w.0 (omega arith) (omega arith) w.1)
        where
          begins : (y : Word) → key S.K (par nd i) ≡ y → key S.K (par nd i) ++ ((nd i).token ∷ []) ≡ s ∷ u → (z : Word) × (key S.K (par nd i) ≡ s ∷ z)
          begins [] a b = absurd (key-some S.K nd v.nodes S.tries D (par nd i) (omega arith) a)
          begins (x ∷ y) a b = (y, a ∙ ap (λ (m : ℕ). m ∷ y) (head-eq_of_cons-eq (rw a at b)))

  node-held : (i s : ℕ) (u : Word) → i < v.nodes → key S.K i ≡ s ∷ u → node_sound v.nodes (links_of v i) i (nd i) ≡ true
  node-held i zero u h e =
      let r = root-of v.nodes i 0 u h (omega arith) e in
      let z : root_above v.nodes nd i ≡ 0 = D (root_above v.nodes nd i) 0 (omega (arith, r.0, S.tries.keys)) (omega (arith, S.some, S.tries.keys)) (r.1 ∙ sym S.origin) in
      rw z (node-judged S.K nd v.nodes S.tries D v.subgoals 0 (called-links c laws t v S) i h (u, e))
  node-held i (suc s) u h e =
      let r = root-of v.nodes i (suc s) u h (omega arith) e in
      let z : root_above v.nodes nd i ≡ 0 → ⊥ = λ q. let w : suc s ≡ 0 = head-eq_of_cons-eq (sym r.1 ∙ ap (key S.K) q ∙ S.origin) in omega arith in
      rw (ne_eqb (root_above v.nodes nd i) 0 z) (node-judged S.K nd v.nodes S.tries D v.answers (suc s) (answered-links c laws t v S (suc s) (omega arith)) i h (u, e))

  child-held : (i : ℕ) → i < v.nodes → pick (eqb (nd i).child 0) true (eqb (par nd (nd i).child) i) ≡ true
  child-held i h = by_cases (eqb (nd i).child 0)
      (λ e. rw e)
      (λ e. let q = S.tries.child i h in
      let f = after-found (par nd) v.nodes i i (λ z. eqb-false _ _ e (q ∙ z)) in
      rw e (eq-eqb _ _ (ap (par nd) q ∙ f.under)))

  sibling-held : (i : ℕ) → i < v.nodes → pick (eqb (nd i).sibling 0) true (eqb (par nd (nd i).sibling) (par nd i)) ≡ true
  sibling-held i h = by_cases (eqb (nd i).sibling 0)
      (λ e. rw e)
      (λ e. rw e (by_cases (eqb (par nd i) i)
      (λ p. absurd (eqb-false _ _ e (S.tries.sibling i h ∙ rw p)))
      (λ p. let q : (nd i).sibling ≡ after (par nd) v.nodes i (par nd i) = S.tries.sibling i h ∙ rw p in
      let f = after-found (par nd) v.nodes i (par nd i) (λ z. eqb-false _ _ e (q ∙ z)) in
      eq-eqb _ _ (ap (par nd) q ∙ f.under))))

  node-fit : (i : ℕ) → i < v.nodes → node_fit v i ≡ true
  unfolding node_fit
  node-fit i h = let k = some (key S.K i) refl in rw (node-held i k.0 k.1 h k.2, child-held i h, sibling-held i h)
    where
      some : (y : Word) → key S.K i ≡ y → (s : ℕ) × (u : Word) × (key S.K i ≡ s ∷ u)
      some [] e = absurd (key-some S.K nd v.nodes S.tries D i h e)
      some (s ∷ u) e = (s, u, e)

  nodes-fit : (n : ℕ) → n ≤ v.nodes → nodes_fit v n ≡ true
  unfolding nodes_fit
  nodes-fit zero h = refl
  nodes-fit (suc n) h = rw (nodes-fit n (omega arith), node-fit n (omega arith))

  pub same-fit : nodes_fit v v.nodes ≡ true
  same-fit = nodes-fit v.nodes (omega arith)

-- ---- on the cells

module _ (e : ℕ) (known : known_edition e ≡ true) (t : Table) (cs : List ℕ) (k : Holds (sizes_of e) (coding_of e) t cs) where
  pub nodes-held : nodes_of cs ≡ subgoal_trie (view_of (sizes_of e) cs k.head)
  unfolding nodes_under
  nodes-held =
      let a = header-any e known cs k.head k.sound in
      rw a.0 (ap (λ (i : ℕ). subgoal_trie (view_of (sizes_of i) cs k.head)) a.1)

  pub build-held : (index : List ℕ) → Buildable cs index
  unfolding build_index build_under nodes_under
  build-held index =
      let a = header-any e known cs k.head k.sound in
      let fit : nodes_fit (view_of (sizes_of k.head.edition) cs k.head) k.head.nodes ≡ true =
      subst (λ (i : ℕ). nodes_fit (view_of (sizes_of i) cs k.head) k.head.nodes ≡ true) (sym a.1) (same-fit (coding_of e) (coding-laws e) t (view_of (sizes_of e) cs k.head) k.same) in
      rw (a.0, fit)

  -- the children that a build on these nodes enters
  abbrev Found : Trie → List ℕ → Type 0
  Found u index = (x : ℕ) → x < u.nodes → enters u x ≡ true → lookup u (build_on u index).index (u.at x).parent (u.at x).token ≡ x

  -- a build that was not refused had room
  had-room : (u : Trie) (index : List ℕ) (n : ℕ) → (build_on u index).reply ≡ built n → roomy u (length index) ≡ true
  unfolding build_on
  had-room u index n b = by_cases (roomy u (length index))
      (λ r. r)
      (λ r. let f : refused 17 ≡ built n = rw r at b in let z : ◌≡◌ {A = ℕ} 0 1 = cc in absurd (omega arith))

  pub found-held : (index : List ℕ) → FoundAgain cs index
  found-held index n b =
      let is = build-held index in
      let r : roomy (nodes_of cs) (length index) ≡ true = had-room (nodes_of cs) index n (ap (λ (y : Build). y.reply) (sym is) ∙ b) in
      let all : roomy (nodes_of cs) (length index) ≡ true → Found (nodes_of cs) index =
      subst (λ (u : Trie). roomy u (length index) ≡ true → Found u index) (sym nodes-held)
      (same-built (coding_of e) (coding-laws e) t (view_of (sizes_of e) cs k.head) k.same index) in
      λ x h m. rw is (all r x h m)

-- ---- on the cells that calls leave of a fresh space

pub build-answers : BuildAnswers
build-answers e n f a s qs d index =
    let k = fresh_in e n f a s d in
    rw k.2 (build-held e k.0 (left (step (coding_of e)) (fresh n f a) qs) (left space_step (fresh_space (sizes_of e) n f a s) qs) (calls-held e n f a s qs k.0 k.1) index)

pub build-finds : BuildFinds
build-finds e n f a s qs d index =
    let k = fresh_in e n f a s d in
    rw k.2 (found-held e k.0 (left (step (coding_of e)) (fresh n f a) qs) (left space_step (fresh_space (sizes_of e) n f a s) qs) (calls-held e n f a s qs k.0 k.1) index)

-- ---- refused

refused-under : (cs index : List ℕ) (r : ℕ) (x : Header) → (build_under cs index x).reply ≡ refused r → (build_under cs index x).index ≡ index
unfolding build_under build_on
refused-under cs index r (Err n) e = refl
refused-under cs index r (Ok h) e =
    let v : View = view_of (sizes_of h.edition) cs h in
    by_cases (nodes_fit v v.nodes)
    (λ f. by_cases (roomy (subgoal_trie v) (length index))
    (λ m. let g : built (length (entering (subgoal_trie v) v.nodes)) ≡ refused r = rw (f, m) at e in let z : ◌≡◌ {A = ℕ} 0 1 = cc in absurd (omega arith))
    (λ m. rw (f, m)))
    (λ f. rw f)

pub build-refused : BuildRefused
unfolding build_index
build-refused cs index r e = refused-under cs index r (space_header cs) e
