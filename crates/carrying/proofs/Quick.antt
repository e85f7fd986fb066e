-- Every node of a space that passes is on the path of a form, so what holds of all forms' tokens holds of all nodes'.
use Rattle.space.specs.Heading.{Header}
use Rattle.std.specs.Prelude.{Ok}
use Prim.Native.Nat.{ℕ, zero, suc, ◌≤◌, ◌<◌}
use mathlib.Core.Path.{◌≡◌, refl, sym, ap, ◌∙◌, subst}
use mathlib.Core.Bool.{true, true≢false, false≢true}
use mathlib.Core.List.{List, [], ◌∷◌, ◌++◌}
use native.Mathlib.Omega.{arith}
use lib.Dec.{eqb, ltb}
use lib.ListN.{length, get_or, length-map, get_or-map}
use borrow.Author.Tests.{eqb-true, eqb-false, ltb-true, ltb-false}
use Rattle.basis.specs.Editions.{known_edition}
use Rattle.basis.proofs.Cases.{by_cases}
use Rattle.forms.specs.Cells.{arity_of}
use Rattle.forms.specs.Stored.{stores_pairs}
use Rattle.plain.specs.Words.{Word, has}
use Rattle.plain.specs.Coding.{Coding, coding_of}
use Rattle.plain.specs.CodingLaws.{CodingLaws}
use Rattle.plain.specs.Table.{Table, Subgoal, Answer, no_subgoal, no_answer, subgoal_at, answer_at, subgoal_of_answer, called_forms, answers_to}
use Rattle.plain.proofs.StoredCoding.{coding-laws}
use Rattle.plain.proofs.Entries.{under, begins-under}
use Rattle.plain.proofs.Keys.{key, has-place, place-has}
use Rattle.plain.proofs.PrefixLaws.{begins, has-prefixes, begins-witness}
use Rattle.plain.proofs.StoredForms.{starts-rest}
use Rattle.space.specs.Layout.{sizes_of}
use Rattle.space.specs.Heading.{header_of}
use Rattle.space.specs.Fresh.{fresh_answer_in}
use Rattle.space.specs.declared.Head.{Head}
use Rattle.space.proofs.JudgingLaws.{node-bounds}
use Rattle.trie.specs.Siblings.{Trie, sound}
use Rattle.trie.specs.Paths.{Path, none, tokens, below, gather, longest}
use Rattle.trie.proofs.PathLaws.{gather-unsound, gather-root, gather-other, gather-deep, gather-up}
use Rattle.store.specs.Views.{View, view_of}
use Rattle.agreement.specs.Whole.{table_of, edition_of}
use Rattle.agreement.proofs.TrieNodes.{par, Kind, is_root, is_child}
use Rattle.agreement.proofs.TrieWalks.{key-some}
use Rattle.agreement.proofs.SameRecords.{Same, nodes-count, gather-subgoal, gather-answer}
use Rattle.agreement.proofs.Theorem.{header-any}
use Rattle.agreement.proofs.WholeSpaces.{space-holds, whole-known}
use Rattle.agreement.proofs.WholeTests.{and-of, every-below, below-every}
use Rattle.carrying.specs.Recoding.{Recoding, takes_word}
use Rattle.carrying.specs.Carrying.{answer_forms, takes_words, takes_table, holdable, carrying}
use Rattle.carrying.specs.Copying.{where_fresh}
use Rattle.carrying.specs.Quick.{takes_nodes, quick_reply, CopyQuick}
use Rattle.carrying.proofs.RecodingLaws.{Recodes, both}
use Rattle.carrying.proofs.CarriedLaws.{carried-subgoals, carried-answers, takes_at}
use Rattle.carrying.proofs.NodeCounts.{answers-taken, nodes-carried}
use Rattle.carrying.proofs.Theorems.{copies, space-edition}

-- ---- words

module _ (r : Recoding) where
  takes-split : (u w : Word) → takes_word r (u ++ w) ≡ true → (takes_word r u ≡ true) × (takes_word r w ≡ true)
  unfolding takes_word
  takes-split [] w e = (refl, e)
  takes-split (x ∷ u) w e =
      let p = both (r.takes x) (takes_word r (u ++ w)) e in
      let q = takes-split u w p.1 in
      (rw p.0 q.0, q.1)

  takes-join : (u w : Word) → takes_word r u ≡ true → takes_word r w ≡ true → takes_word r (u ++ w) ≡ true
  unfolding takes_word
  takes-join [] w d e = e
  takes-join (x ∷ u) w d e = let p = both (r.takes x) (takes_word r u) d in rw p.0 (takes-join u w p.1 e)

  takes-last : (u : Word) (x : ℕ) → takes_word r (u ++ (x ∷ [])) ≡ true → r.takes x ≡ true
  unfolding takes_word
  takes-last u x e = (both (r.takes x) true (takes-split u (x ∷ []) e).1).0

  takes_one : (x : ℕ) → r.takes x ≡ true → takes_word r (x ∷ []) ≡ true
  unfolding takes_word
  takes_one x e = rw e

  takes-held : (ws : List Word) (w : Word) → takes_words r ws ≡ true → has ws w ≡ true → takes_word r w ≡ true
  takes-held ws w d e = let p = has-place ws w e in subst (λ (x : Word). takes_word r x ≡ true) p.2 (takes_at r ws d p.0)

  takes-each : (ws : List Word) → ((i : ℕ) → i < length ws → takes_word r (get_or ws i []) ≡ true) → takes_words r ws ≡ true
  unfolding takes_words
  takes-each [] h = refl
  takes-each (w ∷ ws) h = rw (h 0 (omega arith)) (takes-each ws (λ i k. h (suc i) (omega arith)))

-- ---- a path has the tokens of its nodes

none-not : {us : List ℕ} → none ≡ tokens us → ⊥
none-not e = let z : ◌≡◌ {A = ℕ} 0 1 = cc in omega arith

tokens-same : (u w : Word) → tokens u ≡ tokens w → u ≡ w
tokens-same u w e = cc

module _ (r : Recoding) (t : Trie) (all : (i : ℕ) → i < t.nodes → r.takes (t.at i).token ≡ true) where
  below-takes : (p : Path) (x : ℕ) (w : Word) → below p x ≡ tokens w → ((u : Word) → p ≡ tokens u → takes_word r u ≡ true) → r.takes x ≡ true → takes_word r w ≡ true
  below-takes none x w e f g = absurd (none-not e)
  below-takes (tokens u) x w e f g = subst (λ (y : Word). takes_word r y ≡ true) (tokens-same _ _ e) (takes-join r u (x ∷ []) (f u refl) (takes_one r x g))

  step-takes : (most root n : ℕ) (w : Word) → n < t.nodes
      → ((sound t n ≡ true) → ((t.at n).parent ≡ n → ⊥) → gather most t root n ≡ tokens w → takes_word r w ≡ true)
      → gather most t root n ≡ tokens w → takes_word r w ≡ true
  step-takes most root n w h up e =
      by_cases (sound t n) (λ j.
      by_cases (eqb (t.at n).parent n) (λ p.
      by_cases (eqb n root)
      (λ q. subst (λ (y : Word). takes_word r y ≡ true) (tokens-same _ _ (sym (gather-root t root n j most (eqb-true _ _ p) (eqb-true _ _ q)) ∙ e)) (unfold takes_word in refl))
      (λ q. absurd (none-not (sym (gather-other t root n j most (eqb-true _ _ p) (eqb-false _ _ q)) ∙ e))))
      (λ p. up j (eqb-false _ _ p) e))
      (λ j. absurd (none-not (sym (gather-unsound t root n most j) ∙ e)))

  path-takes : (most root n : ℕ) (w : Word) → n < t.nodes → gather most t root n ≡ tokens w → takes_word r w ≡ true
  path-takes zero root n w h = step-takes zero root n w h (λ j p e. absurd (none-not (sym (gather-deep t root n j p) ∙ e)))
  path-takes (suc most) root n w h = step-takes (suc most) root n w h (λ j p e.
      let b = node-bounds t.nodes t.links n (t.at n) j in
      below-takes (gather most t root (t.at n).parent) (t.at n).token w (sym (gather-up t root n j p most) ∙ e)
      (λ u f. path-takes most root (t.at n).parent u (omega (arith, b.parent-most)) f) (all n h))

-- ---- the nodes of a table

module _ (r : Recoding) (root-taken : r.takes 0 ≡ true) (c : Coding) (laws : CodingLaws c) (t : Table) (v : View) (S : Same c t v) where
  abbrev K : List Word
  K = S.K

  -- from nodes to forms

  module _ (all : takes_nodes r v ≡ true) where
    each : (i : ℕ) → i < v.nodes → r.takes (v.node i).token ≡ true
    unfolding takes_nodes
    each = every-below (λ i. r.takes (v.node i).token) v.nodes all

    form-taken : (i : ℕ) → i < length (called_forms t.subgoals) → takes_word r (get_or (called_forms t.subgoals) i []) ≡ true
    unfolding subgoal_at no_subgoal
    form-taken i h =
        let k : suc i ≤ length t.subgoals = omega (arith, length-map t.subgoals (λ (g : Subgoal). g.form)) in
        let o = S.subgoal (suc i) (omega arith) k in
        rw (get_or-map (λ (g : Subgoal). g.form) t.subgoals i no_subgoal)
        (path-takes r (record { at = v.node; nodes = v.nodes; links = v.subgoals }) each longest 0 (v.subgoal (suc i)).leaf (subgoal_at t (suc i)).form o.leaf-in
        (gather-subgoal c laws t v S (suc i) (omega arith) k))

    answer-taken : (i : ℕ) → i < length (answer_forms t.answers) → takes_word r (get_or (answer_forms t.answers) i []) ≡ true
    unfolding answer_at no_answer
    answer-taken i h =
        let k : suc i ≤ length t.answers = omega (arith, length-map t.answers (λ (g : Answer). g.form)) in
        let o = S.answer (suc i) (omega arith) k in
        rw (get_or-map (λ (g : Answer). g.form) t.answers i no_answer)
        (path-takes r (record { at = v.node; nodes = v.nodes; links = v.answers }) each longest (v.subgoal (subgoal_of_answer t (suc i))).root (v.answer (suc i)).leaf (answer_at t (suc i)).form o.leaf-in
        (gather-answer c laws t v S (suc i) (omega arith) k))

    nodes-table : takes_table r t ≡ true
    unfolding takes_table
    nodes-table = and-of (takes-each r (called_forms t.subgoals) form-taken) (takes-each r (answer_forms t.answers) answer-taken)

  -- from forms to nodes

  module _ (all : takes_table r t ≡ true) where
    forms-all : (takes_words r (called_forms t.subgoals) ≡ true) × (takes_words r (answer_forms t.answers) ≡ true)
    unfolding takes_table
    forms-all = both (takes_words r (called_forms t.subgoals)) (takes_words r (answer_forms t.answers)) all

    -- with the empty word, for a root
    with_root : (ws : List Word) → takes_words r ws ≡ true → takes_words r ([] ∷ ws) ≡ true
    unfolding takes_words takes_word
    with_root ws e = e

    under-taken : (s : ℕ) (w : Word) → has (under s S.es) w ≡ true → takes_word r w ≡ true
    under-taken zero w h =
        takes-held r ([] ∷ called_forms t.subgoals) w (with_root _ forms-all.0) (subst (λ (ws : List Word). has ws w ≡ true) S.forest.calls h)
    under-taken (suc s) w h = by_cases (ltb (length t.subgoals) (suc s))
        (λ q. let e : has [] w ≡ true = subst (λ (ws : List Word). has ws w ≡ true) (S.forest.unused (suc s) (ltb-true _ _ q)) h in absurd (none-held w e))
        (λ q. takes-held r ([] ∷ answers_to t.answers (suc s)) w
        (with_root _ (answers-held (suc s))) (subst (λ (ws : List Word). has ws w ≡ true) (S.forest.replies (suc s) (omega arith) (ltb-false _ _ q)) h))
      where
        none-held : (w : Word) → has [] w ≡ true → ⊥
        none-held w e = unfold has in false≢true e

        answers-held : (s : ℕ) → takes_words r (answers_to t.answers s) ≡ true
        answers-held s = answers-taken r t.answers s forms-all.1

    key-taken : (i s : ℕ) (u : Word) → i < v.nodes → key K i ≡ s ∷ u → takes_word r u ≡ true
    key-taken i s u h e =
        let k : i < length K = omega (arith, S.tries.keys) in
        let b : begins (under s S.es) u ≡ true = sym (begins-under s S.es u) ∙ sym (has-prefixes S.es s u) ∙ sym (S.numbering.members (s ∷ u)) ∙ place-has K (s ∷ u) i k e in
        let p = begins-witness (under s S.es) u b in
        let q = starts-rest u p.0 p.2 in
        (takes-split r u q.0 (subst (λ (x : Word). takes_word r x ≡ true) q.1 (under-taken s p.0 p.1))).0

    node-taken : (i : ℕ) → i < v.nodes → r.takes (v.node i).token ≡ true
    node-taken i h = go (S.tries.kind i h)
      where
        child : (y : Word) → par v.node i < i → key K i ≡ y ++ ((v.node i).token ∷ []) → key K (par v.node i) ≡ y → r.takes (v.node i).token ≡ true
        child [] l k e = absurd (key-some K v.node v.nodes S.tries S.numbering.different (par v.node i) (omega arith) e)
        child (s ∷ u) l k e = takes-last r u (v.node i).token (key-taken i s (u ++ ((v.node i).token ∷ [])) h k)

        go : Kind K v.node i → r.takes (v.node i).token ≡ true
        go (is_root s p q k) = rw q root-taken
        go (is_child p k) = child (key K (par v.node i)) p k refl

    table-nodes : takes_nodes r v ≡ true
    unfolding takes_nodes
    table-nodes = below-every (λ i. r.takes (v.node i).token) v.nodes node-taken

  pub takes_same : takes_nodes r v ≡ takes_table r t
  takes_same = by_cases (takes_table r t)
      (λ e. table-nodes e ∙ sym e)
      (λ e. by_cases (takes_nodes r v) (λ q. absurd (true≢false (sym (nodes-table q) ∙ e))) (λ q. q ∙ sym e))

module _ (e d : ℕ) (r : Recoding) (R : Recodes r (arity_of e) (arity_of d)) (alike : stores_pairs e ≡ stores_pairs d) where
  quick-same : (n f a : ℕ) (t : Table) (v : View) → Same (coding_of e) t v → carrying r n f a t ≡ quick_reply r n f a v
  unfolding carrying quick_reply holdable
  quick-same n f a t v S =
      let k : takes_nodes r v ≡ takes_table r t = takes_same r R.roots (coding_of e) (coding-laws e) t v S in
      by_cases (takes_table r t)
      (λ q. rw (k, q, nodes-carried r (arity_of e) (arity_of d) R n f a t q, carried-subgoals r n f a t, carried-answers r n f a t, nodes-count (coding_of e) (coding-laws e) t v S, S.subgoals, S.answers))
      (λ q. rw (k, q))

  pub copy-quick : CopyQuick e d r
  copy-quick n f a source target h w s q =
      let is : edition_of source ≡ e = space-edition source h s ∙ q in
      let k = whole-known source w in
      let known-e = subst (λ (x : ℕ). known_edition x ≡ true) is k.0 in
      let sound-e : header_of (sizes_of e) source ≡ Ok k.1.0 = subst (λ (x : ℕ). header_of (sizes_of x) source ≡ Ok k.1.0) is k.1.1 in
      let any = header-any e known-e source k.1.0 sound-e in
      let held = space-holds e known-e source k.1.0 sound-e w in
      let same : held.head ≡ h = header-same _ _ (sym held.sound ∙ sound-e ∙ sym any.0 ∙ s) in
      let S : Same (coding_of e) (table_of source) (view_of (sizes_of e) source h) = subst (λ (y : Head). Same (coding_of e) (table_of source) (view_of (sizes_of e) source y)) same held.same in
      (copies e d r R alike).answers n f a source target w is ∙ ap (where_fresh (fresh_answer_in d n f a target)) (quick-same n f a (table_of source) (view_of (sizes_of e) source h) S)
    where
      header-same : (x y : Head) → ◌≡◌ {A = Header} (Ok x) (Ok y) → x ≡ y
      header-same x y e = cc
