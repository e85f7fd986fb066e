-- A law for each case of loading a record.
use Rattle.std.specs.Prelude.{None, Some}
use Prim.Native.Nat.{ℕ, ◌+◌, ◌≤◌, ◌<◌}
use mathlib.Core.Path.{◌≡◌, refl, sym, ap, ◌∙◌, subst}
use mathlib.Core.Bool.{true, false, ◌&&◌}
use mathlib.Core.List.{List, []}
use native.Mathlib.Omega.{arith}
use native.Mathlib.Numerals.{add-one}
use lib.Dec.{eqb, ltb}
use lib.ListN.{length}
use borrow.Author.Tests.{eqb-true, eqb-false, eq-eqb, ne_eqb, lt-ltb}
use Rattle.basis.proofs.Cases.{by_cases}
use Rattle.forms.specs.Stored.{stored_of}
use Rattle.forms.specs.Numbering.{met}
use Rattle.plain.specs.Coding.{coding_of}
use Rattle.space.specs.Judging.{subgoal_sound, answer_sound}
use Rattle.space.specs.Sound.{Bounds}
use Rattle.space.specs.declared.Head.{Head}
use Rattle.space.specs.declared.Subgoal.{Subgoal}
use Rattle.space.specs.declared.Answer.{Answer}
use Rattle.space.proofs.JudgingLaws.{subgoal-bounds, answer-bounds, read-subgoal-sound, read-answer-sound}
use Rattle.trie.specs.Paths.{Path, none, tokens, gather, longest}
use Rattle.store.specs.Views.{View, subgoal_trie, answer_trie}
use Rattle.store.specs.Clauses.{view_in}
use Rattle.store.proofs.CallsRecords.{reads-subgoal, reads-answer, read-subgoal-damaged, read-answer-damaged}
use Rattle.path_terms.specs.AlongPaths.{worth}
use Rattle.agreement.specs.Whole.{path_passes, subgoal_path, answer_path}
use Rattle.carrying.specs.Copying.{subgoal_loads, answer_loads}
use Rattle.sources.specs.declared.Kind.TheVariants as kind
use Rattle.sources.specs.declared.Records.{Records}
use Rattle.sources.specs.Records.{count_of, loads_at}

-- ---- a path

module _ (edition : ℕ) where
  -- one legal term of k variables
  pub worth-counted : (p : Path) (n k : ℕ) → n ≡ worth edition 1 false p → eqb n (k + 1) ≡ path_passes p (λ w. (coding_of edition).legal 1 w && eqb (length (met [] w)) k)
  worth-counted none n k e = ne_eqb n (k + 1) (λ z. omega arith)
  worth-counted (tokens w) n k e = by_cases ((stored_of edition).legal 1 w)
      (λ l. let d : n ≡ length (met [] w) + 1 = rw l at e in
      by_cases (eqb (length (met [] w)) k)
      (λ q. let z : length (met [] w) ≡ k = eqb-true _ _ q in rw (l, q) (eq-eqb n (k + 1) (omega arith)))
      (λ q. let z : length (met [] w) ≡ k → ⊥ = eqb-false _ _ q in rw (l, q) (ne_eqb n (k + 1) (λ y. z (omega arith)))))
      (λ l. let d : n ≡ 0 = rw l at e in rw l (ne_eqb n (k + 1) (λ z. omega arith)))

  -- m legal terms
  pub worth-legal : (p : Path) (n m : ℕ) → n ≡ worth edition m false p → ltb 0 n ≡ path_passes p (λ w. (coding_of edition).legal m w)
  worth-legal none n m e = rw e refl
  worth-legal (tokens w) n m e = by_cases ((stored_of edition).legal m w)
      (λ l. let d : n ≡ length (met [] w) + 1 = rw l at e in rw (l, lt-ltb 0 n (omega arith)) refl)
      (λ l. let d : n ≡ 0 = rw l at e in rw (l, d) refl)

-- ---- a subgoal

module _ (cs : List ℕ) (h : Head) (s : ℕ) where
  abbrev view : View
  view = view_in cs h

  pub subgoal-damaged : None ≡ reads-subgoal (view_in cs h) s → false ≡ subgoal_loads (coding_of h.edition) (view_in cs h) s
  unfolding subgoal_loads
  subgoal-damaged e = rw (read-subgoal-damaged h.nodes h.answers (view_in cs h).subgoal s e) refl

  module _ (g : Subgoal) (e : Some g ≡ reads-subgoal (view_in cs h) s) where
    pub subgoal-is : (g ≡ (view_in cs h).subgoal s) × (subgoal_sound h.nodes h.answers ((view_in cs h).subgoal s) ≡ true)
    subgoal-is = read-subgoal-sound h.nodes h.answers (view_in cs h).subgoal s e

    pub subgoal-within : (g.leaf < h.nodes) × (g.variables ≤ 32)
    subgoal-within =
        let b = subgoal-bounds h.nodes h.answers ((view_in cs h).subgoal s) subgoal-is.1 in
        (subst (λ (y : Subgoal). y.leaf < h.nodes) (sym subgoal-is.0) b.leaf-below, subst (λ (y : Subgoal). y.variables ≤ 32) (sym subgoal-is.0) b.variables-most)

    pub subgoal-formed : (n : ℕ) → n ≡ worth h.edition 1 false (gather longest (subgoal_trie (view_in cs h)) 0 g.leaf)
        → eqb n (g.variables + 1) ≡ subgoal_loads (coding_of h.edition) (view_in cs h) s
    unfolding subgoal_loads
    subgoal-formed n q =
        let k : n ≡ worth h.edition 1 false (subgoal_path (view_in cs h) s) = q ∙ ap (λ (y : Subgoal). worth h.edition 1 false (gather longest (subgoal_trie view) 0 y.leaf)) subgoal-is.0 in
        rw subgoal-is.1 (ap (λ (y : Subgoal). eqb n (y.variables + 1)) subgoal-is.0 ∙ worth-counted h.edition (subgoal_path view s) n (view.subgoal s).variables k)

-- ---- an answer

module _ (cs : List ℕ) (h : Head) (a : ℕ) where
  pub answer-damaged : None ≡ reads-answer (view_in cs h) a → false ≡ answer_loads (coding_of h.edition) (view_in cs h) a
  unfolding answer_loads
  answer-damaged e = rw (read-answer-damaged h.nodes h.subgoals h.answers (view_in cs h).answer a e) refl

  module _ (y : Answer) (e : Some y ≡ reads-answer (view_in cs h) a) where
    answer-is : (y ≡ (view_in cs h).answer a) × (answer_sound h.nodes h.subgoals h.answers a ((view_in cs h).answer a) ≡ true)
    answer-is = read-answer-sound h.nodes h.subgoals h.answers (view_in cs h).answer a e

    pub answer-within : (1 ≤ y.subgoal) × (y.subgoal ≤ h.subgoals) × (y.leaf < h.nodes)
    answer-within =
        let b = answer-bounds h.nodes h.subgoals h.answers a ((view_in cs h).answer a) answer-is.1 in
        subst (λ (x : Answer). (1 ≤ x.subgoal) × (x.subgoal ≤ h.subgoals) × (x.leaf < h.nodes)) (sym answer-is.0) (b.subgoal-some, b.subgoal-most, b.leaf-below)

    pub owner-damaged : None ≡ reads-subgoal (view_in cs h) y.subgoal → false ≡ answer_loads (coding_of h.edition) (view_in cs h) a
    unfolding answer_loads
    owner-damaged q =
        let d : subgoal_sound h.nodes h.answers ((view_in cs h).subgoal ((view_in cs h).answer a).subgoal) ≡ false =
        ap (λ (x : Answer). subgoal_sound h.nodes h.answers ((view_in cs h).subgoal x.subgoal)) (sym answer-is.0) ∙ read-subgoal-damaged h.nodes h.answers
        (view_in cs h).subgoal y.subgoal q in
        rw (answer-is.1, d) refl

    module _ (g : Subgoal) (q : Some g ≡ reads-subgoal (view_in cs h) y.subgoal) where
      owner-is : (g ≡ (view_in cs h).subgoal ((view_in cs h).answer a).subgoal) × (subgoal_sound h.nodes h.answers ((view_in cs h).subgoal ((view_in cs h).answer a).subgoal) ≡ true)
      owner-is = subst (λ (x : Answer). (g ≡ (view_in cs h).subgoal x.subgoal) × (subgoal_sound h.nodes h.answers ((view_in cs h).subgoal x.subgoal) ≡ true)) answer-is.0
          (subgoal-is cs h y.subgoal g q)

      pub answer-formed : (n : ℕ) → n ≡ worth h.edition g.variables false (gather longest (answer_trie (view_in cs h)) g.root y.leaf)
          → ltb 0 n ≡ answer_loads (coding_of h.edition) (view_in cs h) a
      unfolding answer_loads
      answer-formed n k =
          let v : View = view_in cs h in
          let j : n ≡ worth h.edition ((view_in cs h).subgoal ((view_in cs h).answer a).subgoal).variables false (answer_path (view_in cs h) a) =
          k ∙ ap (λ (x : Subgoal). worth h.edition x.variables false (gather longest (answer_trie (view_in cs h)) x.root y.leaf)) owner-is.0
          ∙ ap (λ (x : Answer). worth h.edition ((view_in cs h).subgoal ((view_in cs h).answer a).subgoal).variables false
          (gather longest (answer_trie (view_in cs h)) ((view_in cs h).subgoal ((view_in cs h).answer a).subgoal).root x.leaf)) answer-is.0 in
          rw (answer-is.1, owner-is.1) (worth-legal h.edition (answer_path (view_in cs h) a) n ((view_in cs h).subgoal ((view_in cs h).answer a).subgoal).variables j)

-- ---- either

module _ (x : Records) where
  pub count-answers : x.kind ≡ kind.Answers → x.h.answers ≡ count_of x
  unfolding count_of
  count-answers e = rw e refl

  pub count-subgoals : x.kind ≡ kind.Subgoals → x.h.subgoals ≡ count_of x
  unfolding count_of
  count-subgoals e = rw e refl

module _ (cs : List ℕ) (x : Records) (i : ℕ) where
  pub answer-loads : x.kind ≡ kind.Answers → answer_loads (coding_of x.h.edition) (view_in cs x.h) (i + 1) ≡ loads_at cs x i
  unfolding loads_at
  answer-loads e = rw (e, add-one) refl

  pub subgoal-loads : x.kind ≡ kind.Subgoals → subgoal_loads (coding_of x.h.edition) (view_in cs x.h) (i + 1) ≡ loads_at cs x i
  unfolding loads_at
  subgoal-loads e = rw (e, add-one) refl

  -- the number of the record is one that is used
  pub answer-used : Bounds cs x.h × (i < count_of x) → x.kind ≡ kind.Answers → (i + 1 ≤ x.h.answers)
  answer-used b e = omega (arith, b.1, count-answers x e)

  pub subgoal-used : Bounds cs x.h × (i < count_of x) → x.kind ≡ kind.Subgoals → (i + 1 ≤ x.h.subgoals)
  subgoal-used b e = omega (arith, b.1, count-subgoals x e)
