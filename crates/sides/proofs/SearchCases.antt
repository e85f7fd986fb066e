-- A law for each case of the search of a form, and of what two forms share.
use Rattle.std.specs.Prelude.{None, Some}
use Prim.Native.Nat.{ℕ, suc, ◌+◌, ◌<◌, ◌≤◌}
use mathlib.Core.Path.{◌≡◌, refl, ap, ◌∙◌}
use mathlib.Core.Bool.{Bool, true, false}
use mathlib.Core.List.{List, ◌∷◌}
use native.Mathlib.Omega.{arith}
use lib.Dec.{eqb, ltb}
use lib.ListN.{length, get_or, drop, drop_of_length-le}
use lib.Seq.{drop-cons}
use native.Mathlib.Numerals.{add-one}
use borrow.Author.Tests.{eq-eqb, ne_eqb, ltb-true, ltb-false}
use Rattle.basis.proofs.Cases.{by_cases}
use Rattle.basis.proofs.Tests.{at_most}
use Rattle.basis.specs.Choice.{pick}
use Rattle.plain.specs.Words.{Word, common}
use Rattle.space.specs.Layout.{sizes, node_in}
use Rattle.space.specs.declared.Head.{Head}
use Rattle.space.specs.declared.Node.{Node}
use Rattle.space.specs.declared.Answer.{Answer}
use Rattle.space.proofs.JudgingLaws.{read-answer-sound}
use Rattle.trie.specs.Siblings.{trie_in}
use Rattle.trie.specs.Walks.{Finding, walk_by, shown}
use Rattle.trie.specs.declared.Walked.{Walked}
use Rattle.trie.specs.declared.Walked.TheVariants as walked
use Rattle.store.specs.Views.{View}
use Rattle.store.specs.Clauses.{view_in}
use Rattle.store.specs.Decisions.{met_sound, lacking, missing}
use Rattle.store.proofs.CallsWalks.{shown-whole, shown-stopped, shown-damaged}
use Rattle.store.proofs.CallsRecords.{reads-answer, read-answer-damaged}
use Rattle.sides.specs.Searches.{whole_sound, Searched}

-- ---- a form found whole

module _ (v : View) (n leaf a : ℕ) where
  pub whole-unlinked : a ≡ 0 → eqb n 0 ≡ whole_sound v n leaf a
  unfolding whole_sound
  whole-unlinked z = simp (eq-eqb _ _ z)

  module _ (z : a ≡ 0 → ⊥) where
    pub whole-damaged : None ≡ reads-answer v a → false ≡ whole_sound v n leaf a
    unfolding whole_sound
    whole-damaged e = simp (ne_eqb _ _ z, read-answer-damaged _ _ _ _ _ e)

    pub whole-linked : (y : Answer) → Some y ≡ reads-answer v a → eqb y.leaf leaf ≡ whole_sound v n leaf a
    unfolding whole_sound
    whole-linked y e =
        let r = read-answer-sound v.nodes v.subgoals v.answers v.answer a e in
        ap (λ (x : Answer). eqb x.leaf leaf) r.0 ∙ simp (ne_eqb _ _ z, r.1)

-- ---- the search

-- what a walk tells, by the code's answer
module _ (find : Finding) (cs : List ℕ) (h : Head) (root : ℕ) (w : Word) where
  abbrev Shows : Walked → Type 0
  Shows r = r ≡ shown (walk_by find (trie_in sizes cs h.nodes h.answers) root w)

  pub searched-whole : (leaf : ℕ) (y : Node) (b : Bool) → Shows (walked.Whole leaf) → y ≡ node_in sizes cs leaf
      → b ≡ whole_sound (view_in cs h) (length w) leaf y.link
      → Searched find cs h root w (record { sound = b; lacking = eqb y.link 0; missing = 0 })
  unfolding met_sound lacking missing whole_sound
  searched-whole leaf y b e n s =
      rw (shown-whole (walk_by find (trie_in sizes cs h.nodes h.answers) root w) leaf e) (
        s ∙ ap (λ (x : Node). whole_sound (view_in cs h) (length w) leaf x.link) n,
        ap (λ (x : Node). eqb x.link 0) n,
        refl,
      )

  pub searched-stopped : (parent last k : ℕ) → Shows (walked.Stopped parent last k)
      → Searched find cs h root w (record { sound = true; lacking = true; missing = k })
  unfolding met_sound lacking missing
  searched-stopped parent last k e =
      let f = shown-stopped (walk_by find (trie_in sizes cs h.nodes h.answers) root w) parent last k e in
      rw f.1.0 (refl, refl, f.1.1)

  pub searched-damaged : Shows walked.Damaged → Searched find cs h root w (record { sound = false; lacking = true; missing = 0 })
  unfolding met_sound lacking missing
  searched-damaged e = rw (shown-damaged (walk_by find (trie_in sizes cs h.nodes h.answers) root w) e) (refl, refl, refl)

-- ---- what two forms share

drop-next : (xs : List ℕ) (i : ℕ) → i < length xs → drop i xs ≡ get_or xs i 0 ∷ drop (i + 1) xs
drop-next xs i h = rw add-one (drop-cons xs i 0 h)

module _ (xs ys : List ℕ) (i : ℕ) where
  module _ (e : i + common (drop i xs) (drop i ys) ≡ common xs ys) where
    common-first : length xs ≤ i → i ≡ common xs ys
    unfolding common
    common-first l =
        let f : common (drop i xs) (drop i ys) ≡ 0 = ap (λ (u : List ℕ). common u (drop i ys)) (drop_of_length-le xs {i = i} l) in
        omega arith

    module _ (h : i < length xs) where
      common-second : length ys ≤ i → i ≡ common xs ys
      unfolding common
      common-second l =
          let f : common (drop i xs) (drop i ys) ≡ 0 =
          ap (λ (u : List ℕ). common u (drop i ys)) (drop-next xs i h) ∙ ap (common (get_or xs i 0 ∷ drop (i + 1) xs)) (drop_of_length-le ys {i = i} l) in
          omega arith

      module _ (k : i < length ys) where
        both : common (drop i xs) (drop i ys) ≡ pick (eqb (get_or xs i 0) (get_or ys i 0)) (suc (common (drop (i + 1) xs) (drop (i + 1) ys))) 0
        unfolding common
        both = ap (λ (u : List ℕ). common u (drop i ys)) (drop-next xs i h) ∙ ap (common (get_or xs i 0 ∷ drop (i + 1) xs)) (drop-next ys i k)

        pub common-other : (get_or xs i 0 ≡ get_or ys i 0 → ⊥) → i ≡ common xs ys
        common-other o = let f : common (drop i xs) (drop i ys) ≡ 0 = both ∙ simp (ne_eqb _ _ o) in omega arith

        pub common-next : get_or xs i 0 ≡ get_or ys i 0 → i + 1 + common (drop (i + 1) xs) (drop (i + 1) ys) ≡ common xs ys
        common-next o =
            let f : common (drop i xs) (drop i ys) ≡ suc (common (drop (i + 1) xs) (drop (i + 1) ys)) = both ∙ simp (eq-eqb _ _ o) in
            omega arith

    pub common-ended : (i < length xs → i < length ys → ⊥) → i ≡ common xs ys
    common-ended o = by_cases (ltb i (length xs))
        (λ t. common-second (ltb-true _ _ t) (at_most _ _ (o (ltb-true _ _ t))))
        (λ t. common-first (ltb-false _ _ t))
