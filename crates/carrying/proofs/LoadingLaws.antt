-- What loads of a source is stored, and a source that holds a table loads.
use Prim.Native.Nat.{ℕ, zero, suc, ◌≤◌, ◌<◌}
use mathlib.Core.Path.{◌≡◌, refl, sym, ap, ◌∙◌}
use mathlib.Core.Bool.{Bool, true, false, ◌&&◌, not, true≢false, false≢true}
use mathlib.Core.List.{List, [], ◌∷◌, head-eq_of_cons-eq, tail-eq_of_cons-eq}
use native.Mathlib.Omega.{arith}
use native.Mathlib.Nat.{le_of_suc-le-suc}
use lib.Dec.{eqb}
use lib.ListN.{length, get_or, length-map, get_or-map}
use borrow.Author.Tests.{eqb-true, eq-eqb}
use Rattle.basis.proofs.Cases.{by_cases}
use Rattle.forms.specs.Numbering.{met}
use Rattle.plain.specs.Words.{Word, has}
use Rattle.plain.specs.Coding.{Coding}
use Rattle.plain.specs.CodingLaws.{CodingLaws}
use Rattle.plain.specs.Table.{Table, Subgoal, Answer, no_subgoal, no_answer, subgoal_at, answer_at, subgoal_of_answer, called_forms}
use Rattle.plain.proofs.Keys.{has-place, place-has}
use Rattle.plain.proofs.Soundness.{Fit}
use Rattle.plain.proofs.StoredForms.{called-form-legal, answer-form-legal}
use Rattle.space.proofs.JudgingLaws.{subgoal-bounds, answer-bounds}
use Rattle.trie.specs.Paths.{Path, none, tokens}
use Rattle.store.specs.Views.{View}
use Rattle.store.specs.Decisions.{sound_subgoal, sound_answer, sound_pair}
use Rattle.agreement.specs.Whole.{every_below, word_of, path_passes, subgoal_path, answer_path, table_read}
use Rattle.agreement.proofs.SameRecords.{Same, variables-met, subgoal-judged, gather-subgoal, own-low, own-high, answer-judged, gather-answer}
use Rattle.agreement.proofs.TableRead.{same-table}
use Rattle.agreement.proofs.WholeTable.{subgoals-length, answers-length, subgoal-at, answer_at_lem, owner_at}
use Rattle.agreement.proofs.WholeTests.{and_both, and-of, every-below, below-every}
use Rattle.carrying.specs.Carrying.{all_different, answer_keys, none_alike}
use Rattle.carrying.specs.Copying.{subgoal_loads, answer_loads, source_loads}
use Rattle.carrying.proofs.CarriedLaws.{Stored}

-- ---- words that are apart

not-true : (b : Bool) → not b ≡ true → b ≡ false
not-true true e = absurd (false≢true e)
not-true false e = refl

apart-differ : (ws : List Word) → all_different ws ≡ true → (i j : ℕ) → i < length ws → j < length ws → get_or ws i [] ≡ get_or ws j [] → i ≡ j
unfolding all_different
apart-differ [] e i j h k q = absurd (omega arith)
apart-differ (w ∷ ws) e zero zero h k q = refl
apart-differ (w ∷ ws) e zero (suc j) h k q =
    absurd (true≢false (sym (place-has ws w j (le_of_suc-le-suc k) (sym q)) ∙ not-true (has ws w) (and_both (not (has ws w)) (all_different ws) e).0))
apart-differ (w ∷ ws) e (suc i) zero h k q =
    absurd (true≢false (sym (place-has ws w i (le_of_suc-le-suc h) q) ∙ not-true (has ws w) (and_both (not (has ws w)) (all_different ws) e).0))
apart-differ (w ∷ ws) e (suc i) (suc j) h k q =
    ap suc (apart-differ ws (and_both (not (has ws w)) (all_different ws) e).1 i j (le_of_suc-le-suc h) (le_of_suc-le-suc k) q)

differ-apart : (ws : List Word) → ((i j : ℕ) → i < length ws → j < length ws → get_or ws i [] ≡ get_or ws j [] → i ≡ j) → all_different ws ≡ true
unfolding all_different
differ-apart [] h = refl
differ-apart (w ∷ ws) h =
    let rest = differ-apart ws (λ i j p q e. suc-same (h (suc i) (suc j) (omega arith) (omega arith) e)) in
    by_cases (has ws w)
    (λ e. let p = has-place ws w e in
    let z : 0 ≡ suc p.0 = h 0 (suc p.0) (omega arith) (omega (arith, p.1)) (sym p.2) in
    absurd (omega arith))
    (λ e. rw e rest)
  where
    suc-same : {i j : ℕ} → suc i ≡ suc j → i ≡ j
    suc-same e = omega arith

-- ---- those of a table

module _ (t : Table) where
  form-place : (s : ℕ) → 0 < s → (i : ℕ) × (s ≡ suc i) × (get_or (called_forms t.subgoals) i [] ≡ (subgoal_at t s).form)
  unfolding subgoal_at no_subgoal
  form-place zero h = absurd (omega arith)
  form-place (suc s) h = (s, refl, get_or-map (λ (g : Subgoal). g.form) t.subgoals s no_subgoal)

  key-place : (a : ℕ) → 0 < a → a ≤ length t.answers → (i : ℕ) × (a ≡ suc i) × (get_or (answer_keys t.answers) i [] ≡ subgoal_of_answer t a ∷ (answer_at t a).form)
  unfolding answer_at
  key-place zero h k = absurd (omega arith)
  key-place (suc a) h k = (a, refl, keys-at t.answers a k)
    where
      keys-at : (l : List Answer) (i : ℕ) → i < length l → get_or (answer_keys l) i [] ≡ (get_or l i no_answer).subgoal ∷ (get_or l i no_answer).form
      keys-at [] i h = absurd (omega arith)
      keys-at (y ∷ l) zero h = refl
      keys-at (y ∷ l) (suc i) h = keys-at l i (le_of_suc-le-suc h)

  module _ (e : none_alike t ≡ true) where
    parts : (all_different (called_forms t.subgoals) ≡ true) × (all_different (answer_keys t.answers) ≡ true)
    unfolding none_alike
    parts = and_both (all_different (called_forms t.subgoals)) (all_different (answer_keys t.answers)) e

    pub called-apart : (i j : ℕ) → 0 < i → i ≤ length t.subgoals → 0 < j → j ≤ length t.subgoals → (subgoal_at t i).form ≡ (subgoal_at t j).form → i ≡ j
    called-apart i j p q p' q' h =
        let x = form-place i p in
        let y = form-place j p' in
        let n = length-map t.subgoals (λ (g : Subgoal). g.form) in
        let z = apart-differ (called_forms t.subgoals) parts.0 x.0 y.0 (omega (arith, x.1)) (omega (arith, y.1)) (x.2 ∙ h ∙ sym y.2) in
        x.1 ∙ ap suc z ∙ sym y.1

    pub given-apart : (a b : ℕ) → 0 < a → a ≤ length t.answers → 0 < b → b ≤ length t.answers
        → subgoal_of_answer t a ≡ subgoal_of_answer t b → (answer_at t a).form ≡ (answer_at t b).form → a ≡ b
    given-apart a b p q p' q' o h =
        let x = key-place a p q in
        let y = key-place b p' q' in
        let n = length-map t.answers (λ (k : Answer). k.subgoal ∷ k.form) in
        let z = apart-differ (answer_keys t.answers) parts.1 x.0 y.0 (omega (arith, x.1)) (omega (arith, y.1))
        (x.2 ∙ ap (λ (k : ℕ). k ∷ (answer_at t a).form) o ∙ ap (λ (k : Word). subgoal_of_answer t b ∷ k) h ∙ sym y.2) in
        x.1 ∙ ap suc z ∙ sym y.1

  pub stored-apart : (c : Coding) → Stored c t → none_alike t ≡ true
  unfolding none_alike
  stored-apart c k =
      let n = length-map t.subgoals (λ (g : Subgoal). g.form) in
      let m = length-map t.answers (λ (g : Answer). g.subgoal ∷ g.form) in
      and-of
      (differ-apart (called_forms t.subgoals) (λ i j p q e.
      let x = form-place (suc i) (omega arith) in
      let y = form-place (suc j) (omega arith) in
      pred-same (k.subgoals-differ (suc i) (suc j) (omega arith) (omega arith) (omega arith) (omega arith) (sym (forms-here i) ∙ e ∙ forms-here j))))
      (differ-apart (answer_keys t.answers) (λ i j p q e.
      let f : subgoal_of_answer t (suc i) ∷ (answer_at t (suc i)).form ≡ subgoal_of_answer t (suc j) ∷ (answer_at t (suc j)).form = sym (keys-here i (omega arith)) ∙ e ∙ keys-here j (omega arith) in
      pred-same (k.answers-differ (suc i) (suc j) (omega arith) (omega arith) (omega arith) (omega arith) (head-eq_of_cons-eq f) (tail-eq_of_cons-eq f))))
    where
      pred-same : {i j : ℕ} → suc i ≡ suc j → i ≡ j
      pred-same e = omega arith

      forms-here : (i : ℕ) → get_or (called_forms t.subgoals) i [] ≡ (subgoal_at t (suc i)).form
      forms-here i = let x = form-place (suc i) (omega arith) in ap (λ (j : ℕ). get_or (called_forms t.subgoals) j []) (pred-same x.1) ∙ x.2

      keys-here : (i : ℕ) → i < length t.answers → get_or (answer_keys t.answers) i [] ≡ subgoal_of_answer t (suc i) ∷ (answer_at t (suc i)).form
      keys-here i h = let x = key-place (suc i) (omega arith) (omega arith) in ap (λ (j : ℕ). get_or (answer_keys t.answers) j []) (pred-same x.1) ∙ x.2

-- ---- what loads is stored

passes-word : (p : Path) (test : Word → Bool) → path_passes p test ≡ true → test (word_of p) ≡ true
passes-word none test e = absurd (false≢true e)
passes-word (tokens w) test e = e

module _ (c : Coding) (v : View) (e : source_loads c v ≡ true) where
  abbrev t : Table
  t = table_read v

  three : (every_below (λ i. subgoal_loads c v (suc i)) v.subgoals ≡ true) × (every_below (λ i. answer_loads c v (suc i)) v.answers ≡ true) × (none_alike (table_read v) ≡ true)
  unfolding source_loads
  three =
      let p = and_both (every_below (λ i. subgoal_loads c v (suc i)) v.subgoals && every_below (λ i. answer_loads c v (suc i)) v.answers) (none_alike (table_read v)) e in
      let q = and_both (every_below (λ i. subgoal_loads c v (suc i)) v.subgoals) (every_below (λ i. answer_loads c v (suc i)) v.answers) p.0 in
      (q.0, q.1, p.1)

  pub subgoal-loads : (s : ℕ) → 0 < s → s ≤ v.subgoals → subgoal_loads c v s ≡ true
  subgoal-loads zero h k = absurd (omega arith)
  subgoal-loads (suc s) h k = every-below (λ i. subgoal_loads c v (suc i)) v.subgoals three.0 s k

  pub answer-loads : (a : ℕ) → 0 < a → a ≤ v.answers → answer_loads c v a ≡ true
  answer-loads zero h k = absurd (omega arith)
  answer-loads (suc a) h k = every-below (λ i. answer_loads c v (suc i)) v.answers three.1 a k

  subgoal-legal : (s : ℕ) → 0 < s → s ≤ v.subgoals → Fit c (word_of (subgoal_path v s)) (v.subgoal s).variables
  unfolding subgoal_loads
  subgoal-legal s h k =
      let p = and_both (sound_subgoal v s) (path_passes (subgoal_path v s) (λ w. c.legal 1 w && eqb (length (met [] w)) (v.subgoal s).variables)) (subgoal-loads s h k) in
      let q = passes-word (subgoal_path v s) (λ w. c.legal 1 w && eqb (length (met [] w)) (v.subgoal s).variables) p.1 in
      let w = and_both (c.legal 1 (word_of (subgoal_path v s))) (eqb (length (met [] (word_of (subgoal_path v s)))) (v.subgoal s).variables) q in
      (w.0, eqb-true _ _ w.1, (subgoal-bounds v.nodes v.answers (v.subgoal s) p.0).variables-most)

  answer-legal : (a : ℕ) → 0 < a → a ≤ v.answers
      → (0 < (v.answer a).subgoal) × ((v.answer a).subgoal ≤ v.subgoals) × (c.legal (v.subgoal (v.answer a).subgoal).variables (word_of (answer_path v a)) ≡ true)
  unfolding answer_loads
  answer-legal a h k =
      let p = and_both (sound_pair v a) (path_passes (answer_path v a) (λ w. c.legal (v.subgoal (v.answer a).subgoal).variables w)) (answer-loads a h k) in
      let q = and_both (sound_answer v a) (sound_subgoal v (v.answer a).subgoal) p.0 in
      let b = answer-bounds v.nodes v.subgoals v.answers a (v.answer a) q.0 in
      (b.subgoal-some, b.subgoal-most, passes-word (answer_path v a) (λ w. c.legal (v.subgoal (v.answer a).subgoal).variables w) p.1)

  sub_low : (s : ℕ) → s ≤ length t.subgoals → s ≤ v.subgoals
  sub_low s h = omega (arith, subgoals-length v)

  ans-low : (a : ℕ) → a ≤ length t.answers → a ≤ v.answers
  ans-low a h = omega (arith, answers-length v)

  pub loads-stored : Stored c (table_read v)
  loads-stored = record {
    called = λ s h k.
        let l = sub_low s k in
        rw (subgoal-at v s h l) (subgoal-legal s h l);
    owned = λ a h k.
        let l = ans-low a k in
        let f = answer-legal a h l in
        let o = owner_at v a h l in
        (omega (arith, f.0), omega (arith, f.1, subgoals-length v));
    given = λ a h k.
        let l = ans-low a k in
        let f = answer-legal a h l in
        let m : (subgoal_at t (subgoal_of_answer t a)).m ≡ (v.subgoal (v.answer a).subgoal).variables =
        ap (λ (s : ℕ). (subgoal_at t s).m) (owner_at v a h l) ∙ ap (λ (g : Subgoal). g.m) (subgoal-at v (v.answer a).subgoal f.0 f.1) in
        ap (λ (k : ℕ). c.legal k (answer_at t a).form) m ∙ ap (λ (y : Answer). c.legal (v.subgoal (v.answer a).subgoal).variables y.form) (answer_at_lem v a h l) ∙ f.2;
    subgoals-differ = called-apart t three.2;
    answers-differ = given-apart t three.2;
  }

-- ---- a view that holds a table loads

module _ (c : Coding) (laws : CodingLaws c) (t : Table) (v : View) (S : Same c t v) (k : Stored c t) where
  same-subgoal : (s : ℕ) → 0 < s → s ≤ v.subgoals → subgoal_loads c v s ≡ true
  unfolding subgoal_loads
  same-subgoal s low h =
      let high : s ≤ length t.subgoals = omega (arith, S.subgoals) in
      rw (
        subgoal-judged c laws t v S s low high,
        gather-subgoal c laws t v S s low high,
        called-form-legal c laws t S.sound s low high,
        eq-eqb _ _ (variables-met c laws t v S s low high),
      )

  same_answer : (a : ℕ) → 0 < a → a ≤ v.answers → answer_loads c v a ≡ true
  unfolding answer_loads
  same_answer a low h =
      let high : a ≤ length t.answers = omega (arith, S.answers) in
      let ol = own-low c laws t v S a low high in
      let oh = own-high c laws t v S a low high in
      rw (
        answer-judged c laws t v S a low high,
        (S.answer a low high).subgoal,
        subgoal-judged c laws t v S (subgoal_of_answer t a) ol oh,
        gather-answer c laws t v S a low high,
        (S.subgoal (subgoal_of_answer t a) ol oh).variables,
        answer-form-legal c laws t S.sound a low high,
      )

  pub same-loads : source_loads c v ≡ true
  unfolding source_loads
  same-loads =
      and-of
      (and-of
      (below-every (λ i. subgoal_loads c v (suc i)) v.subgoals (λ i h. same-subgoal (suc i) (omega arith) h))
      (below-every (λ i. answer_loads c v (suc i)) v.answers (λ i h. same_answer (suc i) (omega arith) h)))
      (rw (same-table c laws t v S) (stored-apart t c k))
