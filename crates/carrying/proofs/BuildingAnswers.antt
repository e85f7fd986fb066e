-- Then its answers, by number.
use Prim.Native.Nat.{ℕ, zero, suc, ◌+◌, ◌≤◌, ◌<◌}
use mathlib.Core.Path.{◌≡◌, refl, sym, ap, ◌∙◌, subst}
use mathlib.Core.Bool.{true, false}
use mathlib.Core.List.{List, [], ◌∷◌, ◌++◌, append-nil, append_assoc}
use mathlib.Core.Logic.{inl, inr}
use native.Mathlib.Omega.{arith}
use lib.Dec.{eqb}
use lib.ListN.{length, get_or, length-map, length-append, get_or-map, get_or-append}
use lib.Seq.{get_or_at}
use borrow.Author.Tests.{eqb-true, eqb-false}
use Rattle.basis.proofs.Cases.{by_cases}
use Rattle.plain.specs.Words.{Word, has}
use Rattle.plain.specs.Coding.{Coding}
use Rattle.plain.specs.CodingLaws.{CodingLaws}
use Rattle.plain.specs.Table.{Table, Subgoal, Answer, no_subgoal, no_answer, subgoal_at, answer_at, subgoal_of_answer, called_forms, answers_to, answer_nodes, nodes, answer_of, with_answer, with_entry, given, entered}
use Rattle.plain.proofs.Soundness.{Sound}
use Rattle.plain.proofs.NumberLaws.{answer_of-some}
use Rattle.plain.proofs.RecordLaws.{finished-forms, settled-cases, settled-rooms, entry-answers, entry-subgoals, entry-lasts, entry-apart}
use Rattle.plain.proofs.Counted.{answers_to-other}
use Rattle.plain.proofs.EnteringLaws.{given-new, Taking, given-taking}
use Rattle.plain.proofs.JoinLaws.{ground-empty}
use Rattle.space.specs.Layout.{Sizes}
use Rattle.space.specs.Heading.{header_of}
use Rattle.store.specs.Changes.{form_given, forms_given, forms_given_by}
use Rattle.agreement.specs.Whole.{ReadingAgain}
use Rattle.agreement.proofs.Holding.{Cells, Holds}
use Rattle.agreement.proofs.Giving.{forms-given}
use Rattle.carrying.specs.Copying.{answers_given}
use Rattle.carrying.proofs.NodeCounts.{answer_nodes-more}
use Rattle.carrying.proofs.Building.{opened, begun, forms-opened}

-- t has the subgoals of u, whatever their states, and these answers; each subgoal takes answers
pub record Partly (u t : Table) (ys : List Answer) : Type 0 where
  pub N-same : t.N ≡ u.N
  pub F-same : t.F ≡ u.F
  pub A-same : t.A ≡ u.A
  pub answers : t.answers ≡ ys
  pub forms : called_forms t.subgoals ≡ called_forms u.subgoals
  pub count : length t.subgoals ≡ length u.subgoals
  pub form : (s : ℕ) → (subgoal_at t s).form ≡ (subgoal_at u s).form
  pub m : (s : ℕ) → (subgoal_at t s).m ≡ (subgoal_at u s).m
  pub taking : (s : ℕ) → 0 < s → s ≤ length u.subgoals → Taking t s

opened-at : (u : Table) (s : ℕ) → subgoal_at (begun u u.subgoals) s ≡ opened (subgoal_at u s)
unfolding subgoal_at no_subgoal
opened-at u zero = refl
opened-at u (suc s) = get_or-map opened u.subgoals s no_subgoal

pub begun-partly : (u : Table) → Partly u (begun u u.subgoals) []
begun-partly u = record {
  N-same = refl;
  F-same = refl;
  A-same = refl;
  answers = refl;
  forms = forms-opened u.subgoals;
  count = length-map u.subgoals opened;
  form = λ s. ap (λ (g : Subgoal). g.form) (opened-at u s);
  m = λ s. ap (λ (g : Subgoal). g.m) (opened-at u s);
  taking = λ s p q. inl (ap (λ (g : Subgoal). g.state) (opened-at u s));
}

pub partly-nodes : (u t : Table) (ys rest : List Answer) → Partly u t ys → ys ++ rest ≡ u.answers → nodes t ≤ nodes u
unfolding nodes
partly-nodes u t ys rest p e =
    let a = answer_nodes-more ys rest 1 (length u.subgoals) in
    let b : answer_nodes (ys ++ rest) 1 (length u.subgoals) ≡ answer_nodes u.answers 1 (length u.subgoals) = ap (λ (l : List Answer). answer_nodes l 1 (length u.subgoals)) e in
    rw (p.forms, p.answers, p.count) (omega arith)

-- ---- one answer more

entry-forms : (t : Table) (s : ℕ) (w : Word) → 0 < s → called_forms (with_entry t s w).subgoals ≡ called_forms t.subgoals
entry-forms t s w low = settled-cases (with_answer t s w) s (λ x. called_forms x.subgoals ≡ called_forms t.subgoals) (finished-forms (with_answer t s w) s low) refl

module _ (u t : Table) (ys : List Answer) (y : Answer) (rest : List Answer) (p : Partly u t ys) (e : ys ++ (y ∷ rest) ≡ u.answers) where
  abbrev b : ℕ
  b = suc (length ys)

  pub total : length ys + suc (length rest) ≡ length u.answers
  total = sym (length-append ys (y ∷ rest)) ∙ ap length e

  pub next-answer : answer_at u (suc (length ys)) ≡ y
  unfolding answer_at
  next-answer = ap (λ (l : List Answer). get_or (no_answer ∷ l) b no_answer) (sym e) ∙ get_or_at (no_answer ∷ ys) y rest no_answer b refl

  earlier-answer : (j : ℕ) → j ≤ length ys → answer_at u j ≡ answer_at t j
  unfolding answer_at
  earlier-answer j h =
      ap (λ (l : List Answer). get_or (no_answer ∷ l) j no_answer) (sym e) ∙ get_or-append (no_answer ∷ ys) (y ∷ rest) no_answer j (omega arith)
      ∙ ap (λ (l : List Answer). get_or (no_answer ∷ l) j no_answer) (sym p.answers)

  pub answer-absent : (c : Coding) → Sound c u → has (answers_to t.answers y.subgoal) y.form ≡ false
  answer-absent c sound = by_cases (has (answers_to t.answers y.subgoal) y.form)
      (λ q.
      let g = answer_of-some t y.subgoal y.form q in
      let j : ℕ = answer_of t y.subgoal y.form in
      let l : j ≤ length ys = omega (arith, g.high, ap length p.answers) in
      let same = earlier-answer j l in
      let z : j ≡ suc (length ys) =
      sound.kept.answers-differ j (suc (length ys)) g.low (omega (arith, total)) (omega arith) (omega (arith, total))
      (ap (λ (x : Answer). x.subgoal) same ∙ g.subgoal ∙ ap (λ (x : Answer). x.subgoal) (sym next-answer))
      (ap (λ (x : Answer). x.form) same ∙ g.form ∙ ap (λ (x : Answer). x.form) (sym next-answer)) in
      absurd (omega arith))
      (λ q. q)

  module _ (low : 0 < y.subgoal) (high : y.subgoal ≤ length u.subgoals) (ground : (subgoal_at t y.subgoal).m ≡ 0 → y.form ≡ []) (absent : has (answers_to t.answers y.subgoal) y.form ≡ false) where
    abbrev s : ℕ
    s = y.subgoal

    abbrev w : Word
    w = y.form

    high-t : s ≤ length t.subgoals
    high-t = omega (arith, p.count)

    taking-more : (x : ℕ) → 0 < x → x ≤ length u.subgoals → Taking (with_entry t s w) x
    taking-more x l h = by_cases (eqb x s)
        (λ q. let r : x ≡ s = eqb-true x s q in
        rw (r, ← (given-new t s low high-t w absent)) (given-taking t s low high-t w (p.taking s low high) ground))
        (λ q. all_different x (p.taking x l h) (entry-apart t s w low x (eqb-false x s q))
        (ap (λ (k : List Answer). answers_to k x) (entry-answers t s w) ∙ answers_to-other t.answers s x w (λ r. eqb-false x s q (sym r))))
      where
        all_different : (x : ℕ) → Taking t x → subgoal_at (with_entry t s w) x ≡ subgoal_at t x → answers_to (with_entry t s w).answers x ≡ answers_to t.answers x → Taking (with_entry t s w) x
        all_different x (inl o) f g = inl (ap (λ (k : Subgoal). k.state) f ∙ o)
        all_different x (inr k) f g = inr (ap (λ (k : Subgoal). k.m) f ∙ k.0, rw g k.1)

    pub partly_more : Partly u (with_entry t y.subgoal y.form) (ys ++ (y ∷ []))
    partly_more =
        let r = settled-rooms (with_answer t s w) s in
        record {
          N-same = r.0 ∙ p.N-same;
          F-same = r.1 ∙ p.F-same;
          A-same = r.2 ∙ p.A-same;
          answers = entry-answers t s w ∙ ap (λ (l : List Answer). l ++ (y ∷ [])) p.answers;
          forms = entry-forms t s w low ∙ p.forms;
          count = entry-subgoals t s w ∙ p.count;
          form = λ x. (entry-lasts t s w low high-t x).form ∙ p.form x;
          m = λ x. (entry-lasts t s w low high-t x).m ∙ p.m x;
          taking = taking-more;
        }

-- ---- all answers

entered-one : (t : Table) (s : ℕ) (w : Word) → entered t s (w ∷ []) ≡ given t s w
unfolding entered
entered-one t s w = refl

given-one : (z : Sizes) (cs : List ℕ) (s : ℕ) (w : Word) → forms_given z cs s (w ∷ []) ≡ form_given z cs s w (header_of z cs)
unfolding forms_given_by
given-one z cs s w = refl

module _ (z : Sizes) (c : Coding) (cells : Cells z) (laws : CodingLaws c) (again : ReadingAgain c) (u : Table) (sound : Sound c u) where
  -- what is left when these have entered
  abbrev pub Entered : List Answer → List ℕ → Type 0
  Entered ys cs = (t : Table) × Partly u t ys × Holds z c t cs

  -- some of the answers, those before them entered
  pub answers-hold : (rest more ys : List Answer) (t : Table) (cs : List ℕ) → ys ++ (rest ++ more) ≡ u.answers → Partly u t ys → Holds z c t cs
      → Entered (ys ++ rest) (answers_given z cs rest)
  unfolding answers_given
  answers-hold [] more ys t cs e p k = (t, subst (Partly u t) (sym (append-nil ys)) p, k)
  answers-hold (y ∷ rest) more ys t cs e p k =
      let b : ℕ = suc (length ys) in
      let n = total u t ys y (rest ++ more) p e in
      let is = next-answer u t ys y (rest ++ more) p e in
      let o = sound.kept.answered b (omega arith) (omega arith) in
      let own : subgoal_of_answer u b ≡ y.subgoal = ap (λ (x : Answer). x.subgoal) is in
      let low : 0 < y.subgoal = omega (arith, o.0) in
      let high : y.subgoal ≤ length u.subgoals = omega (arith, o.1) in
      let high-t : y.subgoal ≤ length t.subgoals = omega (arith, p.count) in
      let m : ℕ = (subgoal_at t y.subgoal).m in
      let legal : c.legal m y.form ≡ true =
      subst (λ (i : ℕ). c.legal i y.form ≡ true) (ap (λ (i : ℕ). (subgoal_at u i).m) own ∙ sym (p.m y.subgoal))
      (subst (λ (x : Answer). c.legal (subgoal_at u (subgoal_of_answer u b)).m x.form ≡ true) is (sound.answered b (omega arith) (omega arith))) in
      let f = again.legal-answered m y.form legal in
      let ks : List ℕ = c.expand y.form in
      let ground : m ≡ 0 → y.form ≡ [] = ground-empty c laws m ks y.form f.0 f.1 in
      let absent = answer-absent u t ys y (rest ++ more) p e c sound in
      let e' : (ys ++ (y ∷ [])) ++ (rest ++ more) ≡ u.answers = append_assoc ys (y ∷ []) (rest ++ more) ∙ e in
      let after = partly_more u t ys y (rest ++ more) p e low high ground absent in
      let is-new : entered t y.subgoal (y.form ∷ []) ≡ with_entry t y.subgoal y.form = entered-one t y.subgoal y.form ∙ given-new t y.subgoal low high-t y.form absent in
      let room : nodes (entered t y.subgoal (y.form ∷ [])) ≤ t.N =
      omega (arith, ap nodes is-new, partly-nodes u (with_entry t y.subgoal y.form) (ys ++ (y ∷ [])) (rest ++ more) after e', sound.kept.room, p.N-same) in
      let free : length (entered t y.subgoal (y.form ∷ [])).answers ≤ t.A =
      omega (arith, ap (λ (x : Table). length x.answers) is-new, ap length after.answers, length-append ys (y ∷ []), sound.kept.answer-room, p.A-same) in
      let here : Holds z c (entered t y.subgoal (y.form ∷ [])) (forms_given z cs y.subgoal (y.form ∷ [])) =
      (forms-given z c cells laws y.subgoal low (y.form ∷ []) t cs k high-t (p.taking y.subgoal low high) ((ks, f.0, f.1), tt) room free).holds in
      let there : Holds z c (with_entry t y.subgoal y.form) (form_given z cs y.subgoal y.form (header_of z cs)) =
      subst (λ (x : Table). Holds z c x (form_given z cs y.subgoal y.form (header_of z cs))) is-new (subst (Holds z c (entered t y.subgoal (y.form ∷ []))) (given-one z cs y.subgoal y.form) here) in
      subst (λ (l : List Answer). Entered l (answers_given z (form_given z cs y.subgoal y.form (header_of z cs)) rest)) (append_assoc ys (y ∷ []) rest)
      (answers-hold rest more (ys ++ (y ∷ [])) (with_entry t y.subgoal y.form) (form_given z cs y.subgoal y.form (header_of z cs)) e' after there)
