-- Stored forms: none goes on from another, and those of a sound table are legal.
use mathlib.Core.Path.{◌≡◌, refl, sym, ap, ◌∙◌, subst}
use mathlib.Core.Bool.{true, false≢true}
use mathlib.Core.List.{[], ◌∷◌, ◌++◌, append-nil}
use Prim.Native.Nat.{ℕ, ◌≤◌, ◌<◌}
use lib.Dec.{eqb}
use lib.ListN.{length}
use borrow.Author.Tests.{eqb-true}
use Rattle.basis.proofs.Cases.{by_cases}
use Rattle.plain.specs.Words.{Word, has}
use Rattle.plain.specs.Coding.{Coding}
use Rattle.plain.specs.CodingLaws.{CodingLaws}
use Rattle.plain.specs.Table.{Table, subgoal_at, answer_at, subgoal_of_answer, called_forms, answers_to, subgoal_of, answer_of}
use Rattle.plain.proofs.PrefixLaws.{starts}
use Rattle.plain.proofs.NumberLaws.{subgoal_of-some, answer_of-some}
use Rattle.plain.proofs.Soundness.{Sound}

pub starts-rest : (u w : Word) → starts u w ≡ true → (rest : Word) × (w ≡ u ++ rest)
unfolding starts
starts-rest [] w e = (w, refl)
starts-rest (x ∷ u) [] e = absurd (false≢true e)
starts-rest (x ∷ u) (y ∷ w) e = by_cases (eqb y x)
    (λ p. let q : y ≡ x = eqb-true y x p in let r = starts-rest u w (rw p at e) in let z : w ≡ u ++ r.0 = r.1 in (r.0, cc))
    (λ p. absurd (false≢true (rw p at e)))

module _ (c : Coding) (laws : CodingLaws c) where
  -- ---- any readings

  pub legal-starts : (m : ℕ) (w v : Word) → c.legal m w ≡ true → c.legal m v ≡ true → starts w v ≡ true → w ≡ v
  legal-starts m w v h k e =
      let r = starts-rest w v e in
      let z : r.0 ≡ [] = laws.legal-free m w r.0 h (subst (λ (x : Word). c.legal m x ≡ true) r.1 k) in
      sym (r.1 ∙ ap (λ (x : Word). w ++ x) z ∙ append-nil w)

  -- ---- those of a table

  module _ (t : Table) (sound : Sound c t) where
    pub held-called : (w : Word) → has (called_forms t.subgoals) w ≡ true → c.legal 1 w ≡ true
    held-called w h =
        let p = subgoal_of-some t w h in
        subst (λ (x : Word). c.legal 1 x ≡ true) p.form (sound.called (subgoal_of t w) p.low p.high).0

    pub held-answer : (s : ℕ) (w : Word) → has (answers_to t.answers s) w ≡ true → c.legal (subgoal_at t s).m w ≡ true
    held-answer s w h =
        let p = answer_of-some t s w h in
        subst (λ (x : Word). c.legal (subgoal_at t s).m x ≡ true) p.form
        (subst (λ (x : ℕ). c.legal (subgoal_at t x).m (answer_at t (answer_of t s w)).form ≡ true) p.subgoal (sound.answered (answer_of t s w) p.low p.high))

    -- the forms of subgoals, and of the answers to one, are legal
    pub called-form-legal : (s : ℕ) → 0 < s → s ≤ length t.subgoals → c.legal 1 (subgoal_at t s).form ≡ true
    called-form-legal s low high = (sound.called s low high).0

    pub answer-form-legal : (a : ℕ) → 0 < a → a ≤ length t.answers → c.legal (subgoal_at t (subgoal_of_answer t a)).m (answer_at t a).form ≡ true
    answer-form-legal a low high = sound.answered a low high
