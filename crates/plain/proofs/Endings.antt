-- No list of calls gives a finished subgoal an answer; so "no more" is final.
use mathlib.Core.Path.{◌≡◌, refl, sym, ap, ◌∙◌}
use mathlib.Core.Bool.{true, false}
use mathlib.Core.List.{List, [], ◌∷◌}
use Prim.Native.Nat.{ℕ, suc, ◌≤◌, ◌<◌}
use native.Mathlib.Omega.{arith}
use lib.Dec.{eqb, leb}
use lib.ListN.{length}
use borrow.Author.Tests.{eqb-true, eqb-false, leb-true, leb-false}
use Rattle.basis.proofs.Cases.{by_cases}
use Rattle.plain.specs.Words.{Word}
use Rattle.plain.specs.Coding.{Coding}
use Rattle.plain.specs.Requests.{State, Open, Finished, Request, next, no_more, lacks_next, left}
use Rattle.plain.specs.Table.{Table, Answer, subgoal_at, subgoal_of_answer, after, following, starting, onward, with_answer, with_entry, step}
use Rattle.plain.specs.Consequences.{Ending}
use Rattle.plain.proofs.AfterLaws.{after-found, after-least}
use Rattle.plain.proofs.RecordLaws.{answer_at-new, settled-answer_at, entry-count}
use Rattle.plain.proofs.Changes.{known-cases, AnswersEnter, no-more, one_more_lem, Changed, stayed, subgoal-enters, answer-enters, finishes, answers-enter, step-changed}
use Rattle.plain.proofs.Growth.{Grows, entering-grows, step-grows, left-grows}
use Rattle.plain.proofs.NextLaws.{next-reply, starting-answer}

-- no answer past those of t is to s
abbrev pub Silent : ℕ → Table → Table → Type 0
Silent s t u = (b : ℕ) → length t.answers < b → b ≤ length u.answers → subgoal_of_answer u b ≡ s → ⊥

silent-refl : (s : ℕ) (t : Table) → Silent s t t
silent-refl s t b h k e = omega arith

silent-trans : (s : ℕ) (t u v : Table) → Grows u v → Silent s t u → Silent s u v → Silent s t v
silent-trans s t u v g f h b low high e = by_cases (leb b (length u.answers))
    (λ q. f b low (leb-true _ _ q) (sym (ap (λ (y : Answer). y.subgoal) (g.answers b (leb-true _ _ q))) ∙ e))
    (λ q. h b (leb-false _ _ q) high e)

open-apart : (x : State) → x ≡ Finished → x ≡ Open → ⊥
open-apart x e f = let z : ◌≡◌ {A = ℕ} 0 1 = cc in omega arith

module _ (c : Coding) (s : ℕ) where
  -- an open subgoal is another than a finished one
  other-than : (t : Table) (x : ℕ) → (subgoal_at t s).state ≡ Finished → (subgoal_at t x).state ≡ Open → x ≡ s → ⊥
  other-than t x fin o e = open-apart (subgoal_at t s).state fin (ap (λ (i : ℕ). (subgoal_at t i).state) (sym e) ∙ o)

  entry-silent : (t : Table) (x : ℕ) (w : Word) → (x ≡ s → ⊥) → Silent s t (with_entry t x w)
  entry-silent t x w apart b low high own =
      let n : b ≡ suc (length t.answers) = newest b low high in
      apart (sym (ap (λ (y : Answer). y.subgoal) (settled-answer_at (with_answer t x w) x b) ∙ ap (λ (i : ℕ). subgoal_of_answer (with_answer t x w) i) n ∙ ap (λ (y : Answer). y.subgoal) (answer_at-new t x w)) ∙ own)
    where
      newest : (b : ℕ) → length t.answers < b → b ≤ length (with_entry t x w).answers → b ≡ suc (length t.answers)
      newest b low high = omega (arith, entry-count t x w)

  entering-silent : {x : ℕ} {t u : Table} → (x ≡ s → ⊥) → AnswersEnter c x t u → Silent s t u
  entering-silent {t = t} apart no-more = silent-refl s t
  entering-silent {x = x} {t = t} {u = u} apart (one_more_lem w e rest) =
      silent-trans s t (with_entry t x w) u (entering-grows rest) (entry-silent t x w apart) (entering-silent apart rest)

  changed-silent : (t u : Table) → s ≤ length t.subgoals → (subgoal_at t s).state ≡ Finished → Changed c t u → Silent s t u
  changed-silent t u among fin stayed = silent-refl s t
  changed-silent t u among fin (subgoal-enters w m e) = λ b h k q. omega arith
  changed-silent t u among fin (answer-enters x w o e) = entry-silent t x w (other-than t x fin o)
  changed-silent t u among fin (finishes x low high) = λ b h k q. omega arith
  changed-silent t u among fin (answers-enter x v o e) = entering-silent (other-than t x fin o) e

  pub left-silent : (t : Table) (qs : List Request) → s ≤ length t.subgoals → (subgoal_at t s).state ≡ Finished → Silent s t (left (step c) t qs)
  unfolding left
  left-silent t [] among fin = silent-refl s t
  left-silent t (q ∷ qs) among fin =
      let u : Table = (step c t q).state in
      let g : Grows t u = step-grows c t q in
      silent-trans s t u (left (step c) u qs) (left-grows c u qs) (changed-silent t u among fin (step-changed c t q))
      (left-silent u qs (omega (arith, g.more-subgoals)) ((g.subgoals s among).finished fin))

-- ---- next

-- what "no more" tells
record Ended (t : Table) (s a : ℕ) : Type 0 where
  low : 0 < s
  high : s ≤ length t.subgoals
  starts : starting t s a ≡ true
  finished : (subgoal_at t s).state ≡ Finished
  none : following t s a ≡ 0

lacks-finished : (x : State) → lacks_next x ≡ no_more → x ≡ Finished
lacks-finished Open e = let z : ◌≡◌ {A = ℕ} 0 1 = cc in absurd (omega arith)
lacks-finished Finished e = refl

ended-cases : (c : Coding) (t : Table) (s a : ℕ) → (step c t (next s a)).reply ≡ no_more → Ended t s a
unfolding step
ended-cases c t s a = known-cases (λ r. r.reply ≡ no_more → Ended t s a) t [] (length t.subgoals) s _
    (λ e. let z : ◌≡◌ {A = ℕ} 0 1 = cc in absurd (omega arith))
    (λ low high. by_cases (starting t s a)
    (λ st. rw st (onward-ends low high st))
    (λ st. rw st (λ e. let z : ◌≡◌ {A = ℕ} 0 1 = cc in absurd (omega arith))))
  where
    onward-ends : 0 < s → s ≤ length t.subgoals → starting t s a ≡ true → onward t s a ≡ no_more → Ended t s a
    onward-ends low high st = by_cases (eqb (following t s a) 0)
        (λ f. unfold onward in rw f (λ e. record { low = low; high = high; starts = st; finished = lacks-finished _ e; none = eqb-true _ _ f }))
        (λ f. unfold onward in rw f (λ e. let z : ◌≡◌ {A = ℕ} 0 1 = cc in absurd (omega arith)))

module _ (c : Coding) (t u : Table) (s a : ℕ) (g : Grows t u) (quiet : Silent s t u) where
  still-starts : starting t s a ≡ true → starting u s a ≡ true
  still-starts e = by_cases (eqb a 0)
      (λ z. unfold starting in rw z)
      (λ z. by_cases (leb a (length t.answers))
      (λ y. let own : subgoal_of_answer t a ≡ s = eqb-true _ _ (unfold starting in rw (z, y) at e) in
      let h : a ≤ length t.answers = leb-true _ _ y in
      starting-answer u s a (omega (arith, g.more-answers)) (ap (λ (y : Answer). y.subgoal) (g.answers a h) ∙ own))
      (λ y. absurd (no (unfold starting in rw (z, y) at e))))
    where
      no : false ≡ true → ⊥
      no e = let z : ◌≡◌ {A = ℕ} 0 1 = cc in omega arith

  still-none : following t s a ≡ 0 → following u s a ≡ 0
  unfolding following
  still-none e = by_cases (eqb (after (subgoal_of_answer u) (suc (length u.answers)) a s) 0)
      (λ z. eqb-true _ _ z)
      (λ z.
      let f = after-found (subgoal_of_answer u) (suc (length u.answers)) a s (eqb-false _ _ z) in
      let j : ℕ = after (subgoal_of_answer u) (suc (length u.answers)) a s in
      absurd (by_cases (leb j (length t.answers))
      (λ q. let h : j ≤ length t.answers = leb-true _ _ q in
      (after-least (subgoal_of_answer t) (suc (length t.answers)) a s j
      (record { above = f.above; below = omega arith; under = sym (ap (λ (y : Answer). y.subgoal) (g.answers j h)) ∙ f.under })).0 e)
      (λ q. quiet j (leb-false _ _ q) (within j f.below) f.under)))
    where
      within : (j : ℕ) → j < suc (length u.answers) → j ≤ length u.answers
      within j h = omega arith

pub ending : (c : Coding) → Ending c
ending c t s a e =
    let k = ended-cases c t s a e in (
      k.finished,
      (λ qs.
          let u : Table = left (step c) t qs in
          let g : Grows t u = left-grows c t qs in
          let quiet = left-silent c s t qs k.high k.finished in
          next-reply c u s a k.low (omega (arith, k.high, g.more-subgoals)) (still-starts c t u s a g quiet k.starts)
          ∙ rw (still-none c t u s a g quiet k.none, (g.subgoals s k.high).finished k.finished)),
    )
