-- What lasts while calls go on: capacities, records under their numbers, and that a subgoal is finished.
use mathlib.Core.Path.{◌≡◌, refl, ◌∙◌}
use mathlib.Core.List.{List, [], ◌∷◌}
use Prim.Native.Nat.{ℕ, ◌≤◌, ◌<◌}
use Rattle.plain.specs.Words.{Word}
use native.Mathlib.Omega.{arith}
use lib.ListN.{length}
use Rattle.plain.specs.Coding.{Coding}
use Rattle.plain.specs.Requests.{Request, left}
use Rattle.plain.specs.Table.{Table, subgoal_at, answer_at, with_answer, with_entry, step}
use Rattle.plain.proofs.RecordLaws.{Lasts, equal-lasts, subgoal_at-before, subgoals-count, answer_at-before, subgoal_at-lasts, finished-count, settled-rooms, settled-answer_at, entry-count, entry-subgoals, entry-lasts}
use Rattle.plain.proofs.Changes.{AnswersEnter, no-more, one_more_lem, Changed, stayed, subgoal-enters, answer-enters, finishes, answers-enter, step-changed}

pub record Grows (t u : Table) : Type 0 where
  pub N : u.N ≡ t.N
  pub F : u.F ≡ t.F
  pub A : u.A ≡ t.A
  pub more-subgoals : length t.subgoals ≤ length u.subgoals
  pub subgoals : (s : ℕ) → s ≤ length t.subgoals → Lasts (subgoal_at t s) (subgoal_at u s)
  pub more-answers : length t.answers ≤ length u.answers
  pub answers : (a : ℕ) → a ≤ length t.answers → answer_at u a ≡ answer_at t a

pub grows-refl : (t : Table) → Grows t t
grows-refl t = record { N = refl; F = refl; A = refl; more-subgoals = omega arith; subgoals = λ s h. equal-lasts _ _ refl; more-answers = omega arith; answers = λ a h. refl }

pub grows-trans : (t u v : Table) → Grows t u → Grows u v → Grows t v
grows-trans t u v g h = record {
  N = h.N ∙ g.N;
  F = h.F ∙ g.F;
  A = h.A ∙ g.A;
  more-subgoals = omega (arith, g.more-subgoals, h.more-subgoals);
  subgoals = λ s k.
      let x = g.subgoals s k in
      let y = h.subgoals s (omega (arith, g.more-subgoals)) in
      record { form = y.form ∙ x.form; m = y.m ∙ x.m; finished = λ z. y.finished (x.finished z) };
  more-answers = omega (arith, g.more-answers, h.more-answers);
  answers = λ a k. h.answers a (omega (arith, g.more-answers)) ∙ g.answers a k;
}

pub answer-grows : (t : Table) (s : ℕ) (w : Word) → 0 < s → s ≤ length t.subgoals → Grows t (with_entry t s w)
answer-grows t s w low high =
    let rooms = settled-rooms (with_answer t s w) s in
    record {
      N = rooms.0;
      F = rooms.1;
      A = rooms.2;
      more-subgoals = omega (arith, entry-subgoals t s w);
      subgoals = λ x h. entry-lasts t s w low high x;
      more-answers = omega (arith, entry-count t s w);
      answers = λ a h. settled-answer_at (with_answer t s w) s a ∙ answer_at-before t s w a h;
    }

pub entering-grows : {c : Coding} {s : ℕ} {t u : Table} → AnswersEnter c s t u → Grows t u
entering-grows {t = t} no-more = grows-refl t
entering-grows {s = s} {t = t} {u = u} (one_more_lem w e rest) = grows-trans t (with_entry t s w) u (answer-grows t s w e.low e.high) (entering-grows rest)

pub changed-grows : (c : Coding) (t u : Table) → Changed c t u → Grows t u
unfolding answer_at
changed-grows c t u stayed = grows-refl t
changed-grows c t u (subgoal-enters w m e) = record {
  N = refl;
  F = refl;
  A = refl;
  more-subgoals = omega (arith, subgoals-count t w m);
  subgoals = λ s h. equal-lasts _ _ (subgoal_at-before t w m s h);
  more-answers = omega arith;
  answers = λ a h. refl;
}
changed-grows c t u (answer-enters s w o e) = answer-grows t s w e.low e.high
changed-grows c t u (finishes s low high) = record {
  N = refl;
  F = refl;
  A = refl;
  more-subgoals = omega (arith, finished-count t s);
  subgoals = λ x h. subgoal_at-lasts t s x low high;
  more-answers = omega arith;
  answers = λ a h. refl;
}
changed-grows c t u (answers-enter s x o e) = entering-grows e

pub step-grows : (c : Coding) (t : Table) (q : Request) → Grows t (step c t q).state
step-grows c t q = changed-grows c t (step c t q).state (step-changed c t q)

pub left-grows : (c : Coding) (t : Table) (qs : List Request) → Grows t (left (step c) t qs)
unfolding left
left-grows c t [] = grows-refl t
left-grows c t (q ∷ qs) = grows-trans t (step c t q).state (left (step c) (step c t q).state qs) (step-grows c t q) (left-grows c (step c t q).state qs)
