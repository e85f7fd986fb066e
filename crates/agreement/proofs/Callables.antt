-- Every subgoal that calls make is a term to call: its form begins with an atom or a functor.
use Prim.Native.Nat.{ℕ, suc, ◌≤◌, ◌<◌}
use mathlib.Core.Path.{◌≡◌}
use mathlib.Core.Bool.{true}
use mathlib.Core.List.{List, [], ◌∷◌}
use native.Mathlib.Omega.{arith}
use lib.Dec.{eqb}
use lib.ListN.{length}
use borrow.Author.Tests.{eqb-true, eqb-false}
use Rattle.basis.proofs.Cases.{by_cases}
use Rattle.plain.specs.Words.{Word}
use Rattle.plain.specs.Coding.{Coding, predicate}
use Rattle.plain.specs.Requests.{Request, left}
use Rattle.plain.specs.Table.{Table, fresh, subgoal_at, with_subgoal, with_finished, with_entry, step}
use Rattle.plain.proofs.RecordLaws.{subgoal_at-before, subgoal_at-new, subgoals-count, subgoal_at-lasts, finished-count, entry-lasts, entry-subgoals}
use Rattle.plain.proofs.Changes.{SubgoalEnters, AnswerEnters, AnswersEnter, no-more, one_more_lem, Changed, stayed, subgoal-enters, answer-enters, finishes, answers-enter, step-changed}
use Rattle.agreement.specs.Whole.{ReadingAgain}

abbrev pub Callable : Table → Type 0
Callable t = (s : ℕ) → 0 < s → s ≤ length t.subgoals → predicate (subgoal_at t s).form ≡ true

pub callable-fresh : (n f a : ℕ) → Callable (fresh n f a)
callable-fresh n f a s h k = absurd (omega arith)

-- the same forms
callable-same : (t u : Table) → length u.subgoals ≡ length t.subgoals → ((s : ℕ) → (subgoal_at u s).form ≡ (subgoal_at t s).form) → Callable t → Callable u
callable-same t u n e b s h k = rw (e s) (b s h (omega arith))

module _ (c : Coding) (again : ReadingAgain c) where
  callable-entry : (t : Table) (s : ℕ) (w : Word) → AnswerEnters c t s w → Callable t → Callable (with_entry t s w)
  callable-entry t s w e b = callable-same t (with_entry t s w) (entry-subgoals t s w) (λ x. (entry-lasts t s w e.low e.high x).form) b

  callable-entered : {s : ℕ} {t u : Table} → AnswersEnter c s t u → Callable t → Callable u
  callable-entered no-more b = b
  callable-entered {s} {t} (one_more_lem w e rest) b = callable-entered rest (callable-entry t s w e b)

  callable-called : (t : Table) (w : Word) (m : ℕ) → SubgoalEnters c t w m → Callable t → Callable (with_subgoal t w m)
  callable-called t w m e b s h k = by_cases (eqb s (suc (length t.subgoals)))
      (λ q. let z : s ≡ suc (length t.subgoals) = eqb-true _ _ q in rw (z, subgoal_at-new t w m) (again.called-begins e.cs w m e.reading))
      (λ q. let l : s ≤ length t.subgoals = before s k (eqb-false _ _ q) in rw (subgoal_at-before t w m s l) (b s h l))
    where
      before : (s : ℕ) → s ≤ length (with_subgoal t w m).subgoals → (s ≡ suc (length t.subgoals) → ⊥) → s ≤ length t.subgoals
      before s k ne = omega (arith, subgoals-count t w m)

  callable-changed : (t u : Table) → Changed c t u → Callable t → Callable u
  callable-changed t u stayed b = b
  callable-changed t u (subgoal-enters w m e) b = callable-called t w m e b
  callable-changed t u (answer-enters s w o e) b = callable-entry t s w e b
  callable-changed t u (finishes s low high) b = callable-same t (with_finished t s) (finished-count t s) (λ x. (subgoal_at-lasts t s x low high).form) b
  callable-changed t u (answers-enter s x o e) b = callable-entered e b

  pub callable-left : (qs : List Request) (t : Table) → Callable t → Callable (left (step c) t qs)
  unfolding left
  callable-left [] t b = b
  callable-left (q ∷ qs) t b = callable-left qs (step c t q).state (callable-changed t (step c t q).state (step-changed c t q) b)
