-- The contract of a call to which no out is lent: none is left.
use Rattle.std.specs.Prelude.{Err, Ok}
use Prim.Native.Nat.{ℕ}
use mathlib.Core.List.{List, [], ◌∷◌}
use mathlib.Core.Path.{◌≡◌, refl, sym}
use native.Mathlib.Omega.{arith}
use lib.ListN.{length}
use borrow.Author.Tests.{lt-leb}
use Rattle.plain.specs.Requests.{Request, call, answer, finish, why, Reply, lent}
use Rattle.space.specs.Heading.{space_header, Header}
use Rattle.trie.specs.Walks.{Finding}
use Rattle.store.specs.Decisions.{Decision, says, gives, enters_subgoal, enters_answer, enters_empty, finishes, enters_answers}
use Rattle.store.specs.Calls.{out_after, under_by, under_any_by, space_step_by, AnswersBy}
use Rattle.store.proofs.CallsCases.{Steps}

out_none : (d : Decision) → out_after d [] ≡ []
unfolding out_after
out_none (says r) = refl
out_none (gives []) = refl
out_none (gives (k ∷ ks)) = simp (lt-leb (length (k ∷ ks)) 0 (omega arith))
out_none (enters_subgoal parent last left m) = refl
out_none (enters_answer s parent last left) = refl
out_none (enters_empty s) = refl
out_none (finishes s) = refl
out_none (enters_answers s ws) = refl

module _ (find : Finding) where
  under_none : (cs : List ℕ) (q : Request) (x : Header) → lent q ≡ [] → (under_any_by find cs q x).out ≡ []
  unfolding under_any_by under_by
  under_none cs q (Ok h) e = rw e (out_none _)
  under_none cs q (Err r) e = e

  pub step-none : (cs : List ℕ) (q : Request) → lent q ≡ [] → [] ≡ (space_step_by find cs q).out
  unfolding space_step_by
  step-none cs q e = sym (under_none cs q (space_header cs) e)

  module _ (cs : List ℕ) (r : Reply) (cs' : List ℕ) where
    pub call-answers : (t : List ℕ) → Steps find cs (call t) r cs' → AnswersBy find cs (call t) r [] cs'
    unfolding lent
    call-answers t k = (k.0, step-none cs (call t) refl, k.1)

    pub answer-answers : (s : ℕ) (t : List ℕ) → Steps find cs (answer s t) r cs' → AnswersBy find cs (answer s t) r [] cs'
    unfolding lent
    answer-answers s t k = (k.0, step-none cs (answer s t) refl, k.1)

    pub why-answers : (t : List ℕ) → Steps find cs (why t) r cs' → AnswersBy find cs (why t) r [] cs'
    unfolding lent
    why-answers t k = (k.0, step-none cs (why t) refl, k.1)

    pub finish-answers : (s : ℕ) → Steps find cs (finish s) r cs' → AnswersBy find cs (finish s) r [] cs'
    unfolding lent
    finish-answers s k = (k.0, step-none cs (finish s) refl, k.1)
