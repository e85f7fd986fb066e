-- The contracts of the code that copies: of the copy itself, which has no `requires`, and of the loops below it.
use Rattle.std.specs.Prelude.{ℕ, suc, ◌+◌, ◌≡◌, Bool, ◌&&◌, List, [], leb}
use Rattle.plain.specs.Words.{brings}
use Rattle.plain.specs.Table.{Subgoal, Answer, called_forms}
use Rattle.space.specs.Layout.{Sizes, subgoal_offset_of}
use Rattle.space.specs.Fresh.{fresh_space, FreshAnswer}
use Rattle.store.specs.Views.{View}
use Rattle.agreement.specs.Whole.{up_to, subgoal_read, answer_read, table_read}
use Rattle.carrying.specs.Recoding.{Recoding}
use Rattle.carrying.specs.Carrying.{carried_subgoal, carried_answer}
use Rattle.carrying.specs.Copying.{subgoals_given, answers_given, states_given, copy_reply, copy_space}
use Rattle.carrying.specs.Needs.{answers_bring}

-- a copy answers x and leaves `after` of the target
abbrev pub CopiesInto : (e d : ℕ) → Recoding → (n f a : ℕ) → (source target : List ℕ)
    → FreshAnswer → List ℕ → Type 0
CopiesInto e d r n f a source target x after =
    (x ≡ copy_reply e d r n f a source target) × (after ≡ copy_space e d r n f a source target)

-- ---- the records of the source as they are written, by number: the first i of them

abbrev pub first_subgoals : Recoding → View → ℕ → List Subgoal
first_subgoals r v i = up_to (λ j. carried_subgoal r (subgoal_read v (suc j))) i

abbrev pub first_answers : Recoding → View → ℕ → List Answer
first_answers r v i = up_to (λ j. carried_answer r (answer_read v (suc j))) i

-- ---- the target after so many: what each loop leaves

module _ (z : Sizes) (r : Recoding) (v : View) (n f a : ℕ) (target : List ℕ) where
  abbrev pub after_subgoals : ℕ → List ℕ
  after_subgoals i = subgoals_given z (fresh_space z n f a target) (first_subgoals r v i)

  abbrev pub after_answers : ℕ → List ℕ
  after_answers i = answers_given z (after_subgoals v.subgoals) (first_answers r v i)

  abbrev pub after_states : ℕ → List ℕ
  after_states i = states_given z (subgoal_offset_of z n) (after_answers v.answers) 1 (first_subgoals r v i)

-- ---- the slow count

-- the capacities are enough, by the count that writes nothing
abbrev pub slow_fits : ℕ → ℕ → ℕ → View → Bool
slow_fits n f a v =
    let t = table_read v in
    leb (suc (brings [] [] (called_forms t.subgoals)) + v.subgoals + answers_bring [] t.answers) n
    && leb v.subgoals f && leb v.answers a
