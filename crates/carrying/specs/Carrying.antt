-- A plain table carried over: the same subgoals and answers, by number, with the new payloads and capacities.
use Rattle.basis.specs.declared.refusals.Refusal.TheVariants as refusal
use Rattle.space.specs.Fresh.{FreshAnswer}
use Rattle.std.specs.Prelude.{ℕ, Bool, true, ◌&&◌, not, List, [], ◌∷◌, map, leb, length, Err, Ok}
use Rattle.basis.specs.Choice.{pick}
use Rattle.plain.specs.Words.{Word, has}
use Rattle.plain.specs.Table.{Table, Subgoal, Answer, called_forms, nodes}
use Rattle.carrying.specs.Recoding.{Recoding, recoded, takes_word}

abbrev pub carried_subgoal : Recoding → Subgoal → Subgoal
carried_subgoal r g = record { form = recoded r g.form; m = g.m; state = g.state }

abbrev pub carried_answer : Recoding → Answer → Answer
carried_answer r y = record { subgoal = y.subgoal; form = recoded r y.form }

abbrev pub carried : Recoding → ℕ → ℕ → ℕ → Table → Table
carried r n f a t = record {
  N = n;
  F = f;
  A = a;
  subgoals = map (carried_subgoal r) t.subgoals;
  answers = map (carried_answer r) t.answers;
}

-- ---- refusals 18 and 19

abbrev pub answer_forms : List Answer → List Word
answer_forms l = map (λ y. y.form) l

unfoldable pub takes_words : Recoding → List Word → Bool
takes_words r [] = true
takes_words r (w ∷ ws) = takes_word r w && takes_words r ws

-- every token of every form can be stored
unfoldable pub takes_table : Recoding → Table → Bool
takes_table r t = takes_words r (called_forms t.subgoals) && takes_words r (answer_forms t.answers)

-- the capacities are enough for what the table holds
unfoldable pub holdable : Table → Bool
holdable t = leb (nodes t) t.N && leb (length t.subgoals) t.F && leb (length t.answers) t.A

unfoldable pub carrying : Recoding → ℕ → ℕ → ℕ → Table → FreshAnswer
carrying r n f a t =
    pick (takes_table r t) (pick (holdable (carried r n f a t)) (Ok tt) (Err refusal.Capacity))
    (Err refusal.Functor)

-- ---- none alike

-- no word comes again
unfoldable pub all_different : List Word → Bool
all_different [] = true
all_different (w ∷ ws) = not (has ws w) && all_different ws

-- an answer's form under its subgoal, as one word
abbrev pub answer_keys : List Answer → List Word
answer_keys l = map (λ y. y.subgoal ∷ y.form) l

-- no two subgoals have one form, and no two answers under one subgoal
unfoldable pub none_alike : Table → Bool
none_alike t = all_different (called_forms t.subgoals) && all_different (answer_keys t.answers)
