-- What a copy stores, counted without writing: the count for a source that does not pass the check.
use Rattle.std.specs.Prelude.{ℕ, suc, ◌+◌, ◌-◌, ◌≤◌, ◌<◌, ◌≡◌, List, [], ◌∷◌, length}
use Rattle.plain.specs.Words.{brings, most}
use Rattle.plain.specs.Table.{Table, Answer, subgoal_of_answer, called_forms, answers_to, nodes}

-- answers one after another, those before them given: each its tokens past the longest prefix that it shares with one
-- before it under the same subgoal
unfoldable pub answers_bring : List Answer → List Answer → ℕ
answers_bring before [] = 0
answers_bring before (y ∷ ys) =
    (length y.form - most (answers_to before y.subgoal) y.form) + answers_bring (y ∷ before) ys

-- a root for the subgoals and one for the answers to each, and what the forms bring
abbrev pub Needs : Type 0
Needs = (t : Table) → ((a : ℕ) → 0 < a → a ≤ length t.answers
    → (0 < subgoal_of_answer t a) × (subgoal_of_answer t a ≤ length t.subgoals))
    → nodes t ≡ suc (brings [] [] (called_forms t.subgoals)) + length t.subgoals + answers_bring [] t.answers
