-- `space::records::answer_sound` meets its contract.
use native.Mathlib.Omega.{arith}
use mathlib.Core.Path.{◌∙◌}
use Rattle.space.proofs.JudgingCases.{answer-leaf, answer-none, answer-subgoal, answer-next}
use borrow.Author.Rules.{rules}
use Rattle.space.proofs.records.answer_sound.Goals as goal

pub returns-then-nodes-y : goal.returns-then-nodes-y
returns-then-nodes-y c = answer-leaf _ _ _ _ _ (search rules)

pub returns-then-y-le0 : goal.returns-then-y-le0
returns-then-y-le0 c = answer-none _ _ _ _ _ (search rules) (search rules)

pub returns-then-subgoals-y : goal.returns-then-subgoals-y
returns-then-subgoals-y c = answer-subgoal _ _ _ _ _ (search rules) (search rules) (search rules)

pub overflow_add-answers : goal.overflow_add-answers
overflow_add-answers c = omega arith

pub returns : goal.returns
returns c = c.follows_in.ensures ∙ answer-next _ _ _ _ _ (search rules) (search rules) (search rules)
