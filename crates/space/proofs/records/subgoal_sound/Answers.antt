-- `space::records::subgoal_sound` meets its contract.
use mathlib.Core.Path.{◌∙◌}
use Rattle.space.proofs.JudgingCases.{subgoal-leaf, subgoal-root, subgoal-variables, subgoal-state, subgoal-first, subgoal-last, subgoal-both}
use borrow.Author.Rules.{rules}
use Rattle.space.proofs.records.subgoal_sound.Goals as goal

pub returns-then-nodes-y : goal.returns-then-nodes-y
returns-then-nodes-y c = subgoal-leaf _ _ _ (search rules)

pub returns-then-nodes-y-2 : goal.returns-then-nodes-y-2
returns-then-nodes-y-2 c = subgoal-root _ _ _ (search rules) (search rules)

pub returns-then-y-gt-MOST_VARIABLES : goal.returns-then-y-gt-MOST_VARIABLES
returns-then-y-gt-MOST_VARIABLES c = subgoal-variables _ _ _ (search rules) (search rules) (search rules)

pub returns-then-y-gt1 : goal.returns-then-y-gt1
returns-then-y-gt1 c = subgoal-state _ _ _ (search rules) (search rules) (search rules) (search rules)

pub returns-then-answers-y : goal.returns-then-answers-y
returns-then-answers-y c = subgoal-first _ _ _ (search rules) (search rules) (search rules) (search rules) (search rules)

pub returns-then-answers-y-2 : goal.returns-then-answers-y-2
returns-then-answers-y-2 c = subgoal-last _ _ _ (search rules) (search rules) (search rules) (search rules) (search rules) (search rules)

pub returns : goal.returns
returns c = c.both_or_neither.ensures ∙ subgoal-both _ _ _ (search rules) (search rules) (search rules) (search rules) (search rules) (search rules)
