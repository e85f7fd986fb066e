-- `space::records::read_subgoal` meets its contract.
use Rattle.basis.proofs.Tests.{told}
use Rattle.space.proofs.JudgingCases.{subgoal-read, subgoal-damaged}
use borrow.Author.Rules.{rules}
use Rattle.space.proofs.records.read_subgoal.Goals as goal

pub returns-then-subgoal_sound : goal.returns-then-subgoal_sound
returns-then-subgoal_sound c = subgoal-read _ _ _ _ _ (search rules) (search told)

pub returns : goal.returns
returns c = subgoal-damaged _ _ _ _ c.subgoal_in-y.result (search rules) (search told)
