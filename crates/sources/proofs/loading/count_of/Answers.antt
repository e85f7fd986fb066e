-- `sources::loading::count_of` meets its contract.
use Rattle.sources.proofs.LoadCases.{count-answers, count-subgoals}
use Rattle.sources.proofs.loading.count_of.Goals as goal

pub returns-in-Answers : goal.returns-in-Answers
returns-in-Answers c = count-answers _ c.in-Answers.is

pub returns-in-Subgoals : goal.returns-in-Subgoals
returns-in-Subgoals c = count-subgoals _ c.in-Subgoals.is
