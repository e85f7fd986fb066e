-- `space::records::read_answer` meets its contract.
use Rattle.basis.proofs.Tests.{told}
use Rattle.space.proofs.JudgingCases.{answer-read, answer-damaged}
use borrow.Author.Rules.{rules}
use Rattle.space.proofs.records.read_answer.Goals as goal

pub returns-then-answer_sound : goal.returns-then-answer_sound
returns-then-answer_sound c = answer-read _ _ _ _ _ _ (search rules) (search told)

pub returns : goal.returns
returns c = answer-damaged _ _ _ _ _ c.answer_in-y.result (search rules) (search told)
