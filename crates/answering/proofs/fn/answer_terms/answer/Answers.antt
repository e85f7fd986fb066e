-- The closure of `answer_terms` meets its contract: the terms that it read are answered.
use Rattle.store.proofs.CallsReading.{form-within}
use borrow.Author.Rules.{rules}
use Rattle.answering.proofs.fn.answer_terms.answer.Goals as goal

pub answer_read-requires : goal.answer_read-requires
answer_read-requires c = (search rules, form-within _ _ _ _ _ _ c.read_terms-read.ensures)

pub returns : goal.returns
returns c = c.answer_read.ensures _ _ c.read_terms-read.ensures
