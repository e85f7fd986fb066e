-- `answering::answer` meets its contract.
use Rattle.store.proofs.FindingLaws.{unindexed-answers}
use Rattle.answering.proofs.answer.Goals as goal

pub returns : goal.returns
returns c = unindexed-answers _ _ _ _ _ c.answer_indexed.ensures
