-- `calling::call` meets its contract.
use Rattle.store.proofs.FindingLaws.{unindexed-answers}
use Rattle.calling.proofs.call.Goals as goal

pub returns : goal.returns
returns c = unindexed-answers _ _ _ _ _ c.call_indexed.ensures
