-- `join::joins::join` meets its contract.
use Rattle.store.proofs.FindingLaws.{unindexed-answers}
use Rattle.join.proofs.joins.join.Goals as goal

pub returns : goal.returns
returns c = unindexed-answers _ _ _ _ _ c.join_indexed.ensures
