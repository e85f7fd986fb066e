-- `why` meets its contract.
use Rattle.store.proofs.FindingLaws.{unindexed-answers}
use Rattle.reasons.proofs.why.Goals as goal

pub returns : goal.returns
returns c = record { answers = unindexed-answers _ _ _ _ _ c.why_indexed.ensures.answers_indexed; names_held = c.why_indexed.ensures.names_held }
