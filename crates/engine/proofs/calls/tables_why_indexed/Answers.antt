-- `engine::calls::tables_why_indexed` meets its contract: the word and the cells of what `why_indexed` gives.
use Rattle.engine.proofs.calls.tables_why_indexed.Goals as goal

pub give_reason-requires-clause-held : goal.give_reason-requires-clause-held
give_reason-requires-clause-held c = c.why_indexed.ensures.names_held

pub returns : goal.returns
returns c = (_, c.why_indexed.ensures.answers_indexed, c.give_reason.ensures)
