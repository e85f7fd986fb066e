-- `engine::calls::tables_why` meets its contract: the word and the cells of what `why` gives.
use Rattle.engine.proofs.calls.tables_why.Goals as goal

pub give_reason-requires-clause-held : goal.give_reason-requires-clause-held
give_reason-requires-clause-held c = c.why.ensures.names_held

pub returns : goal.returns
returns c = (_, c.why.ensures.answers, c.give_reason.ensures)
