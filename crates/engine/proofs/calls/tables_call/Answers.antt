-- `engine::calls::tables_call` meets its contract: the word of what `call` gives.
use Rattle.engine.proofs.calls.tables_call.Goals as goal

pub returns : goal.returns
returns c = (_, c.call.ensures, c.call_word.ensures)
