-- `engine::calls::tables_call_indexed` meets its contract: the word of what `call_indexed` gives.
use Rattle.engine.proofs.calls.tables_call_indexed.Goals as goal

pub returns : goal.returns
returns c = (_, c.call_indexed.ensures, c.call_word.ensures)
