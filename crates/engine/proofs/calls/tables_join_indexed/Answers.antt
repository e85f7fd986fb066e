-- `engine::calls::tables_join_indexed` meets its contract: the word of what `join_indexed` gives.
use Rattle.engine.proofs.calls.tables_join_indexed.Goals as goal

pub returns : goal.returns
returns c = (_, c.join_indexed.ensures, c.join_word.ensures)
