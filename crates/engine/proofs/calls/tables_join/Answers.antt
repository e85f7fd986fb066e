-- `engine::calls::tables_join` meets its contract: the word of what `join` gives.
use Rattle.engine.proofs.calls.tables_join.Goals as goal

pub returns : goal.returns
returns c = (_, c.join.ensures, c.join_word.ensures)
