-- `engine::calls::tables_finish` meets its contract: the word of what `finish` gives.
use Rattle.engine.proofs.calls.tables_finish.Goals as goal

pub returns : goal.returns
returns c = (_, c.finish.ensures, c.done_word.ensures)
