-- `engine::calls::tables_next` meets its contract: the word of what `next` gives.
use Rattle.engine.proofs.calls.tables_next.Goals as goal

pub returns : goal.returns
returns c = (_, c.next.ensures, c.next_word.ensures)
