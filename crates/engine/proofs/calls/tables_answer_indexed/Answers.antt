-- `engine::calls::tables_answer_indexed` meets its contract: the word of what `answer_indexed` gives.
use Rattle.engine.proofs.calls.tables_answer_indexed.Goals as goal

pub returns : goal.returns
returns c = (_, c.answer_indexed.ensures, c.answer_word.ensures)
