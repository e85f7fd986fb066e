-- `engine::calls::tables_answer` meets its contract: the word of what `answer` gives.
use Rattle.engine.proofs.calls.tables_answer.Goals as goal

pub returns : goal.returns
returns c = (_, c.answer.ensures, c.answer_word.ensures)
