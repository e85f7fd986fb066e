-- `engine::calls::tables_load` meets its contract: the word of what `load` gives.
use Rattle.words.proofs.WordLaws.{given-bounded, cells-bounded}
use Rattle.words.proofs.ReplyBounds.{step-bounded}
use Rattle.engine.proofs.calls.tables_load.Goals as goal

pub cells_word-requires-clause-few : goal.cells_word-requires-clause-few
cells_word-requires-clause-few c = cells-bounded _ (given-bounded c.load.ensures.0 (step-bounded _ _ _))

pub returns : goal.returns
returns c = (_, c.load.ensures, c.cells_word.ensures)
