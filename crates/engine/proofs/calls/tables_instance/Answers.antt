-- `engine::calls::tables_instance` meets its contract: the word of what `instance` gives.
use Rattle.words.proofs.WordLaws.{given-bounded, cells-bounded}
use Rattle.words.proofs.ReplyBounds.{step-bounded}
use Rattle.engine.proofs.calls.tables_instance.Goals as goal

pub cells_word-requires-clause-few : goal.cells_word-requires-clause-few
cells_word-requires-clause-few c = cells-bounded _ (given-bounded c.instance.ensures.0 (step-bounded _ _ _))

pub returns : goal.returns
returns c = (_, c.instance.ensures, c.cells_word.ensures)
