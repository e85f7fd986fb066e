-- `engine::calls::tables_fresh` meets its contract: the word of what `fresh` gives.
use mathlib.Core.Path.{ap}
use Rattle.words.specs.Words.{said_fresh}
use Rattle.words.proofs.WordLaws.{given_word}
use Rattle.engine.proofs.calls.tables_fresh.Goals as goal

pub returns : goal.returns
returns c = (given_word (ap said_fresh c.fresh.ensures.0) _ c.done_word.ensures, c.fresh.ensures.1)
