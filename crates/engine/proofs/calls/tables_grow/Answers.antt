-- `engine::calls::tables_grow` meets its contract: the word of what `grow` gives.
use mathlib.Core.Path.{ap}
use Rattle.words.specs.Words.{said_fresh}
use Rattle.words.proofs.WordLaws.{given_word}
use Rattle.engine.proofs.calls.tables_grow.Goals as goal

pub returns : goal.returns
returns c = (given_word (ap said_fresh c.grow.ensures.0) _ c.done_word.ensures, c.grow.ensures.1)
