-- `engine::calls::tables_carry` meets its contract: the word of what the copy gives.
use mathlib.Core.Path.{ap}
use Rattle.words.specs.Words.{said_fresh}
use Rattle.words.proofs.WordLaws.{given_word}
use Rattle.engine.proofs.calls.tables_carry.Goals as goal

pub returns : goal.returns
returns c = (
  given_word (ap said_fresh c.carry.ensures.0) _ c.done_word.ensures,
  c.carry.ensures.1,
)
