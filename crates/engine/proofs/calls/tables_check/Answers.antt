-- `engine::calls::tables_check` meets its contract: the word of what the check finds.
use mathlib.Core.Path.{ap, ◌∙◌}
use Rattle.words.specs.Words.{word_check}
use Rattle.words.proofs.FaultBounds.{fault-bounded, given-bounded}
use Rattle.engine.proofs.calls.tables_check.Goals as goal

pub check_word-requires : goal.check_word-requires
check_word-requires c = given-bounded c.check.ensures (fault-bounded _)

pub returns : goal.returns
returns c = c.check_word.ensures ∙ ap word_check c.check.ensures
