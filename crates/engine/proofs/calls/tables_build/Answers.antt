-- `engine::calls::tables_build` meets its contract: the word of what the build answers.
use mathlib.Core.Path.{ap, ◌∙◌}
use Rattle.words.specs.Words.{word_build}
use Rattle.engine.proofs.calls.tables_build.Goals as goal

pub returns : goal.returns
returns c = (c.build_word.ensures ∙ ap word_build c.build.ensures.0, c.build.ensures.1)
