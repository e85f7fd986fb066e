-- `build_word` meets its contract: each variant by its word.
use Rattle.words.specs.Words.{word, word_build}
use Rattle.words.proofs.build_word.Goals as goal

pub returns-in-Ok : goal.returns-in-Ok
unfolding word_build
returns-in-Ok g c = rw c.in-Ok.is c.result_word.ensures

pub returns-in-Err : goal.returns-in-Err
unfolding word_build word
returns-in-Err g c = rw c.in-Err.is c.refusal_word.ensures
