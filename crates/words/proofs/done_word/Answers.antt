-- `done_word` meets its contract: each variant by its word.
use Rattle.store.specs.Replies.{said_finish_by}
use Rattle.words.specs.Words.{word}
use Rattle.words.proofs.WordLaws.{said-word}
use Rattle.words.proofs.done_word.Goals as goal

pub returns : goal.returns
unfolding word
returns g c = said-word (said_finish_by g.R.Numbered.number) c.in_default.is _ c.result_word.ensures

pub returns-in-Err : goal.returns-in-Err
unfolding word
returns-in-Err g c = said-word (said_finish_by g.R.Numbered.number) c.in-Err.is _ c.refusal_word.ensures
