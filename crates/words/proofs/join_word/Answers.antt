-- `join_word` meets its contract: each variant by its word.
use Rattle.store.specs.Replies.{said_join_by}
use Rattle.words.specs.Words.{word}
use Rattle.words.proofs.WordLaws.{said-word}
use Rattle.words.proofs.join_word.Goals as goal

pub returns-in-Ok : goal.returns-in-Ok
unfolding word
returns-in-Ok g c = said-word (said_join_by g.R.Numbered.number) c.in-Ok.is _ c.result_word.ensures

pub returns-in-Err : goal.returns-in-Err
unfolding word
returns-in-Err g c = said-word (said_join_by g.R.Numbered.number) c.in-Err.is _ c.refusal_word.ensures
