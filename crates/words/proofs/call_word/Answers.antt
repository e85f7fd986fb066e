-- `call_word` meets its contract: each variant by its word.
use Rattle.store.specs.Replies.{said_call_by}
use Rattle.words.specs.Words.{word}
use Rattle.words.proofs.WordLaws.{said-word}
use Rattle.words.proofs.call_word.Goals as goal

pub returns-in-New : goal.returns-in-New
unfolding word
returns-in-New g c = said-word (said_call_by g.R.Numbered.number) c.in-New.is _ c.result_word.ensures

pub returns-in-Old : goal.returns-in-Old
unfolding word
returns-in-Old g c = said-word (said_call_by g.R.Numbered.number) c.in-Old.is _ c.old_word.ensures

pub returns-in-Refused : goal.returns-in-Refused
unfolding word
returns-in-Refused g c = said-word (said_call_by g.R.Numbered.number) c.in-Refused.is _ c.refusal_word.ensures
