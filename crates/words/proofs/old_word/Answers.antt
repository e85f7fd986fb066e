-- `old_word` meets its contract: each state by its word.
use Rattle.plain.specs.Requests.{old_subgoal}
use Rattle.store.specs.Replies.{said_state}
use Rattle.words.specs.Words.{word}
use Rattle.words.proofs.WordLaws.{said-word}
use Rattle.words.proofs.old_word.Goals as goal

pub returns-in-Open : goal.returns-in-Open
unfolding word
returns-in-Open c = said-word (λ s. old_subgoal c.args.n (said_state s)) c.in-Open.is _ c.result_word.ensures

pub returns-in-Finished : goal.returns-in-Finished
unfolding word
returns-in-Finished c = said-word (λ s. old_subgoal c.args.n (said_state s)) c.in-Finished.is _ c.result_word-in-Finished.ensures
