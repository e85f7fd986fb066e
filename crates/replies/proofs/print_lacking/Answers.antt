-- `print_lacking` meets its contract: each state by its word.
use Rattle.replies.specs.Texts.{reply_text}
use Rattle.replies.proofs.print_lacking.Goals as goal

pub returns-in-Open : goal.returns-in-Open
unfolding reply_text
returns-in-Open c = λ out. rw c.in-Open.is c.put.ensures

pub returns-in-Finished : goal.returns-in-Finished
unfolding reply_text
returns-in-Finished c = λ out. rw c.in-Finished.is c.put-in-Finished.ensures
