-- `print_finish` meets its contract: each answer by its word.
use Rattle.replies.specs.Texts.{reply_text}
use Rattle.replies.proofs.print_finish.Goals as goal

pub returns-in-Ok : goal.returns-in-Ok
unfolding reply_text
returns-in-Ok c = λ out. rw c.in-Ok.is c.put.ensures

pub returns-in-Err : goal.returns-in-Err
unfolding reply_text
returns-in-Err c = λ out. rw c.in-Err.is c.print_refused.ensures
