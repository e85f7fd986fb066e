-- `print_counts` meets its contract: each answer by its word.
use Rattle.replies.specs.Texts.{reply_text}
use Rattle.replies.proofs.print_counts.Goals as goal

pub returns-in-Ok : goal.returns-in-Ok
unfolding reply_text
returns-in-Ok c = λ out. rw c.in-Ok.is c.print_used.ensures

pub returns-in-Err : goal.returns-in-Err
unfolding reply_text
returns-in-Err c = λ out. rw c.in-Err.is c.print_refused.ensures
