-- `print_why` meets its contract: the reason, or a refusal.
use Rattle.replies.specs.Texts.{reply_text}
use Rattle.replies.proofs.print_why.Goals as goal

pub print_reason-requires : goal.print_reason-requires
print_reason-requires c = ((rw c.in-Ok.is at c.requires.0).1, c.requires.1)

pub returns-in-Ok : goal.returns-in-Ok
returns-in-Ok c = λ out. rw c.in-Ok.is (c.print_reason.ensures out)

pub returns-in-Err : goal.returns-in-Err
unfolding reply_text
returns-in-Err c = λ out. rw c.in-Err.is c.print_refused.ensures
