-- `print_answer` meets its contract: each answer by its word.
use mathlib.Core.Path.{◌≡◌}
use Rattle.store.specs.declared.Entry.{Entry}
use Rattle.store.specs.declared.Entry.TheVariants as entry
use Rattle.replies.specs.Texts.{reply_text}
use Rattle.replies.proofs.print_answer.Goals as goal

pub returns-in-Ok-New : goal.returns-in-Ok-New
unfolding reply_text
returns-in-Ok-New c = λ out.
    let g = c.in-Ok-New in
    let which : ◌≡◌ {A = Entry} g.field-0 (entry.New g.n) = rw g.is at g.field-0-is in
    rw (g.is, which) c.put_numbered.ensures

pub returns-in-Ok-Old : goal.returns-in-Ok-Old
unfolding reply_text
returns-in-Ok-Old c = λ out.
    let g = c.in-Ok-Old in
    let which : ◌≡◌ {A = Entry} g.field-0 (entry.Old g.n) = rw g.is at g.field-0-is in
    rw (g.is, which) c.put_numbered-in-Ok-Old.ensures

pub returns-in-Err : goal.returns-in-Err
unfolding reply_text
returns-in-Err c = λ out. rw c.in-Err.is c.print_refused.ensures
