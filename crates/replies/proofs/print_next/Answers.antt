-- `print_next` meets its contract: each answer by its word.
use mathlib.Core.Path.{◌≡◌}
use Rattle.store.specs.declared.Next.{Next}
use Rattle.store.specs.declared.Next.TheVariants as next
use Rattle.replies.specs.Texts.{reply_text}
use Rattle.replies.proofs.print_next.Goals as goal

pub returns-in-Ok-At : goal.returns-in-Ok-At
unfolding reply_text
returns-in-Ok-At c = λ out.
    let g = c.in-Ok-At in
    let which : ◌≡◌ {A = Next} g.field-0 (next.At g.n) = rw g.is at g.field-0-is in
    rw (g.is, which) c.put_numbered.ensures

pub returns-in-Ok-Lacking : goal.returns-in-Ok-Lacking
returns-in-Ok-Lacking c = λ out.
    let g = c.in-Ok-Lacking in
    let which : ◌≡◌ {A = Next} g.field-0 (next.Lacking g.state) = rw g.is at g.field-0-is in
    rw (g.is, which) (c.print_lacking.ensures out)

pub returns-in-Err : goal.returns-in-Err
unfolding reply_text
returns-in-Err c = λ out. rw c.in-Err.is c.print_refused.ensures
