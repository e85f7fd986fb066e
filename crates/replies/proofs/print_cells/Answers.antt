-- `print_cells` meets its contract: the cells behind their word, or a refusal.
use mathlib.Core.Path.{◌≡◌, sym, ap}
use native.Mathlib.Omega.{arith}
use lib.ListN.{take}
use lib.Seq.{length-take-le}
use Rattle.basis.specs.declared.refusals.Refusal.{Refusal}
use Rattle.forms.specs.declared.Unwritten.{Unwritten}
use Rattle.forms.specs.declared.Unwritten.TheVariants.{Refused, Short}
use Rattle.store.specs.Replies.{said_cells}
use Rattle.text.specs.Digits.{cell_texts}
use Rattle.text.proofs.DigitsLaws.{puts-append}
use Rattle.replies.specs.Texts.{text_cells, reply_text}
use Rattle.replies.proofs.print_cells.Goals as goal

pub slice_bounds-put_cells-end : goal.slice_bounds-put_cells-end
slice_bounds-put_cells-end c = sym (length-take-le _ _ (c.requires.by_index c.in-Ok.n (ap said_cells c.in-Ok.is)))

pub put_cells-requires : goal.put_cells-requires
put_cells-requires c =
    let n = c.requires.by_index c.in-Ok.n (ap said_cells c.in-Ok.is) in
    omega (arith, length-take-le _ _ n)

pub returns-in-Ok : goal.returns-in-Ok
unfolding reply_text
returns-in-Ok c =
    rw c.in-Ok.is
    (puts-append text_cells (cell_texts (take c.in-Ok.n c.args.out.now)) c.args.text.now _ _ _ _ _ c.put-end.ensures c.put_cells.ensures)

pub returns-in-Err-Refused : goal.returns-in-Err-Refused
unfolding reply_text
returns-in-Err-Refused c =
    let g = c.in-Err-Refused in
    let why : ◌≡◌ {A = Unwritten Refusal} g.field-0 (Refused g.r) = rw g.is at g.field-0-is in
    rw (g.is, why) c.print_refused.ensures

pub returns-in-Err-Short : goal.returns-in-Err-Short
unfolding reply_text
returns-in-Err-Short c =
    let g = c.in-Err-Short in
    let why : ◌≡◌ {A = Unwritten Refusal} g.field-0 (Short g.field-0-0) = rw g.is at g.field-0-is in
    rw (g.is, why) c.print_refused-in-Err-Short.ensures
