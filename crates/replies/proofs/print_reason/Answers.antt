-- `print_reason` meets its contract: the variables after the number of an old subgoal, or two numbers.
use mathlib.Core.List.{◌∷◌}
use lib.ListN.{take}
use lib.Seq.{length-take-le}
use native.Mathlib.Omega.{arith}
use Rattle.store.specs.Replies.{NamesIn}
use Rattle.store.specs.declared.Reason.TheVariants as reason
use Rattle.text.specs.Digits.{word_and_number, decimal_text, cell_texts}
use Rattle.text.proofs.DigitsLaws.{decimal-length, puts-append}
use Rattle.replies.specs.Texts.{text_old, text_new, reason_text, reply_text}
use Rattle.replies.proofs.print_reason.Goals as goal

pub put_cells-requires : goal.put_cells-requires
put_cells-requires c =
    let held_here : NamesIn c.args.why.now.variables (reason.Old c.in-Old.n c.in-Old.m) = rw c.in-Old.is at c.requires.0 in
    omega (arith, decimal-length c.in-Old.n, held_here.1, length-take-le _ _ held_here.0)

pub returns-in-Old : goal.returns-in-Old
unfolding reply_text reason_text
returns-in-Old c = λ out.
    let g = c.args in
    rw c.in-Old.is
    (puts-append (word_and_number text_old c.in-Old.n) (cell_texts (take c.in-Old.m g.why.now.variables)) g.text.now _ _ _ _ _
    c.put_numbered-end.ensures c.put_cells.ensures)

pub put_field-requires : goal.put_field-requires
put_field-requires c = omega (arith, decimal-length c.in-New.k)

pub returns-in-New : goal.returns-in-New
unfolding reply_text reason_text
returns-in-New c = λ out.
    let g = c.args in
    rw c.in-New.is
    (puts-append (word_and_number text_new c.in-New.k) (32 ∷ decimal_text c.in-New.s) g.text.now _ _ _ _ _
    c.put_numbered-end-in-New.ensures c.put_field.ensures)
