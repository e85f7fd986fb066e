-- `print_used` meets its contract: each number behind those before it.
use mathlib.Core.List.{◌∷◌}
use native.Mathlib.Omega.{arith}
use Rattle.text.specs.Digits.{word_and_number, decimal_text}
use Rattle.text.proofs.DigitsLaws.{decimal-length, puts-append}
use Rattle.replies.specs.Texts.{text_counts}
use Rattle.replies.proofs.print_used.Goals as goal

pub put_field-subgoals_end-requires : goal.put_field-subgoals_end-requires
put_field-subgoals_end-requires c = omega (arith, decimal-length c.args.used.nodes)

pub put_field-requires : goal.put_field-requires
put_field-requires c = omega (arith, decimal-length c.args.used.nodes, decimal-length c.args.used.subgoals)

pub returns : goal.returns
returns c =
    let a = c.args in
    let u = a.used in
    let counts = word_and_number text_counts u.nodes in
    puts-append (word_and_number counts u.subgoals) (32 ∷ decimal_text u.answers) a.text.now _ _ _ _ _
    (puts-append counts (32 ∷ decimal_text u.subgoals) a.text.now _ _ _ _ _ c.put_numbered-nodes_end.ensures c.put_field-subgoals_end.ensures)
    c.put_field.ensures
