-- `put_field` meets its contract: what fill made stands behind the space.
use native.Mathlib.Omega.{arith}
use lib.ListN.{length-set}
use Rattle.text.proofs.DigitsLaws.{part_length, field_put}
use borrow.Author.Rules.{rules}
use Rattle.text.proofs.digits.put_field.Goals as goal

pub put-requires : goal.put-requires
put-requires c = simp length-set (omega (arith, part_length c.fill-first.new.buffer c.fill-first.result))

pub returns : goal.returns
returns c =
    let a = c.args in
    let f = c.fill-first in
    field_put a.text.now _ f.new.buffer _ a.at f.result _ (search rules) f.ensures.1 c.put.ensures
