-- `space::records::answer_in` meets its contract.
use borrow.Author.Rules.{rules}
use Prim.Native.Nat.{◌≤◌}
use native.Mathlib.Omega.{arith}
use lib.ListN.{length}
use Rattle.space.specs.Sound.{answers_end}
use Rattle.space.proofs.FieldLaws.{answer-fields}
use Rattle.space.proofs.WidthLaws.{answers-stand}
use Rattle.space.proofs.records.answer_in.Goals as goal

pub answer_place-at-requires : goal.answer_place-at-requires
answer_place-at-requires c =
    let room_here : answers_end c.args.h.edition c.args.h.answer_offset c.args.a ≤ length c.args.space.now = answers-stand _ _ c.requires.0 _ (search rules) in
    (search rules, omega (arith, room_here))

pub field-leaf-requires : goal.field-leaf-requires
field-leaf-requires c =
    let room_here : answers_end c.args.h.edition c.args.h.answer_offset c.args.a ≤ length c.args.space.now = answers-stand _ _ c.requires.0 _ (search rules) in
    omega (arith, room_here)

pub field-subgoal-requires : goal.field-subgoal-requires
field-subgoal-requires c =
    let room_here : answers_end c.args.h.edition c.args.h.answer_offset c.args.a ≤ length c.args.space.now = answers-stand _ _ c.requires.0 _ (search rules) in
    omega (arith, room_here)

pub field-next-requires : goal.field-next-requires
field-next-requires c =
    let room_here : answers_end c.args.h.edition c.args.h.answer_offset c.args.a ≤ length c.args.space.now = answers-stand _ _ c.requires.0 _ (search rules) in
    omega (arith, room_here)

pub returns : goal.returns
returns c = answer-fields c.args.space.now _ _ c.answer_place-at.ensures.0 _ (search rules) (search rules) (search rules)
