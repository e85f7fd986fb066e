-- `space::records::subgoal_in` meets its contract.
use borrow.Author.Rules.{rules}
use Prim.Native.Nat.{◌≤◌}
use native.Mathlib.Omega.{arith}
use lib.ListN.{length}
use Rattle.space.specs.Sound.{subgoals_end}
use Rattle.space.proofs.FieldLaws.{subgoal-fields}
use Rattle.space.proofs.WidthLaws.{subgoals-stand}
use Rattle.space.proofs.records.subgoal_in.Goals as goal

pub subgoal_place-at-requires : goal.subgoal_place-at-requires
subgoal_place-at-requires c =
    let room_here : subgoals_end c.args.h.edition c.args.h.subgoal_offset c.args.s ≤ length c.args.space.now = subgoals-stand _ _ c.requires.0 _ (search rules) in
    (search rules, omega (arith, room_here))

pub field-leaf-requires : goal.field-leaf-requires
field-leaf-requires c =
    let room_here : subgoals_end c.args.h.edition c.args.h.subgoal_offset c.args.s ≤ length c.args.space.now = subgoals-stand _ _ c.requires.0 _ (search rules) in
    omega (arith, room_here)

pub field-root-requires : goal.field-root-requires
field-root-requires c =
    let room_here : subgoals_end c.args.h.edition c.args.h.subgoal_offset c.args.s ≤ length c.args.space.now = subgoals-stand _ _ c.requires.0 _ (search rules) in
    omega (arith, room_here)

pub field-variables-requires : goal.field-variables-requires
field-variables-requires c =
    let room_here : subgoals_end c.args.h.edition c.args.h.subgoal_offset c.args.s ≤ length c.args.space.now = subgoals-stand _ _ c.requires.0 _ (search rules) in
    omega (arith, room_here)

pub field-state-requires : goal.field-state-requires
field-state-requires c =
    let room_here : subgoals_end c.args.h.edition c.args.h.subgoal_offset c.args.s ≤ length c.args.space.now = subgoals-stand _ _ c.requires.0 _ (search rules) in
    omega (arith, room_here)

pub field-first-requires : goal.field-first-requires
field-first-requires c =
    let room_here : subgoals_end c.args.h.edition c.args.h.subgoal_offset c.args.s ≤ length c.args.space.now = subgoals-stand _ _ c.requires.0 _ (search rules) in
    omega (arith, room_here)

pub field-last-requires : goal.field-last-requires
field-last-requires c =
    let room_here : subgoals_end c.args.h.edition c.args.h.subgoal_offset c.args.s ≤ length c.args.space.now = subgoals-stand _ _ c.requires.0 _ (search rules) in
    omega (arith, room_here)

pub returns : goal.returns
returns c = subgoal-fields c.args.space.now _ _ c.subgoal_place-at.ensures.0 _ (search rules) (search rules) (search rules) (search rules) (search rules) (search rules)
