-- `subgoal_of` meets its contract: what call finds at the leaf.
use mathlib.Core.Logic.{inl, inr}
use Rattle.space.proofs.HeaderLaws.{bounds-nodes}
use Rattle.reasons.proofs.WhyCases.{leaf-named, leaf-unnamed, new-other, refused-other, link-most}
use Rattle.reasons.proofs.subgoal_of.Goals as goal

pub node_in-y-requires : goal.node_in-y-requires
node_in-y-requires c = (bounds-nodes _ _ c.requires.0, c.requires.1.0)

pub call_old-requires : goal.call_old-requires
call_old-requires c = (c.requires.0, link-most c.args.space.now c.args.h _ _ c.requires.1 c.node_in-y.ensures)

pub returns-in-Old : goal.returns-in-Old
returns-in-Old c =
    leaf-named c.args.space.now c.args.h c.args.leaf _ c.node_in-y.ensures _ _ (rw c.in-Old.is at c.call_old.ensures)

pub returns-in-New : goal.returns-in-New
returns-in-New c = elim c.in-New.is [
  | inl w ↦ leaf-unnamed c.args.space.now c.args.h c.args.leaf _ c.node_in-y.ensures _ (rw w.1 at c.call_old.ensures) (new-other _)
  | inr w ↦ leaf-unnamed c.args.space.now c.args.h c.args.leaf _ c.node_in-y.ensures _ (rw w.1 at c.call_old.ensures) (refused-other _)
]
