-- `indexing::nodes::node_fits` meets its contract.
use Rattle.indexing.proofs.NodeCases.{read-unfit, read_is, read-sound, read_named, read-falling, fit-link, fit-child, fit-sibling}
use Rattle.space.proofs.HeaderLaws.{bounds-nodes}
use Rattle.basis.proofs.Tests.{told, true-not-false}
use mathlib.Core.Path.{sym, ◌∙◌}
use Rattle.indexing.proofs.nodes.node_fits.Goals as goal
use Rattle.indexing.proofs.nodes.node_fits.Goals.{then-link_fits, else-link_fits}

pub returns-in-None : goal.returns-in-None
returns-in-None c = read-unfit c.args.space.now c.args.h c.args.n c.in-None.ensures

pub link_fits-requires : goal.link_fits-requires
link_fits-requires c =
    ((bounds-nodes _ _ c.requires.0, c.requires.1), read-falling c.args.space.now c.args.h _ _ c.in-Some.ensures c.requires)

pub parent_is-requires : goal.parent_is-requires
parent_is-requires c =
    (bounds-nodes _ _ c.requires.0, (read_named c.args.space.now c.args.h c.args.n c.in-Some.y c.in-Some.ensures c.requires).child-within)

pub parent_is-requires-then-parent_is : goal.parent_is-requires-then-parent_is
parent_is-requires-then-parent_is c =
    (bounds-nodes _ _ c.requires.0, (read_named c.args.space.now c.args.h c.args.n c.in-Some.y c.in-Some.ensures c.requires).sibling-within)

pub returns-then-parent_is : goal.returns-then-parent_is
returns-then-parent_is c = c.parent_is-then-parent_is.ensures ∙ elim c.if-link_fits.branch [
  | then-link_fits w ↦ fit-sibling _ _ (read-sound c.args.space.now c.args.h _ _ c.in-Some.ensures) c.in-Some.y (read_is c.args.space.now c.args.h _ _ c.in-Some.ensures) (told c.link_fits.ensures w.if-link_fits.true) (told w.parent_is.ensures (sym w.value-is ∙ c.if-parent_is.true))
  | else-link_fits w ↦ absurd (true-not-false c.if-parent_is.true (sym (w.value-is ∙ w.if-link_fits.false)))
]

pub returns-else-parent_is : goal.returns-else-parent_is
returns-else-parent_is c = c.if-parent_is.false ∙ elim c.if-link_fits.branch [
  | then-link_fits w ↦ fit-child _ _ (read-sound c.args.space.now c.args.h _ _ c.in-Some.ensures) c.in-Some.y (read_is c.args.space.now c.args.h _ _ c.in-Some.ensures) (told c.link_fits.ensures w.if-link_fits.true) (told w.parent_is.ensures (sym w.value-is ∙ c.if-parent_is.false))
  | else-link_fits w ↦ fit-link _ _ (read-sound c.args.space.now c.args.h _ _ c.in-Some.ensures) c.in-Some.y (read_is c.args.space.now c.args.h _ _ c.in-Some.ensures) (told c.link_fits.ensures w.if-link_fits.false)
]
