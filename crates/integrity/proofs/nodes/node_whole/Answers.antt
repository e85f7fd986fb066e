-- `integrity::nodes::node_whole` meets its contract.
use Rattle.integrity.proofs.NodeCases.{node-damaged, read_is, read-sound, child-within, read-node-of, read-child-of, node-child, node-link, node-root, node-below}
use Rattle.basis.proofs.Tests.{told}
use mathlib.Core.Path.{◌∙◌}
use Rattle.space.proofs.HeaderLaws.{bounds-nodes}
use borrow.Author.Rules.{rules}
use Rattle.integrity.proofs.nodes.node_whole.Goals as goal
use Rattle.integrity.proofs.nodes.node_whole.Goals.{then-not-parent_is-via-then-not-parent_is, then-not-parent_is-via-else-not-parent_is+then-not-leads_back}

pub returns-in_default : goal.returns-in_default
returns-in_default c = node-damaged c.args.table.now (c.args.i) c.in_default.ensures

pub parent_is-requires : goal.parent_is-requires
parent_is-requires c = (bounds-nodes _ _ c.args.table.now.within, child-within c.args.table.now (c.args.i) (c.in-Some.y) c.in-Some.ensures (c.requires.0))

pub root_whole-requires : goal.root_whole-requires
root_whole-requires c = read-node-of c.args.table.now (c.args.i) (c.in-Some.y) c.in-Some.ensures (c.requires.0)

pub returns-then-y-i : goal.returns-then-y-i
returns-then-y-i c = c.root_whole.ensures ∙ node-root _ _ _ (read-sound c.args.table.now (c.args.i) (c.in-Some.y) c.in-Some.ensures) (c.in-Some.y) (read_is c.args.table.now (c.args.i) (c.in-Some.y) c.in-Some.ensures) (told (c.parent_is.ensures) (c.if-not-parent_is.false)) (told (c.leads_back.ensures) (c.if-not-leads_back.false)) (search rules)

pub child_whole-requires : goal.child_whole-requires
child_whole-requires c = read-child-of c.args.table.now (c.args.i) (c.in-Some.y) c.in-Some.ensures (c.requires.0) (c.requires.1) (search rules)

pub returns-else-y-i : goal.returns-else-y-i
returns-else-y-i c = c.child_whole.ensures ∙ node-below _ _ _ (read-sound c.args.table.now (c.args.i) (c.in-Some.y) c.in-Some.ensures) (c.in-Some.y) (read_is c.args.table.now (c.args.i) (c.in-Some.y) c.in-Some.ensures) (told (c.parent_is.ensures) (c.if-not-parent_is.false)) (told (c.leads_back.ensures) (c.if-not-leads_back.false)) (search rules)

pub returns-then-not-parent_is : goal.returns-then-not-parent_is
returns-then-not-parent_is c = elim c.then-not-parent_is.branch [
  | then-not-parent_is-via-then-not-parent_is w ↦ node-child _ _ _ (read-sound c.args.table.now (c.args.i) (c.in-Some.y) c.in-Some.ensures) (c.in-Some.y) (read_is c.args.table.now (c.args.i) (c.in-Some.y) c.in-Some.ensures) (told c.parent_is.ensures w.if-not-parent_is.true)
  | then-not-parent_is-via-else-not-parent_is+then-not-leads_back w ↦ node-link _ _ _ (read-sound c.args.table.now (c.args.i) (c.in-Some.y) c.in-Some.ensures) (c.in-Some.y) (read_is c.args.table.now (c.args.i) (c.in-Some.y) c.in-Some.ensures) (told c.parent_is.ensures w.if-not-parent_is.false) (told w.leads_back.ensures w.if-not-leads_back.true)
]
