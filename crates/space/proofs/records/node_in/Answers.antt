-- `space::records::node_in` meets its contract.
use borrow.Author.Rules.{rules}
use Rattle.space.proofs.FieldLaws.{node-fields}
use Rattle.space.proofs.records.node_in.Goals as goal

pub returns : goal.returns
returns c = node-fields c.args.space.now _ _ c.node_place-at.ensures _ (search rules) (search rules) (search rules) (search rules) (search rules)
