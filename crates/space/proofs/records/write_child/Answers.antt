-- `space::records::write_child` meets its contract.
use Rattle.space.proofs.FieldLaws.{field-written}
use Rattle.space.proofs.records.write_child.Goals as goal

pub returns : goal.returns
returns c = field-written c.args.space.now _ c.args.child 1 _ _ c.write_field.ensures c.node_place-at.ensures
