-- `space::records::write_last` meets its contract.
use Rattle.space.proofs.FieldLaws.{field-written}
use Rattle.space.proofs.records.write_last.Goals as goal

pub returns : goal.returns
returns c = field-written c.args.space.now _ c.args.last 5 _ _ c.write_field.ensures c.subgoal_place-at.ensures.0
