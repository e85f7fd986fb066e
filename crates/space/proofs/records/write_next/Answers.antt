-- `space::records::write_next` meets its contract.
use Rattle.space.proofs.FieldLaws.{field-written}
use Rattle.space.proofs.records.write_next.Goals as goal

pub returns : goal.returns
returns c = field-written c.args.space.now _ c.args.next 2 _ _ c.write_field.ensures c.answer_place-at.ensures.0
