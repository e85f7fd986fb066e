-- `first_end` meets its contract: the first space ends the first field.
use Rattle.text.proofs.FieldsLaws.{first_end}
use Rattle.text.proofs.fields.first_end.Goals as goal

pub returns : goal.returns
returns c = first_end _ _ _ c.first_space.ensures c.unwrap_or.ensures
