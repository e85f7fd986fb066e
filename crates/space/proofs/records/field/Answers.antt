-- `space::records::field` meets its contract.
use Rattle.space.proofs.records.field.Goals as goal

pub returns : goal.returns
returns c = c.wide.ensures.0
