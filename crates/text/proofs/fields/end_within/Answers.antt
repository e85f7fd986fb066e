-- `end_within` meets its contract: what was seen ends the field, or is longer than it may be.
use Rattle.text.proofs.FieldsLaws.{first-within, first-beyond}
use Rattle.text.proofs.fields.end_within.Goals as goal

pub returns-then-most-n : goal.returns-then-most-n
returns-then-most-n c = first-beyond _ _ _ _ c.min.ensures c.first_end-n.ensures c.if-most-n.true

pub returns : goal.returns
returns c = (first-within _ _ _ _ c.min.ensures c.first_end-n.ensures c.if-most-n.false, c.if-most-n.false)
