-- `is_word` meets its contract.
use mathlib.Core.Path.{◌∙◌}
use Rattle.text.proofs.FieldsLaws.{same-pointwise}
use Rattle.text.proofs.fields.is_word.Goals as goal

pub returns : goal.returns
returns c = c.eq.ensures ∙ same-pointwise _ _
