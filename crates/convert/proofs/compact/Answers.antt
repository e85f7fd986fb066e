-- `convert::compact` meets its contract: the edition is judged first.
use mathlib.Core.Path.{◌∙◌, sym}
use Rattle.convert.proofs.AnswerLaws.{compacted-in, edition-refused}
use Rattle.convert.proofs.compact.Goals as goal

pub returns-then-is_converter_edition : goal.returns-then-is_converter_edition
returns-then-is_converter_edition c = compacted-in _ _ _ _ _ _ (sym c.is_converter_edition.ensures ∙ c.if-is_converter_edition.true) c.compact_terms.ensures

pub returns : goal.returns
returns c = edition-refused _ _ _ _ (sym c.is_converter_edition.ensures ∙ c.if-is_converter_edition.false)
