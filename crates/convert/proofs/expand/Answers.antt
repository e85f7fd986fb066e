-- `convert::expand` meets its contract: the edition is judged first.
use mathlib.Core.Path.{◌∙◌, sym}
use Rattle.convert.proofs.AnswerLaws.{expanded-in, edition-refused}
use Rattle.convert.proofs.expand.Goals as goal

pub returns-then-is_converter_edition : goal.returns-then-is_converter_edition
returns-then-is_converter_edition c = expanded-in _ _ _ _ _ _ (sym c.is_converter_edition.ensures ∙ c.if-is_converter_edition.true) c.expand_terms.ensures

pub returns : goal.returns
returns c = edition-refused _ _ _ _ (sym c.is_converter_edition.ensures ∙ c.if-is_converter_edition.false)
