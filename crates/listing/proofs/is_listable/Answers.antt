-- `is_listable` meets its contract, one case to each return.
use Rattle.listing.proofs.Tests.{refuted, confirmed}
use mathlib.Core.Path.{◌∙◌}
use Rattle.listing.proofs.Letters.{list-edition, list-none, list-large, list-many, list-symbols}
use Rattle.listing.proofs.is_listable.Goals as goal
use Rattle.listing.proofs.is_listable.Goals.{then-not-is_converter_edition-via-then-not-is_converter_edition, then-not-is_converter_edition-via-else-not-is_converter_edition+then-s-lt1}
use Rattle.listing.proofs.is_listable.Goals.{then-not-is_converter_edition-via-else-not-is_converter_edition+else-s-lt1+then-s-gt-MOST_LISTED}
use Rattle.listing.proofs.is_listable.Goals.{then-not-is_converter_edition-via-else-not-is_converter_edition+else-s-lt1+else-s-gt-MOST_LISTED+then-symbols-gt-MOST_SYMBOLS}

pub returns-then-not-is_converter_edition : goal.returns-then-not-is_converter_edition
returns-then-not-is_converter_edition c = elim c.then-not-is_converter_edition.branch [
  | then-not-is_converter_edition-via-then-not-is_converter_edition w ↦ list-edition _ _ _ (refuted c.is_converter_edition.ensures w.if-not-is_converter_edition.true)
  | then-not-is_converter_edition-via-else-not-is_converter_edition+then-s-lt1 w ↦ list-none _ _ _ (confirmed c.is_converter_edition.ensures w.if-not-is_converter_edition.false) w.if-s-lt1.true
  | then-not-is_converter_edition-via-else-not-is_converter_edition+else-s-lt1+then-s-gt-MOST_LISTED w ↦ list-large _ _ _ (confirmed c.is_converter_edition.ensures w.if-not-is_converter_edition.false) w.if-s-lt1.false w.if-s-gt-MOST_LISTED.true
  | then-not-is_converter_edition-via-else-not-is_converter_edition+else-s-lt1+else-s-gt-MOST_LISTED+then-symbols-gt-MOST_SYMBOLS w ↦ list-many _ _ _ (confirmed c.is_converter_edition.ensures w.if-not-is_converter_edition.false) w.if-s-lt1.false w.if-s-gt-MOST_LISTED.false w.if-symbols-gt-MOST_SYMBOLS.true
]

pub returns : goal.returns
returns c = c.are_symbols.ensures ∙ list-symbols _ _ _ (confirmed c.is_converter_edition.ensures c.if-not-is_converter_edition.false) c.if-s-lt1.false c.if-s-gt-MOST_LISTED.false c.if-symbols-gt-MOST_SYMBOLS.false
