-- `engine::listings::tables_first_term` meets its contract: the word of the list's first term, or of the end.
use mathlib.Core.Path.{sym, ap, ◌∙◌}
use Rattle.words.specs.Listings.{word_listing}
use Rattle.words.proofs.ListingBounds.{first-bounded, listing-bounded, listing-left}
use Rattle.engine.proofs.listings.tables_first_term.Goals as goal

pub listing_word-requires-clause-few : goal.listing_word-requires-clause-few
listing_word-requires-clause-few c = listing-bounded (sym c.first_term.ensures.0) (first-bounded _ _ _ _)

pub returns : goal.returns
returns c = (
  c.listing_word.ensures ∙ ap word_listing c.first_term.ensures.0,
  listing-left c.first_term.ensures.0 _ _ c.first_term.ensures.1,
)
