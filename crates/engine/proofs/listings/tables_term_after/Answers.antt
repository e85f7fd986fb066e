-- `engine::listings::tables_term_after` meets its contract: the word of the term that stands after the one given, or of the end.
use mathlib.Core.Path.{sym, ap, ◌∙◌}
use Rattle.words.specs.Listings.{word_listing}
use Rattle.words.proofs.ListingBounds.{after-bounded, listing-bounded, listing-left}
use Rattle.engine.proofs.listings.tables_term_after.Goals as goal

pub listing_word-requires-clause-few : goal.listing_word-requires-clause-few
listing_word-requires-clause-few c = listing-bounded (sym c.term_after.ensures.0) (after-bounded _ _ _ _ _)

pub returns : goal.returns
returns c = (
  c.listing_word.ensures ∙ ap word_listing c.term_after.ensures.0,
  listing-left c.term_after.ensures.0 _ _ c.term_after.ensures.1,
)
