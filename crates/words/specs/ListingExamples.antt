-- Examples of the words of listed terms, computed: a word and the out that is left, for f/2 and a as symbols.
use Rattle.std.specs.Prelude.{ℕ, ◌+◌, ◌*◌, ◌^◌, List, [], ◌∷◌, refl}
use Rattle.forms.specs.Cells.{tag, callable, shape_of, arity_of}
use Rattle.forms.specs.Terms.{pairs, every, applied, paired, begun, reads, are_terms}
use Rattle.forms.specs.Numbering.{rank, seen, met, renamed, numbered}
use Rattle.forms.specs.Compact.{same}
use Rattle.forms.specs.Converting.{converter_edition}
use Rattle.listing.specs.Listing.{variable_cells, alphabet, cells_before, strings, filtered, begins, call_term}
use Rattle.listing.specs.Listing.{listing, first_in, next_in, holds, first_term, term_after, legal_shape, is_symbol}
use Rattle.listing.specs.Listing.{contains, are_symbols, listable, offered, first_answer, after_answer, listed_cells}
use Rattle.listing.specs.Listing.{listing_out}
use Rattle.words.specs.Listings.{word_listing_by, ReturnsFirstTerm, ReturnsTermAfter}

-- f/2 of edition 1, and a
abbrev f : ℕ
f = tag 4 (1 * 16 + 2)

abbrev a : ℕ
a = tag 2 7

abbrev X : ℕ
X = tag 1 0

abbrev Y : ℕ
Y = tag 1 1

abbrev symbols : List ℕ
symbols = f ∷ a ∷ []

pub first-terms :
    -- f(a, a), before the cell that stays
    ReturnsFirstTerm symbols 3 (9 ∷ 9 ∷ 9 ∷ 8 ∷ []) 1 (7 * 2 ^ 32 + 3) (f ∷ a ∷ a ∷ 8 ∷ [])
    -- there is none of two cells, which needs no out
    × ReturnsFirstTerm symbols 2 (9 ∷ []) 1 (16 * 2 ^ 32) (9 ∷ [])
    × ReturnsFirstTerm [] 1 [] 2 (16 * 2 ^ 32) []
    -- 12 with the need; 23 before it: the size, the edition, a symbol twice
    × ReturnsFirstTerm symbols 3 (9 ∷ 9 ∷ []) 1 (268 * 2 ^ 32 + 3) (9 ∷ 9 ∷ [])
    × ReturnsFirstTerm symbols 9 [] 1 (279 * 2 ^ 32) []
    × ReturnsFirstTerm symbols 3 [] 3 (279 * 2 ^ 32) []
    × ReturnsFirstTerm (a ∷ a ∷ []) 1 (9 ∷ []) 1 (279 * 2 ^ 32) (9 ∷ [])
unfolding word_listing_by listing alphabet variable_cells strings cells_before filtered call_term begins callable
    first_in next_in holds first_term term_after legal_shape is_symbol contains are_symbols listable offered
    first_answer after_answer listed_cells listing_out converter_edition are_terms reads begun applied paired every
    pairs shape_of arity_of numbered renamed met seen rank same
first-terms =
    ((refl, refl), (refl, refl), (refl, refl), (refl, refl), (refl, refl), (refl, refl), (refl, refl))

pub terms-after :
    -- f(X, a) after f(a, X), and the end after f(X, Y)
    ReturnsTermAfter symbols 3 (f ∷ a ∷ X ∷ []) (9 ∷ 9 ∷ 9 ∷ 8 ∷ []) 1 (7 * 2 ^ 32 + 3) (f ∷ X ∷ a ∷ 8 ∷ [])
    × ReturnsTermAfter symbols 3 (f ∷ X ∷ Y ∷ []) [] 1 (16 * 2 ^ 32) []
    -- 12, and before it 24: variables not numbered by first meeting, and another length; before that 23
    × ReturnsTermAfter symbols 3 (f ∷ a ∷ X ∷ []) (9 ∷ []) 1 (268 * 2 ^ 32 + 3) (9 ∷ [])
    × ReturnsTermAfter symbols 3 (f ∷ Y ∷ X ∷ []) (9 ∷ []) 1 (280 * 2 ^ 32) (9 ∷ [])
    × ReturnsTermAfter symbols 3 (a ∷ []) [] 1 (280 * 2 ^ 32) []
    × ReturnsTermAfter (X ∷ []) 3 (a ∷ []) [] 1 (279 * 2 ^ 32) []
unfolding word_listing_by listing alphabet variable_cells strings cells_before filtered call_term begins callable
    first_in next_in holds first_term term_after legal_shape is_symbol contains are_symbols listable offered
    first_answer after_answer listed_cells listing_out converter_edition are_terms reads begun applied paired every
    pairs shape_of arity_of numbered renamed met seen rank same
terms-after = ((refl, refl), (refl, refl), (refl, refl), (refl, refl), (refl, refl), (refl, refl))
