-- The result words of the two calls that list terms, and what these calls return and leave. They have no space.
use Rattle.std.specs.Prelude.{ℕ, ◌+◌, ◌^◌, ◌<◌, List, Option, Some, None, Result, Ok, Err, ◌≡◌, length}
use Rattle.basis.specs.Refusals.{number_of}
use Rattle.forms.specs.declared.Unwritten.{Unwritten}
use Rattle.forms.specs.declared.Unwritten.TheVariants.{Refused, Short}
use Rattle.listing.specs.Listing.{Listing, first_term, term_after, first_answer, after_answer, listing_out}
use Rattle.words.specs.Words.{worded}

-- the value is the number of cells written, or for 12 the cells that out would need; the end has none
unfoldable pub word_listing_by : {R : Type 0} → (R → ℕ) → Result (Option ℕ) (Unwritten R) → ℕ
word_listing_by number (Ok (Some n)) = worded 7 n
word_listing_by number (Ok None) = worded 16 0
word_listing_by number (Err (Refused r)) = worded (256 + number r) 0
word_listing_by number (Err (Short n)) = worded (256 + 12) n

-- of what the two calls answer
abbrev pub word_listing : Listing → ℕ
word_listing = word_listing_by number_of

-- answers that a word holds: their count of cells is small
abbrev pub ListingBounded : {R : Type 0} → Result (Option ℕ) (Unwritten R) → Type 0
ListingBounded (Ok (Some n)) = n < 2 ^ 32
ListingBounded (Ok None) = Unit {0}
ListingBounded (Err (Refused r)) = Unit {0}
ListingBounded (Err (Short n)) = n < 2 ^ 32

-- `tables_first_term` returns w, the word of what is answered, and leaves this out
abbrev pub ReturnsFirstTerm : (symbols : List ℕ) (s : ℕ) (out : List ℕ) (e : ℕ) → ℕ → List ℕ → Type 0
ReturnsFirstTerm symbols s out e w out' =
    (w ≡ word_listing (first_answer e s symbols (length out)))
    × (out' ≡ listing_out (first_answer e s symbols (length out)) (first_term e s symbols) out)

-- `tables_term_after` does
abbrev pub ReturnsTermAfter : (symbols : List ℕ) (s : ℕ) (t out : List ℕ) (e : ℕ) → ℕ → List ℕ → Type 0
ReturnsTermAfter symbols s t out e w out' =
    (w ≡ word_listing (after_answer e s symbols t (length out)))
    × (out' ≡ listing_out (after_answer e s symbols t (length out)) (term_after e s symbols t) out)
