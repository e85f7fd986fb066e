-- Lists worked out, and what the two calls answer by them.
use Rattle.std.specs.Prelude.{ℕ, ◌+◌, ◌*◌, List, [], ◌∷◌, ◌≡◌, refl, Some, None, Ok, Err}
use Rattle.basis.specs.declared.refusals.Refusal.TheVariants as refusal
use Rattle.forms.specs.declared.Unwritten.TheVariants.{Refused, Short}
use Rattle.forms.specs.Cells.{tag, nil, PAIR, callable, shape_of, arity_of}
use Rattle.forms.specs.Terms.{pairs, every, applied, paired, begun, reads, are_terms}
use Rattle.forms.specs.Numbering.{rank, seen, met, renamed, numbered}
use Rattle.forms.specs.Compact.{same}
use Rattle.forms.specs.Converting.{converter_edition}
use Rattle.listing.specs.Listing.{variable_cells, alphabet, cells_before, strings, filtered, begins, call_term}
use Rattle.listing.specs.Listing.{listing, first_in, next_in, holds, first_term, term_after, legal_shape, is_symbol}
use Rattle.listing.specs.Listing.{contains, are_symbols, listable, offered, first_answer, after_answer, listed_cells}
use Rattle.listing.specs.Listing.{listing_out}

abbrev var : ℕ → ℕ
var = tag 1

abbrev atom : ℕ → ℕ
atom = tag 2

abbrev int : ℕ → ℕ
int = tag 3

abbrev fun : ℕ → ℕ → ℕ
fun name arity = tag 4 (name * 16 + arity)

-- f/2 and a
abbrev two : List ℕ
two = fun 1 2 ∷ atom 7 ∷ []

abbrev pub WorkedLists : Type 0
WorkedLists =
    -- f(a,a), f(a,X), f(X,a), f(X,X), f(X,Y)
    (listing 1 3 two
    ≡ (fun 1 2 ∷ atom 7 ∷ atom 7 ∷ []) ∷ (fun 1 2 ∷ atom 7 ∷ var 0 ∷ []) ∷ (fun 1 2 ∷ var 0 ∷ atom 7 ∷ [])
    ∷ (fun 1 2 ∷ var 0 ∷ var 0 ∷ []) ∷ (fun 1 2 ∷ var 0 ∷ var 1 ∷ []) ∷ [])
    -- in the order of the symbols, and with an integer and the pair after the first cell only
    × (listing 1 2 (int 5 ∷ PAIR ∷ nil ∷ fun 2 1 ∷ [])
    ≡ (fun 2 1 ∷ int 5 ∷ []) ∷ (fun 2 1 ∷ nil ∷ []) ∷ (fun 2 1 ∷ var 0 ∷ []) ∷ [])
    -- of one cell: the atoms given
    × (listing 2 1 (atom 9 ∷ int 5 ∷ fun 2 1 ∷ nil ∷ []) ≡ (atom 9 ∷ []) ∷ (nil ∷ []) ∷ [])
    -- the first term, the one after a term, and the end, which needs no room
    × (first_answer 1 3 two 4 ≡ Ok (Some 3))
    × (listing_out (first_answer 1 3 two 4) (first_term 1 3 two) (1 ∷ 2 ∷ 3 ∷ 4 ∷ [])
    ≡ fun 1 2 ∷ atom 7 ∷ atom 7 ∷ 4 ∷ [])
    × (listed_cells (term_after 1 3 two (fun 1 2 ∷ atom 7 ∷ var 0 ∷ [])) ≡ fun 1 2 ∷ var 0 ∷ atom 7 ∷ [])
    × (after_answer 1 3 two (fun 1 2 ∷ var 0 ∷ var 1 ∷ []) 0 ≡ Ok None)
    × (first_answer 1 2 two 0 ≡ Ok None)
    × (first_answer 1 1 [] 0 ≡ Ok None)

abbrev pub WorkedRefusals : Type 0
WorkedRefusals =
    -- 12 with the need; 24 before it: a variable out of its number, and another length
    (first_answer 1 3 two 2 ≡ Err (Short 3))
    × (after_answer 1 3 two (fun 1 2 ∷ var 1 ∷ var 0 ∷ []) 0 ≡ Err (Refused refusal.Listed))
    × (after_answer 1 3 two (atom 7 ∷ []) 0 ≡ Err (Refused refusal.Listed))
    -- 23 before 24: the edition, the size, a symbol twice, a variable, arity 0, a pair with a payload
    × (after_answer 3 3 two (atom 7 ∷ []) 0 ≡ Err (Refused refusal.Listing))
    × (first_answer 1 0 two 9 ≡ Err (Refused refusal.Listing))
    × (first_answer 1 9 two 9 ≡ Err (Refused refusal.Listing))
    × (first_answer 1 3 (atom 7 ∷ atom 7 ∷ []) 9 ≡ Err (Refused refusal.Listing))
    × (first_answer 1 3 (var 0 ∷ []) 9 ≡ Err (Refused refusal.Listing))
    × (first_answer 1 3 (fun 1 0 ∷ []) 9 ≡ Err (Refused refusal.Listing))
    × (first_answer 2 3 ((PAIR + 1) ∷ []) 9 ≡ Err (Refused refusal.Listing))

pub worked : WorkedLists
unfolding listing alphabet variable_cells strings cells_before filtered call_term begins callable first_in next_in holds
    first_term term_after legal_shape is_symbol contains are_symbols listable offered first_answer after_answer
    listed_cells listing_out converter_edition are_terms reads begun applied paired every pairs shape_of arity_of
    numbered renamed met seen rank same
worked = (refl, refl, refl, refl, refl, refl, refl, refl, refl)

pub worked-refusals : WorkedRefusals
unfolding listing alphabet variable_cells strings cells_before filtered call_term begins callable first_in next_in holds
    first_term term_after legal_shape is_symbol contains are_symbols listable offered first_answer after_answer
    listed_cells listing_out converter_edition are_terms reads begun applied paired every pairs shape_of arity_of
    numbered renamed met seen rank same
worked-refusals = (refl, refl, refl, refl, refl, refl, refl, refl, refl, refl)
