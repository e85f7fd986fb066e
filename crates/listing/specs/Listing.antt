-- Every call of a small size (Q-12): the list, its first term and the term after a given one, and what the two calls
-- answer. The list is all strings of s cells in order, of which those stay that are numbered terms to be called.
use Rattle.std.specs.Prelude.{ℕ, zero, suc, Bool, true, false, List, [], ◌∷◌, ◌++◌, map, ◌≡◌, length, drop, leb, ltb}
use Rattle.std.specs.Prelude.{Option, Some, None, Result, Ok, Err}
use Rattle.basis.specs.Choice.{pick}
use Rattle.basis.specs.declared.refusals.Refusal.{Refusal}
use Rattle.basis.specs.declared.refusals.Refusal.TheVariants as refusal
use Rattle.forms.specs.declared.Unwritten.{Unwritten}
use Rattle.forms.specs.declared.Unwritten.TheVariants.{Refused, Short}
use Rattle.forms.specs.declared.Shape.{Shape}
use Rattle.forms.specs.declared.Shape.TheVariants.{Symbol, Pair, Illegal}
use Rattle.forms.specs.Cells.{tag, variable, callable, shape_of, arity_of}
use Rattle.forms.specs.Terms.{are_terms}
use Rattle.forms.specs.Numbering.{rank, numbered}
use Rattle.forms.specs.Compact.{same}
use Rattle.forms.specs.Converting.{converter_edition}

-- ---- the list

-- n variables, numbered from v on
unfoldable pub variable_cells : ℕ → ℕ → List ℕ
variable_cells v zero = []
variable_cells v (suc n) = tag 1 v ∷ variable_cells (suc v) n

-- the cells in their order: the symbols as given, then the variables by number, of which s cells hold at most s
unfoldable pub alphabet : ℕ → List ℕ → List ℕ
alphabet s symbols = symbols ++ variable_cells 0 s

-- each of the cells before each of the strings
unfoldable pub cells_before : List ℕ → List (List ℕ) → List (List ℕ)
cells_before [] ws = []
cells_before (c ∷ cs) ws = map (λ w. c ∷ w) ws ++ cells_before cs ws

-- all strings of n cells, in the order that compares cells from the left
unfoldable pub strings : List ℕ → ℕ → List (List ℕ)
strings cells zero = [] ∷ []
strings cells (suc n) = cells_before cells (strings cells n)

-- those that pass a test
unfoldable pub filtered : (List ℕ → Bool) → List (List ℕ) → List (List ℕ)
filtered test [] = []
filtered test (w ∷ ws) = pick (test w) (w ∷ filtered test ws) (filtered test ws)

-- the cells begin with an atom or a functor
unfoldable pub begins : List ℕ → Bool
begins [] = false
begins (c ∷ cs) = callable c

-- the cells are one numbered term that may be called
unfoldable pub call_term : ℕ → List ℕ → Bool
call_term e t = pick (begins t) (pick (are_terms (arity_of e) 1 t) (same (numbered t) t) false) false

-- the list: every call of s cells over the symbols
unfoldable pub listing : ℕ → ℕ → List ℕ → List (List ℕ)
listing e s symbols = filtered (call_term e) (strings (alphabet s symbols) s)

-- ---- its first term, and the one after a term

-- a term, or the end
abbrev pub Listed : Type 0
Listed = Option (List ℕ)

unfoldable pub first_in : List (List ℕ) → Listed
first_in [] = None
first_in (t ∷ ts) = Some t

-- the one that stands after t
unfoldable pub next_in : List ℕ → List (List ℕ) → Listed
next_in t [] = None
next_in t (u ∷ us) = pick (same t u) (first_in us) (next_in t us)

unfoldable pub holds : List ℕ → List (List ℕ) → Bool
holds t [] = false
holds t (u ∷ us) = pick (same t u) true (holds t us)

unfoldable pub first_term : ℕ → ℕ → List ℕ → Listed
first_term e s symbols = first_in (listing e s symbols)

unfoldable pub term_after : ℕ → ℕ → List ℕ → List ℕ → Listed
term_after e s symbols t = next_in t (listing e s symbols)

-- ---- what may be asked for

unfoldable pub legal_shape : Shape → Bool
legal_shape (Symbol k) = true
legal_shape Pair = true
legal_shape Illegal = false

-- an atom, an integer, a functor or the pair, legal in the edition
unfoldable pub is_symbol : ℕ → ℕ → Bool
is_symbol e c = pick (variable c) false (legal_shape (shape_of (arity_of e) c))

unfoldable pub contains : List ℕ → ℕ → Bool
contains cs c = ltb (rank cs c) (length cs)

-- each is a symbol, and none stands there again
unfoldable pub are_symbols : ℕ → List ℕ → Bool
are_symbols e [] = true
are_symbols e (c ∷ cs) = pick (is_symbol e c) (pick (contains cs c) false (are_symbols e cs)) false

-- the edition is 1 or 2, s is 1 to 8, and there are up to 16 symbols
unfoldable pub listable : ℕ → ℕ → List ℕ → Bool
listable e s symbols =
    pick (converter_edition e)
    (pick (leb 1 s) (pick (leb s 8) (pick (leb (length symbols) 16) (are_symbols e symbols) false) false) false)
    false

-- ---- the two calls

-- what they answer: the cells written, or the end of the list; or why neither
abbrev pub Listing : Type 0
Listing = Result (Option ℕ) (Unwritten Refusal)

-- a term of s cells goes into an out of `room` cells, or is refused (12) with the need; the end needs no room
unfoldable pub offered : Listed → ℕ → ℕ → Listing
offered None s room = Ok None
offered (Some t) s room = pick (leb s room) (Ok (Some s)) (Err (Short s))

-- the first term: refusals 23 and 12, in this order
unfoldable pub first_answer : ℕ → ℕ → List ℕ → ℕ → Listing
first_answer e s symbols room =
    pick (listable e s symbols) (offered (first_term e s symbols) s room) (Err (Refused refusal.Listing))

-- the term after t: refusals 23, 24 and 12, in this order
unfoldable pub after_answer : ℕ → ℕ → List ℕ → List ℕ → ℕ → Listing
after_answer e s symbols t room =
    pick (listable e s symbols)
    (pick (holds t (listing e s symbols)) (offered (term_after e s symbols t) s room) (Err (Refused refusal.Listed)))
    (Err (Refused refusal.Listing))

unfoldable pub listed_cells : Listed → List ℕ
listed_cells None = []
listed_cells (Some t) = t

-- what is in out afterwards: the term before what was there; without one, what was there
unfoldable pub listing_out : Listing → Listed → List ℕ → List ℕ
listing_out (Ok (Some n)) f out = listed_cells f ++ drop n out
listing_out (Ok None) f out = out
listing_out (Err e) f out = out

-- ---- contracts

abbrev pub GivesFirst : (e s : ℕ) (symbols out : List ℕ) → Listing → List ℕ → Type 0
GivesFirst e s symbols out r out' =
    (r ≡ first_answer e s symbols (length out)) × (out' ≡ listing_out r (first_term e s symbols) out)

abbrev pub GivesAfter : (e s : ℕ) (symbols t out : List ℕ) → Listing → List ℕ → Type 0
GivesAfter e s symbols t out r out' =
    (r ≡ after_answer e s symbols t (length out)) × (out' ≡ listing_out r (term_after e s symbols t) out)
