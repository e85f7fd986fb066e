-- The steps by which the code finds the first term and the one after a term without making the list: what may stand at
-- a place, whether a term can still be ended there, the first cell that will do, and the filling from a place on.
use Rattle.std.specs.Prelude.{ℕ, zero, suc, ◌-◌, Bool, true, false, List, [], ◌∷◌, ◌++◌, length, drop, get_or, eqb, leb}
use Rattle.std.specs.Prelude.{ltb, Option, None, Some}
use Rattle.basis.specs.Choice.{pick}
use Rattle.forms.specs.Cells.{payload, variable, callable, shape_of, arity_of}
use Rattle.forms.specs.Numbering.{rank}
use Rattle.forms.specs.Due.{arguments, due_after}
use Rattle.listing.specs.declared.Spot.{Spot}
use Rattle.listing.specs.Listing.{alphabet, contains, Listed}

-- the arity of a cell in the edition
abbrev pub arguments_in : ℕ → ℕ → ℕ
arguments_in e c = arguments (shape_of (arity_of e) c)

-- how many variables are known after c: one more than the highest number
unfoldable pub known_after : ℕ → ℕ → ℕ
known_after known c = pick (variable c) (pick (ltb (payload c) known) known (suc (payload c))) known

-- ---- places

-- a place: the cells before it, the variables known and the terms due there
abbrev pub spot : ℕ → ℕ → ℕ → Spot
spot at known due = record { at = at; known = known; due = due }

-- the place after c
unfoldable pub passed : ℕ → Spot → ℕ → Spot
passed e p c = spot (suc p.at) (known_after p.known c) (due_after p.due (arguments_in e c))

-- the place after these cells
unfoldable pub passed_all : ℕ → Spot → List ℕ → Spot
passed_all e p [] = p
passed_all e p (c ∷ cs) = passed_all e (passed e p c) cs

-- where a term begins
abbrev pub start : Spot
start = spot 0 0 1

-- a term is due, it begins with an atom or a functor, and a variable is a known one or the next
unfoldable pub allowed : Spot → ℕ → Bool
allowed p c =
    pick (ltb 0 p.due)
    (pick (pick (eqb p.at 0) (callable c) true) (pick (variable c) (leb (payload c) p.known) true) false)
    false

-- ---- whether terms can be ended

-- an arity a leads from a sum to t
unfoldable pub leads_to : ℕ → ℕ → List Bool → Bool
leads_to a t sums = pick (eqb a 0) false (pick (leb a t) (get_or sums (t - a) false) false)

-- one of the cells passes a test
unfoldable pub any_cell : (ℕ → Bool) → List ℕ → Bool
any_cell test [] = false
any_cell test (c ∷ cs) = pick (test c) true (any_cell test cs)

-- the arity of one of the cells does
unfoldable pub sum_reached : ℕ → ℕ → List Bool → List ℕ → Bool
sum_reached e t sums cs = any_cell (λ c. leads_to (arguments_in e c) t sums) cs

-- which of the numbers below n are sums of the symbols' arities; 0 is one
unfoldable pub sums_below : ℕ → List ℕ → ℕ → List Bool
sums_below e symbols zero = []
sums_below e symbols (suc n) =
    sums_below e symbols n ++ (pick (eqb n 0) true (sum_reached e n (sums_below e symbols n) symbols) ∷ [])

unfoldable pub is_sum : ℕ → List ℕ → ℕ → Bool
is_sum e symbols t = get_or (sums_below e symbols (suc t)) t false

-- so many terms can stand in exactly n cells
unfoldable pub terms_fit : ℕ → List ℕ → ℕ → ℕ → Bool
terms_fit e symbols due n = pick (eqb due 0) (eqb n 0) (pick (leb due n) (is_sum e symbols (n - due)) false)

-- a term can go on with c at the place and end with the n cells after it
unfoldable pub can_go_on : ℕ → List ℕ → Spot → ℕ → ℕ → Bool
can_go_on e symbols p n c = pick (allowed p c) (terms_fit e symbols (passed e p c).due n) false

-- ---- the first cell that will do, and the filling

unfoldable pub first_of : (ℕ → Bool) → List ℕ → Option ℕ
first_of test [] = None
first_of test (c ∷ cs) = pick (test c) (Some c) (first_of test cs)

-- these cells before a term
unfoldable pub prefixed : List ℕ → Listed → Listed
prefixed cs None = None
prefixed cs (Some t) = Some (cs ++ t)

unfoldable pub or_else : Listed → Listed → Listed
or_else None g = g
or_else (Some t) g = Some t

-- what is chosen stands before what `rest` gives after it
unfoldable pub chosen : (ℕ → Listed) → Option ℕ → Listed
chosen rest (Some c) = prefixed (c ∷ []) (rest c)
chosen rest None = None

-- the first way to go on with n cells
unfoldable pub first_way : ℕ → List ℕ → List ℕ → Spot → ℕ → Listed
first_way e symbols cells p zero = Some []
first_way e symbols cells p (suc n) =
    chosen (λ c. first_way e symbols cells (passed e p c) n) (first_of (can_go_on e symbols p n) cells)

-- the cells after c in their order
unfoldable pub later_than : List ℕ → ℕ → List ℕ
later_than cells c = drop (suc (rank cells c)) cells

-- the next way after these cells: a later end, or a later cell here
unfoldable pub next_way : ℕ → List ℕ → List ℕ → Spot → List ℕ → Listed
next_way e symbols cells p [] = None
next_way e symbols cells p (c ∷ cs) =
    or_else (prefixed (c ∷ []) (next_way e symbols cells (passed e p c) cs))
    (chosen (λ d. first_way e symbols cells (passed e p d) (length cs))
    (first_of (can_go_on e symbols p (length cs)) (later_than cells c)))

-- ---- the given term

-- the cells go on from a place to the end of a term
unfoldable pub goes : ℕ → Spot → List ℕ → Bool
goes e p [] = eqb p.due 0
goes e p (c ∷ cs) = pick (allowed p c) (goes e (passed e p c) cs) false

-- each cell is one of those given
unfoldable pub spelt : List ℕ → List ℕ → Bool
spelt cells [] = true
spelt cells (c ∷ cs) = pick (contains cells c) (spelt cells cs) false

-- a term of s cells that stands in the list
unfoldable pub is_listed : ℕ → ℕ → List ℕ → List ℕ → Bool
is_listed e s symbols t = pick (eqb (length t) s) (pick (spelt (alphabet s symbols) t) (goes e start t) false) false
