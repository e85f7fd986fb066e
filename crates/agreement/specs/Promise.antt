-- Demand 3: from a fresh space every list of calls answers as the plain table does.
use Rattle.std.specs.Prelude.{ℕ, List, ◌≡◌, Ok}
use Rattle.forms.specs.Marked.{MarkedTerms, MarkedWide}
use Rattle.plain.specs.Examples.{MarkedTables}
use Rattle.plain.specs.Coding.{Coding}
use Rattle.plain.specs.Requests.{Request, Result, trace}
use Rattle.plain.specs.Table.{fresh, table_trace, edition_trace}
use Rattle.space.specs.Layout.{Sizes}
use Rattle.space.specs.Fresh.{fresh_answer, fresh_space, fresh_answer_in, fresh_space_in}
use Rattle.store.specs.Calls.{cell_step, space_step, counted_cells}

-- A library keeps the promise: for every N, F and A, every content of a space for which fresh answers done, and every
-- list of calls with all that is lent to them, after each call the same answer with its numbers, the same refusal (12
-- with its need), the same three counts and the same cells of out as on the plain table.
abbrev pub Kept : Sizes → Coding → (List ℕ → Request → Result (List ℕ)) → Type 0
Kept z c step =
    (n f a : ℕ) (s : List ℕ) (qs : List Request) → fresh_answer z n f a s ≡ Ok tt
    → trace step counted_cells (fresh_space z n f a s) qs ≡ table_trace c (fresh n f a) qs

-- the calls on the cells of one edition
abbrev pub Agreement : Sizes → Coding → Type 0
Agreement z c = Kept z c (cell_step z c)

-- a library keeps it in every edition that fresh takes
abbrev pub KeptIn : (List ℕ → Request → Result (List ℕ)) → Type 0
KeptIn step =
    (e n f a : ℕ) (s : List ℕ) (qs : List Request) → fresh_answer_in e n f a s ≡ Ok tt
    → trace step counted_cells (fresh_space_in e n f a s) qs ≡ edition_trace e n f a qs

-- the calls of the code do
abbrev pub Promise : Type 0
Promise = KeptIn space_step

-- the marked terms M1 to M8 and the marked tables M9 and M10, as one list
abbrev pub Marked : Type 0
Marked = MarkedTerms × MarkedTables

-- and of edition 2 a functor of 40 arguments
abbrev pub Marked2 : Type 0
Marked2 = MarkedWide
