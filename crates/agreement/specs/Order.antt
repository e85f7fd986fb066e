-- Arrival order on the cells: `ArrivalOrder` of crates/plain/specs/Order.antt, of the calls on the cells of a space,
-- without an index, and each with an index of any cells or without. Which answers are accepted, what next hands out and
-- what is loaded is then what the cells say.
use Rattle.std.specs.Prelude.{ℕ, List, ◌≡◌, Ok}
use Rattle.plain.specs.Requests.{Request, Result}
use Rattle.plain.specs.Order.{ArrivalOrder}
use Rattle.space.specs.Fresh.{fresh_answer_in, fresh_space_in}
use Rattle.store.specs.Calls.{space_step, AnswersBy, counted_cells}
use Rattle.agreement.specs.History.{Beside, way_of}

-- from every fresh space on, in every edition that fresh takes
abbrev pub CellsArrivalOrder : Type 0
CellsArrivalOrder =
    (e n f a : ℕ) (s : List ℕ) → fresh_answer_in e n f a s ≡ Ok tt
    → ArrivalOrder space_step counted_cells (fresh_space_in e n f a s)

-- A caller holds the cells and anything else: indexes, and what it knows of the calls so far. Each call meets its
-- contract with the index that the caller then lends to it, or with none.
abbrev pub Lending : {S : Type 0} → (S → List ℕ) → (S → Request → Result S) → Type 0
Lending {S} cells library =
    (s : S) (q : Request)
    → (b : Beside)
    × AnswersBy (way_of (cells s) b) (cells s) q (library s q).reply (library s q).out (cells (library s q).state)

-- for every such caller: the indexes may differ from call to call, and from one order of the calls to the other
abbrev pub IndexedArrivalOrder : Type 1
IndexedArrivalOrder =
    (S : Type 0) (cells : S → List ℕ) (library : S → Request → Result S) → Lending cells library
    → (e n f a : ℕ) (before : List ℕ) (s : S) → fresh_answer_in e n f a before ≡ Ok tt
    → cells s ≡ fresh_space_in e n f a before
    → ArrivalOrder library (λ x. counted_cells (cells x)) s
