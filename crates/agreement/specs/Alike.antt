-- Spaces of two layouts and two codings, or of two editions: the same calls show the same, the nodes used apart, up to
-- the first refusal by 10 in either (Q-13).
use Rattle.std.specs.Prelude.{ℕ, List, map, ◌≡◌, Ok}
use Rattle.plain.specs.Requests.{Request, Result, trace}
use Rattle.plain.specs.Alike.{up_to_ten}
use Rattle.space.specs.Layout.{Sizes}
use Rattle.space.specs.Fresh.{fresh_answer, fresh_space, fresh_answer_in, fresh_space_in}
use Rattle.store.specs.Calls.{space_step, counted_cells}
use Rattle.agreement.specs.History.{Made, History, asked, seen_of}

-- Equal lists of calls on fresh spaces of equal F and A, whatever N and the content of each: the same answers with
-- their numbers and the same refusals, the same subgoals and answers used, and every cell of out.
abbrev pub CellsAlike : Sizes → (List ℕ → Request → Result (List ℕ))
    → Sizes → (List ℕ → Request → Result (List ℕ)) → Type 0
CellsAlike z step y other =
    (n k f a : ℕ) (s r : List ℕ) (qs : List Request) → fresh_answer z n f a s ≡ Ok tt → fresh_answer y k f a r ≡ Ok tt
    → (let xs = trace step counted_cells (fresh_space z n f a s) qs in
    let ys = trace other counted_cells (fresh_space y k f a r) qs in
    up_to_ten xs ys ≡ up_to_ten ys xs)

-- the calls of the code on spaces of two editions
abbrev pub EditionsAlike : (e i : ℕ) → Type 0
EditionsAlike e i =
    (n k f a : ℕ) (s r : List ℕ) (qs : List Request) → fresh_answer_in e n f a s ≡ Ok tt
    → fresh_answer_in i k f a r ≡ Ok tt
    → (let xs = trace space_step counted_cells (fresh_space_in e n f a s) qs in
    let ys = trace space_step counted_cells (fresh_space_in i k f a r) qs in
    up_to_ten xs ys ≡ up_to_ten ys xs)

-- and every two histories of equal lists of calls, each call meeting its contract, alone or with an index of any cells
abbrev pub HistoriesAlike : (e i : ℕ) → Type 0
HistoriesAlike e i =
    (n k f a : ℕ) (s r : List ℕ) (ms ps : List Made) → fresh_answer_in e n f a s ≡ Ok tt
    → fresh_answer_in i k f a r ≡ Ok tt
    → History (fresh_space_in e n f a s) ms → History (fresh_space_in i k f a r) ps → asked ms ≡ asked ps
    → up_to_ten (map seen_of ms) (map seen_of ps) ≡ up_to_ten (map seen_of ps) (map seen_of ms)
