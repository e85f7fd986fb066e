-- The search for detours on cells: what a goal's answers offer, the cells that the search works in, and what each
-- function asks of them and leaves in them.
use Rattle.std.specs.Prelude.{ℕ, zero, suc, ◌+◌, ◌*◌, ◌^◌, ◌≤◌, ◌<◌, Bool, true, false, ◌||◌, List, [], ◌∷◌, ◌++◌, map}
use Rattle.std.specs.Prelude.{◌≡◌, eqb, length, drop, get_or}
use Rattle.basis.specs.Choice.{pick}
use Rattle.forms.specs.Cells.{payload}
use Rattle.plain.specs.Coding.{coding_of}
use Rattle.plain.specs.Requests.{Best, none_found, found}
use Rattle.plain.specs.Detours.{Live, Option, diverts, total_of, numbers_in, better, Progress, trying, search}
use Rattle.plain.specs.Detours.{all_offer, option_of}
use Rattle.space.specs.Layout.{sizes, node_in}
use Rattle.space.specs.Sound.{subgoal_under}
use Rattle.space.specs.declared.tables.Table.{Table}
use Rattle.store.specs.Decisions.{Lives, severed, lives, lives_of}
use Rattle.store.specs.Clauses.{view_at}
use Rattle.detours.specs.declared.Offer.{Offer}

-- ---- the goals

unfoldable pub lives_in : Lives → List Live
lives_in severed = []
lives_in (lives ls) = ls

-- the answers of subgoal s, where none is damaged
abbrev pub answers_in : Table → ℕ → List Live
answers_in t s = lives_in (lives_of (coding_of t.head.edition) (view_at t) s)

-- what they offer
abbrev pub options_in : Table → ℕ → List Option
options_in t s = map (option_of (coding_of t.head.edition)) (answers_in t s)

-- a subgoal of two variables whose answers are sound, each an atom and an integer
pub record Searched (t : Table) (s : ℕ) : Type 0 where
  pub low : 1 ≤ s
  pub high : s ≤ t.head.subgoals
  pub two : (subgoal_under t.cells.now t.head s).variables ≡ 2
  pub first-within : (subgoal_under t.cells.now t.head s).first ≤ t.head.answers
  pub sound : lives_of (coding_of t.head.edition) (view_at t) s ≡ lives (answers_in t s)
  pub fit : all_offer (coding_of t.head.edition) (answers_in t s) ≡ true

-- ---- the cells that the search works in

-- how many there are, and where they hold the numbers of the least total and what is chosen so far
abbrev pub work_cells : ℕ
work_cells = 20

abbrev pub best_from : ℕ
best_from = 2

abbrev pub numbers_from : ℕ
numbers_from = 8

abbrev pub diverters_from : ℕ
diverters_from = 14

-- what stands for no total
abbrev pub no_total : ℕ
no_total = 4294967295

-- n cells from a place on
unfoldable pub cells_at : List ℕ → ℕ → ℕ → List ℕ
cells_at work from zero = []
cells_at work from (suc n) = cells_at work from n ++ (get_or work (from + n) 0 ∷ [])

abbrev pub numbers_chosen : List ℕ → ℕ → List ℕ
numbers_chosen work n = cells_at work numbers_from n

abbrev pub diverters_in : List ℕ → ℕ → List ℕ
diverters_in work n = cells_at work diverters_from n

-- the least total so far, of n goals
unfoldable pub best_in : ℕ → List ℕ → Best
best_in n work =
    pick (eqb (get_or work 1 0) no_total) none_found (found (get_or work 1 0) (cells_at work best_from n))

-- the progress of a search over n goals, which has ended or not
abbrev pub progress_in : ℕ → List ℕ → Bool → Progress
progress_in n work ended = record { left = get_or work 0 0; best = best_in n work; ended = ended }

-- the options chosen for the first n goals, whose minutes are a sum
pub record Chosen (work : List ℕ) (n sum : ℕ) (os : List Option) : Type 0 where
  pub numbers : numbers_chosen work n ≡ numbers_in os
  pub diverters : diverters_in work n ≡ map (λ o. o.diverter) os
  pub total : sum ≡ total_of os

-- the cells of the first n goals' choices stay
pub record Stays (work : List ℕ) (n : ℕ) (work' : List ℕ) : Type 0 where
  pub size : length work' ≡ length work
  pub numbers : (i : ℕ) → i < n → get_or work' (numbers_from + i) 0 ≡ get_or work (numbers_from + i) 0
  pub diverters : (i : ℕ) → i < n → get_or work' (diverters_from + i) 0 ≡ get_or work (diverters_from + i) 0

-- ---- what is chosen

unfoldable pub among : ℕ → List ℕ → Bool
among d [] = false
among d (x ∷ xs) = eqb x d || among d xs

abbrev pub Copyable : List ℕ → ℕ → Type 0
Copyable work n = (n ≤ 6) × (length work ≡ work_cells)

-- the first n numbers chosen are those of the least total; other cells stay
pub record Copied (work : List ℕ) (n : ℕ) (work' : List ℕ) : Type 0 where
  pub size : length work' ≡ length work
  pub copies : (i : ℕ) → i < n → get_or work' (best_from + i) 0 ≡ get_or work (numbers_from + i) 0
  pub low : (i : ℕ) → i < best_from → get_or work' i 0 ≡ get_or work i 0
  pub high : (i : ℕ) → get_or work' (numbers_from + i) 0 ≡ get_or work (numbers_from + i) 0

abbrev pub Keepable : List ℕ → ℕ → ℕ → Type 0
Keepable work n total = (n ≤ 6) × (length work ≡ work_cells) × (total < no_total)

-- the options chosen for all n goals, whichever they are, replace those of a higher total
pub record Keeps (work : List ℕ) (n total : ℕ) (work' : List ℕ) : Type 0 where
  pub stays : Stays work n work'
  pub left : get_or work' 0 0 ≡ get_or work 0 0
  pub best : (os : List Option) → Chosen work n total os → best_in n work' ≡ better (best_in n work) os

-- ---- one choice

-- the nodes of an answer's path: its leaf and the one above it
abbrev pub Readable : Table → ℕ → ℕ → Type 0
Readable t a leaf =
    (leaf < t.head.nodes) × ((node_in sizes t.cells.now leaf).parent < t.head.nodes) × (a ≤ t.head.answers)

abbrev pub offer_at : Table → ℕ → ℕ → Offer
offer_at t a leaf =
    let last = node_in sizes t.cells.now leaf in
    record {
      number = a;
      diverter = (node_in sizes t.cells.now last.parent).token;
      minutes = payload last.token;
    }

abbrev pub option_from : Offer → Option
option_from o = record { number = o.number; diverter = o.diverter; minutes = o.minutes }

-- minutes are a payload
abbrev pub Lookable : Offer → Type 0
Lookable o = o.minutes < 2 ^ 28

-- what follows a choice that is tried
abbrev pub going : List (List Option) → List Option → Option → Progress → Progress
going gs os o q = pick (diverts o.diverter os) q (search gs (os ++ (o ∷ [])) q)

-- ---- the search

-- the goals from a place on
abbrev pub goals_from : Table → List ℕ → ℕ → List (List Option)
goals_from t goals at = map (options_in t) (drop at goals)

-- the goal at a place may be searched, where the minutes chosen for those before it are a sum
pub record Searchable (t : Table) (goals : List ℕ) (at sum : ℕ) (work : List ℕ) : Type 0 where
  pub few : length goals ≤ 6
  pub here : at < length goals
  pub small : sum ≤ at * 2 ^ 28
  pub size : length work ≡ work_cells
  pub searched : (i : ℕ) → i < length goals → Searched t (get_or goals i 0)

-- one choice leaves the progress of trying it, whatever is chosen before it
pub record Looks (t : Table) (goals : List ℕ) (at sum : ℕ) (o : Offer) (work work' : List ℕ) (r : Bool)
    : Type 0 where
  pub stays : Stays work at work'
  pub progress : (os : List Option) → Chosen work at sum os
      → progress_in (length goals) work' r
      ≡ trying (get_or work 0 0) (best_in (length goals) work)
      (going (goals_from t goals (suc at)) os (option_from o))

-- and so does the search from a goal on
pub record Searches (t : Table) (goals : List ℕ) (at sum : ℕ) (work work' : List ℕ) (r : Bool)
    : Type 0 where
  pub stays : Stays work at work'
  pub progress : (os : List Option) → Chosen work at sum os
      → progress_in (length goals) work' r
      ≡ search (goals_from t goals at) os (progress_in (length goals) work true)
