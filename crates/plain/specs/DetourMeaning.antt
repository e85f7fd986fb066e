-- What a search for detours promises (Q-11). All choices, and all that the search looks at, are written out as lists in
-- the order of the request; what the search found, tried and left is said by these lists.
use Rattle.std.specs.Prelude.{Bool, true, not, ◌&&◌, List, [], ◌∷◌, ◌++◌, map, ◌⊎◌, ◌≡◌, ℕ, ◌+◌, ◌-◌, ◌<◌, ◌≤◌, min}
use Rattle.std.specs.Prelude.{eqb, leb, length, take}
use Rattle.basis.specs.Choice.{pick}
use Rattle.plain.specs.Coding.{Coding}
use Rattle.plain.specs.Requests.{detours, Best, none_found, found, Detour, detoured, lent}
use Rattle.plain.specs.Detours.{Option, diverts, total_of, numbers_in, better, detour, options_of}
use Rattle.plain.specs.Table.{Table, goal_of, step}

-- ---- choices

-- o is one of the options; the choice takes one option of each goal, in their order
abbrev pub Among : Option → List Option → Type 0
Among o [] = ⊥
Among o (x ∷ xs) = (o ≡ x) ⊎ Among o xs

abbrev pub Chooses : List (List Option) → List Option → Type 0
Chooses [] [] = Unit {0}
Chooses [] (o ∷ os) = ⊥
Chooses (g ∷ gs) [] = ⊥
Chooses (g ∷ gs) (o ∷ os) = Among o g × Chooses gs os

-- no diverter twice
unfoldable pub none_twice : List Option → Bool
none_twice [] = true
none_twice (o ∷ os) = not (diverts o.diverter os) && none_twice os

-- each of the options before each of the lists
unfoldable pub each_before : List Option → List (List Option) → List (List Option)
each_before [] rest = []
each_before (o ∷ os) rest = map (λ ch. o ∷ ch) rest ++ each_before os rest

-- all choices in the written order: goals in the order given, options in table order, the later goal varying first
unfoldable pub choices : List (List Option) → List (List Option)
choices [] = [] ∷ []
choices (g ∷ gs) = each_before g (choices gs)

-- those that pass a test, in their order
unfoldable pub passing : {R : Type 0} → (R → Bool) → List R → List R
passing test [] = []
passing test (x ∷ xs) = let r = passing test xs in pick (test x) (x ∷ r) r

-- the first least total of choices, b being the best before them
unfoldable pub least_of : Best → List (List Option) → Best
least_of b [] = b
least_of b (ch ∷ chs) = least_of (better b ch) chs

-- ---- looks

-- the options that are looked at for a goal after these were chosen, each as what is chosen with it, and after it what
-- is looked at deeper: nothing where its diverter is taken
unfoldable pub looks_along : (List Option → List (List Option)) → List Option → List Option → List (List Option)
looks_along deeper chosen [] = []
looks_along deeper chosen (o ∷ os) =
    let path = chosen ++ (o ∷ []) in
    let below = deeper path in
    (path ∷ pick (diverts o.diverter chosen) [] below) ++ looks_along deeper chosen os

-- all looks in the written order, without a budget
unfoldable pub looks : List (List Option) → List Option → List (List Option)
looks [] chosen = []
looks (g ∷ gs) chosen = looks_along (λ path. looks gs path) chosen g

-- a look that makes a choice whole, of n goals
unfoldable pub made_whole : ℕ → List Option → Bool
made_whole n path = eqb (length path) n && none_twice path

-- ---- minima

unfoldable pub fewest : List Option → ℕ
fewest [] = 0
fewest (o ∷ []) = o.minutes
fewest (o ∷ x ∷ os) = min o.minutes (fewest (x ∷ os))

-- the sum of each goal's own minimum
unfoldable pub minima : List (List Option) → ℕ
minima [] = 0
minima (g ∷ gs) = fewest g + minima gs

-- ---- what the search comes to

-- every total is above t, or not below it
abbrev pub Above : ℕ → List (List Option) → Type 0
Above t [] = Unit {0}
Above t (ch ∷ chs) = (t < total_of ch) × Above t chs

abbrev pub NotBelow : ℕ → List (List Option) → Type 0
NotBelow t [] = Unit {0}
NotBelow t (ch ∷ chs) = (t ≤ total_of ch) × NotBelow t chs

-- the first least of these choices: those before it have more, those after it no less
pub record FirstLeast (chs : List (List Option)) (total : ℕ) (ns : List ℕ) : Type 0 where
  pub before : List (List Option)
  pub choice : List Option
  pub after : List (List Option)
  pub listed : chs ≡ before ++ (choice ∷ after)
  pub total-is : total_of choice ≡ total
  pub numbers-are : numbers_in choice ≡ ns
  pub above : Above total before
  pub not-below : NotBelow total after

-- of at least one goal
pub record DetourTrue (gs : List (List Option)) (budget : ℕ) (d : Detour) : Type 0 where
  -- the choices tried are the written order's, up to the budget; the search ended if these are all
  pub tried : d.tried ≡ min budget (length (looks gs []))
  pub ended : d.ended ≡ leb (length (looks gs [])) budget
  -- what was found is the first least of the choices that they made whole
  pub best : d.best ≡ least_of none_found (passing (made_whole (length gs)) (take budget (looks gs [])))
  -- it is one answer for each goal, no diverter twice
  pub real : (total : ℕ) (ns : List ℕ) → d.best ≡ found total ns
      → (ch : List Option) × Chooses gs ch × (none_twice ch ≡ true) × (total_of ch ≡ total) × (numbers_in ch ≡ ns)
  -- if it ended: it is the first least of all choices with no diverter twice, and none has less; "none found" means
  -- that there is none
  pub first : d.ended ≡ true → (total : ℕ) (ns : List ℕ) → d.best ≡ found total ns
      → FirstLeast (passing none_twice (choices gs)) total ns
  pub least : d.ended ≡ true → (total : ℕ) (ns : List ℕ) → d.best ≡ found total ns
      → (ch : List Option) → Chooses gs ch → none_twice ch ≡ true → total ≤ total_of ch
  pub none : d.ended ≡ true → d.best ≡ none_found → (ch : List Option) → Chooses gs ch → none_twice ch ≡ true → ⊥
  -- ended or not: a total found is above that of any choice by at most itself minus the sum of each goal's own minimum
  pub near : (total : ℕ) (ns : List ℕ) → d.best ≡ found total ns
      → (ch : List Option) → Chooses gs ch → total - total_of ch ≤ total - minima gs

abbrev pub Detours : Type 0
Detours = (gs : List (List Option)) (budget : ℕ) → 1 ≤ length gs → DetourTrue gs budget (detour gs budget)

-- the list of choices has every choice, and no other
abbrev pub In : List Option → List (List Option) → Type 0
In ch [] = ⊥
In ch (x ∷ xs) = (ch ≡ x) ⊎ In ch xs

abbrev pub Choices : Type 0
Choices = (gs : List (List Option)) (ch : List Option)
    → (Chooses gs ch → In ch (choices gs)) × (In ch (choices gs) → Chooses gs ch)

-- the looks that make a choice whole, without a budget, are all choices with no diverter twice, in the same order
abbrev pub Completing : Type 0
Completing = (gs : List (List Option)) → 1 ≤ length gs
    → passing (made_whole (length gs)) (looks gs []) ≡ passing none_twice (choices gs)

-- a larger budget never gives a worse total, and what it finds is found again
abbrev pub LargerBudget : Type 0
LargerBudget = (gs : List (List Option)) (budget more : ℕ) → 1 ≤ length gs → budget ≤ more
    → (total : ℕ) (ns : List ℕ) → (detour gs budget).best ≡ found total ns
    → (total' : ℕ) × (ns' : List ℕ) × ((detour gs more).best ≡ found total' ns') × (total' ≤ total)

-- ---- on tables

-- the options of a goal: its answers in table order
abbrev pub options_at : Coding → Table → ℕ → List Option
options_at c t s = options_of c (goal_of c t s)

-- what detours answers is such a search over the answers of 1 to 6 goals; and it changes nothing
abbrev pub Detouring : Coding → Type 0
Detouring c = (t : Table) (goals : List ℕ) (budget : ℕ)
    → ((d : Detour) → (step c t (detours goals budget)).reply ≡ detoured d
    → (1 ≤ length goals) × (length goals ≤ 6) × DetourTrue (map (options_at c t) goals) budget d)
    × ((step c t (detours goals budget)).state ≡ t)
    × ((step c t (detours goals budget)).out ≡ lent (detours goals budget))
