-- The rule of detours: one answer for each goal, no diverter twice, least total, within a budget of choices tried.
-- Refusals 14 and 22, in this order; then the search. The plain table and the calls on cells both follow it.
use Rattle.std.specs.Prelude.{Bool, true, false, ◌&&◌, ◌||◌, List, [], ◌∷◌, ◌++◌, map, ℕ, zero, suc, ◌+◌, ◌-◌, eqb, leb}
use Rattle.std.specs.Prelude.{ltb, length, get_or}
use Rattle.basis.specs.Choice.{pick}
use Rattle.forms.specs.Cells.{payload, atomic, integral}
use Rattle.plain.specs.Words.{Word}
use Rattle.plain.specs.Coding.{Coding}
use Rattle.plain.specs.Requests.{State, Best, none_found, found, Detour, Reply, detoured, refused}
use Rattle.plain.specs.Joins.{Terms, term_at, is_open}

-- an answer that the search may choose: its number and its form
pub record Live : Type 0 where
  pub number : ℕ
  pub form : Word

-- a goal: a subgoal's state, its variables, and its answers in table order
pub record Goal : Type 0 where
  pub state : State
  pub m : ℕ
  pub answers : List Live

-- what an answer offers: its number, its diverter (an atom cell), and its minutes
pub record Option : Type 0 where
  pub number : ℕ
  pub diverter : ℕ
  pub minutes : ℕ

-- ---- the search

-- whether one of those chosen has the diverter
unfoldable pub diverts : ℕ → List Option → Bool
diverts d [] = false
diverts d (o ∷ os) = eqb o.diverter d || diverts d os

-- the minutes of those chosen, and their numbers
unfoldable pub total_of : List Option → ℕ
total_of [] = 0
total_of (o ∷ os) = o.minutes + total_of os

abbrev pub numbers_in : List Option → List ℕ
numbers_in os = map (λ o. o.number) os

-- a choice that is whole replaces one of a higher total only: the first met of the least stays
unfoldable pub better : Best → List Option → Best
better none_found os = found (total_of os) (numbers_in os)
better (found total ns) os = pick (ltb (total_of os) total) (found (total_of os) (numbers_in os)) (found total ns)

-- the choices that may still be tried, the best so far, and false once a choice was left that might not be tried
pub record Progress : Type 0 where
  pub left : ℕ
  pub best : Best
  pub ended : Bool

-- a choice is about to be tried: the search stops where none may be, else it is counted, and goes on
unfoldable pub trying : ℕ → Best → (Progress → Progress) → Progress
trying zero best on = record { left = 0; best = best; ended = false }
trying (suc left) best on = on (record { left = left; best = best; ended = true })

-- a goal's options, one after another
unfoldable pub tries : (Option → Progress → Progress) → List Option → Progress → Progress
tries on [] p = p
tries on (o ∷ os) p = tries on os (pick p.ended (trying p.left p.best (on o)) p)

-- the goals left, after these were chosen: the later goal varies first; a diverter that is taken goes no deeper
unfoldable pub search : List (List Option) → List Option → Progress → Progress
search [] chosen p = record { left = p.left; best = better p.best chosen; ended = p.ended }
search (g ∷ gs) chosen p =
    tries (λ o q. let on = search gs (chosen ++ (o ∷ [])) q in pick (diverts o.diverter chosen) q on) g p

unfoldable pub detour : List (List Option) → ℕ → Detour
detour gs budget =
    let p = search gs [] (record { left = budget; best = none_found; ended = true }) in
    record { best = p.best; tried = budget - p.left; ended = p.ended }

-- ---- what may be searched

-- exactly one cell, which passes the test
unfoldable pub one_cell : (ℕ → Bool) → List ℕ → Bool
one_cell test [] = false
one_cell test (x ∷ []) = test x
one_cell test (x ∷ y ∷ ks) = false

-- an atom for variable 0 and an integer for variable 1
unfoldable pub offers : Terms → Bool
offers ts = one_cell atomic (term_at ts 0) && one_cell integral (term_at ts 1)

unfoldable pub all_offer : Coding → List Live → Bool
all_offer c [] = true
all_offer c (l ∷ ls) = offers (c.terms l.form) && all_offer c ls

-- two variables, and every answer of this form
unfoldable pub goals_fit : Coding → List Goal → Bool
goals_fit c [] = true
goals_fit c (g ∷ gs) = eqb g.m 2 && all_offer c g.answers && goals_fit c gs

unfoldable pub any_open : List Goal → Bool
any_open [] = false
any_open (g ∷ gs) = is_open g.state || any_open gs

-- 1 to 6 goals
unfoldable pub few_goals : List Goal → Bool
few_goals gs = leb 1 (length gs) && leb (length gs) 6

abbrev pub option_of : Coding → Live → Option
option_of c l =
    let ts = c.terms l.form in
    record {
      number = l.number;
      diverter = get_or (term_at ts 0) 0 0;
      minutes = payload (get_or (term_at ts 1) 0 0);
    }

abbrev pub options_of : Coding → Goal → List Option
options_of c g = map (option_of c) g.answers

-- ---- the rule

unfoldable pub detours_of : Coding → List Goal → ℕ → Reply
detours_of c gs budget =
    pick (any_open gs) (refused 14)
    (pick (few_goals gs && goals_fit c gs) (detoured (detour (map (options_of c) gs) budget)) (refused 22))

-- every number is that of one of n records
unfoldable pub all_within : ℕ → List ℕ → Bool
all_within n [] = true
all_within n (s ∷ ss) = ltb 0 s && leb s n && all_within n ss
