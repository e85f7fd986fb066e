-- What judging goals gives: of one path, of one answer, of all answers of a goal, and of all goals.
use Rattle.std.specs.Prelude.{ℕ, ◌<◌, ◌≤◌, Bool, true, false, ◌&&◌, List, [], ◌∷◌, ◌≡◌, eqb, leb, length}
use Rattle.std.specs.Prelude.{get_or, Option, Some, None, Result, Ok, Err}
use Rattle.basis.specs.Refusals.{number_of}
use Rattle.basis.specs.declared.refusals.Refusal.{Refusal}
use Rattle.basis.specs.declared.refusals.Refusal.TheVariants as refusal
use Rattle.basis.specs.Choice.{pick}
use Rattle.forms.specs.Cells.{atomic, integral}
use Rattle.plain.specs.Words.{Word}
use Rattle.plain.specs.Coding.{coding_of}
use Rattle.plain.specs.Requests.{detoured}
use Rattle.plain.specs.Joins.{is_open}
use Rattle.plain.specs.Detours.{Live, Goal, detour, offers, all_offer}
use Rattle.space.specs.Sound.{subgoal_under}
use Rattle.space.specs.declared.tables.Table.{Table}
use Rattle.trie.specs.Paths.{Path, none, tokens}
use Rattle.store.specs.Clauses.{view_at}
use Rattle.store.specs.Decisions.{says, refuses, state_of, sound_subgoal, Lives, severed, lives}
use Rattle.store.specs.Decisions.{lives_of, goals_in, detours_in}
use Rattle.detours.specs.Searching.{Searched, answers_in, goals_from}
use Rattle.detours.specs.declared.GoalJudged.{GoalJudged}

-- ---- a path

-- the form is an atom and an integer, as they are stored
unfoldable pub offer_form : Word → Bool
offer_form [] = false
offer_form (x ∷ []) = false
offer_form (x ∷ y ∷ []) = atomic x && integral y
offer_form (x ∷ y ∷ z ∷ ws) = false

unfoldable pub offer_path : Path → Bool
offer_path none = false
offer_path (tokens w) = offer_form w

-- and the subgoal has two variables
abbrev pub fit_path : ℕ → Path → Bool
fit_path m p = eqb m 2 && offer_path p

-- the form fits a goal of m variables
abbrev pub fits : ℕ → ℕ → Word → Bool
fits edition m w = eqb m 2 && offers ((coding_of edition).terms w)

-- ---- all answers

-- the variables of subgoal s
abbrev pub variables_of : Table → ℕ → ℕ
variables_of t s = (subgoal_under t.cells.now t.head s).variables

-- the subgoal has two variables, and all its answers are an atom and an integer
abbrev pub goal_fits : Table → ℕ → List Live → Bool
goal_fits t s ls = eqb (variables_of t s) 2 && all_offer (coding_of t.head.edition) ls

abbrev pub AnswersHeld : Table → ℕ → Bool → Type 0
AnswersHeld t s b =
    (ls : List Live) × (lives_of (coding_of t.head.edition) (view_at t) s ≡ lives ls) × (goal_fits t s ls ≡ b)

abbrev pub AnswersJudged : Table → ℕ → Option Bool → Type 0
AnswersJudged t s None = lives_of (coding_of t.head.edition) (view_at t) s ≡ severed
AnswersJudged t s (Some b) = AnswersHeld t s b

-- ---- a goal

-- subgoal s as a goal, where none of its answers is damaged
abbrev pub goal_in : Table → ℕ → Goal
goal_in t s =
    let g = subgoal_under t.cells.now t.head s in
    record { state = state_of g.state; m = g.variables; answers = answers_in t s }

-- its record is damaged, or one of its answers
unfoldable pub goal_severed : Bool → Lives → Bool
goal_severed true severed = true
goal_severed true (lives ls) = false
goal_severed false ls = true

abbrev pub GoalSevered : Table → ℕ → Type 0
GoalSevered t s =
    goal_severed (sound_subgoal (view_at t) s) (lives_of (coding_of t.head.edition) (view_at t) s) ≡ true

-- neither is
pub record GoalSound (t : Table) (s : ℕ) : Type 0 where
  pub record-sound : sound_subgoal (view_at t) s ≡ true
  pub answers-sound : lives_of (coding_of t.head.edition) (view_at t) s ≡ lives (answers_in t s)

abbrev pub GoalTold : Table → ℕ → Option GoalJudged → Type 0
GoalTold t s None = GoalSevered t s
GoalTold t s (Some j) =
    GoalSound t s × (is_open (state_of (subgoal_under t.cells.now t.head s).state) ≡ j.is_open)
    × (goal_fits t s (answers_in t s) ≡ j.fits)

-- ---- all goals

-- the refusal of n goals, of which some are open or none, and all fit or not
unfoldable pub ruled : Bool → Bool → ℕ → Result Unit Refusal
ruled o b n = pick o (Err refusal.SourceOpen) (pick ((leb 1 n && leb n 6) && b) (Ok tt) (Err refusal.Goals))

-- the goals may be searched, and what is found is the answer
pub record Ready (t : Table) (ss : List ℕ) : Type 0 where
  pub some : 1 ≤ length ss
  pub few : length ss ≤ 6
  pub searched : (i : ℕ) → i < length ss → Searched t (get_or ss i 0)
  pub told : (budget : ℕ)
      → detours_in (coding_of t.head.edition) (goals_in (coding_of t.head.edition) (view_at t) ss) budget
      ≡ says (detoured (detour (goals_from t ss 0) budget))

-- they are ready, or refused whatever the budget
abbrev pub GoalsTold : Table → List ℕ → Result Unit Refusal → Type 0
GoalsTold t ss (Ok y) = Ready t ss
GoalsTold t ss (Err r) =
    (budget : ℕ) → detours_in (coding_of t.head.edition) (goals_in (coding_of t.head.edition) (view_at t) ss) budget
    ≡ refuses (number_of r)
