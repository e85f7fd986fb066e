-- What the functions of a copy ask for: paths whose tokens can all be stored in edition 2, and the records of a source
-- as they enter a target. And what is told of a source that need not pass the check.
use Rattle.basis.specs.declared.refusals.Refusal.TheVariants as refusal
use Rattle.space.specs.Fresh.{FreshAnswer}
use Rattle.std.specs.Prelude.{ℕ, suc, ◌≤◌, ◌<◌, ◌≡◌, true, List, length, drop, Err, Ok}
use Rattle.basis.specs.Choice.{pick}
use Rattle.plain.specs.Coding.{coding_of}
use Rattle.space.specs.Layout.{sizes_of}
use Rattle.space.specs.Heading.{header_of, space_header}
use Rattle.space.specs.Sound.{subgoal_under, subgoals_end}
use Rattle.space.specs.declared.Head.{Head}
use Rattle.trie.specs.Paths.{Path, tokens}
use Rattle.trie.specs.Runs.{path_cells, path_to}
use Rattle.trie.specs.declared.End.{End}
use Rattle.store.specs.Clauses.{view_in}
use Rattle.store.specs.Views.{View}
use Rattle.store.specs.Decisions.{sound_subgoal}
use Rattle.agreement.specs.Whole.{word_of, subgoal_path, answer_path, table_read}
use Rattle.carrying.specs.Recoding.{widening, recoded, takes_word}
use Rattle.carrying.specs.Carrying.{carrying}
use Rattle.carrying.specs.Copying.{source_loads, subgoals_given, answers_given, states_given}
use Rattle.carrying.specs.Clauses.{first_subgoals, first_answers}

-- the path is there, and edition 2 has room for its names
abbrev pub PathCarried : Path → Type 0
PathCarried p = (w : List ℕ) × (p ≡ tokens w) × (takes_word widening w ≡ true)

-- the path to an end, recoded, stands in the cells of a whole one from r on
abbrev pub RecodedAt : List ℕ → End → ℕ → List ℕ → Type 0
RecodedAt cs e r path =
    (r ≤ path_cells) × (length path ≡ path_cells) × (drop r path ≡ recoded widening (word_of (path_to cs e)))

-- the target with the first i subgoals of the source
abbrev pub with_first : List ℕ → Head → List ℕ → ℕ → List ℕ
with_first source h target i = subgoals_given (sizes_of 2) target (first_subgoals widening (view_in source h) i)

-- each subgoal's path can be carried, and before each the target is a space of edition 2
pub record SubgoalReady (source : List ℕ) (h : Head) (target : List ℕ) (i : ℕ) : Type 0 where
  pub leaf-in : ((view_in source h).subgoal (suc i)).leaf < h.nodes
  pub path : PathCarried (subgoal_path (view_in source h) (suc i))
  pub variables : ((view_in source h).subgoal (suc i)).variables ≤ 32
  pub two : space_header (with_first source h target i) ≡ header_of (sizes_of 2) (with_first source h target i)

abbrev pub SubgoalsReady : List ℕ → Head → List ℕ → Type 0
SubgoalsReady source h target = (i : ℕ) → i < h.subgoals → SubgoalReady source h target i

-- ---- answers

-- a space in which an answer can be given to subgoal s
abbrev pub TakesAnswer : List ℕ → ℕ → Type 0
TakesAnswer cs s =
    (h : Head) → Ok h ≡ space_header cs
    → (1 ≤ s) × (s ≤ h.subgoals) × ((subgoal_under cs h s).root < h.nodes) × ((subgoal_under cs h s).last ≤ h.answers)

-- the target with the first i answers of the source
abbrev pub with_answers : List ℕ → Head → List ℕ → ℕ → List ℕ
with_answers source h target i = answers_given (sizes_of 2) target (first_answers widening (view_in source h) i)

pub record AnswerReady (source : List ℕ) (h : Head) (target : List ℕ) (i : ℕ) : Type 0 where
  pub own-low : 1 ≤ ((view_in source h).answer (suc i)).subgoal
  pub own-high : ((view_in source h).answer (suc i)).subgoal ≤ h.subgoals
  pub leaf-in : ((view_in source h).answer (suc i)).leaf < h.nodes
  pub path : PathCarried (answer_path (view_in source h) (suc i))
  pub two : space_header (with_answers source h target i) ≡ header_of (sizes_of 2) (with_answers source h target i)
  pub takes : TakesAnswer (with_answers source h target i) ((view_in source h).answer (suc i)).subgoal

abbrev pub AnswersReady : List ℕ → Head → List ℕ → Type 0
AnswersReady source h target = (i : ℕ) → i < h.answers → AnswerReady source h target i

-- ---- states

-- the target, whose subgoals begin at an offset, with the states of the first i subgoals of the source
abbrev pub with_states : List ℕ → Head → ℕ → List ℕ → ℕ → List ℕ
with_states source h offset target i =
    states_given (sizes_of 2) offset target 1 (first_subgoals widening (view_in source h) i)

-- so many cells have room for the subgoals, and each record is sound
pub record StatesReady (source : List ℕ) (h : Head) (offset cells : ℕ) : Type 0 where
  pub room : subgoals_end 2 offset h.subgoals ≤ cells
  pub sound : (i : ℕ) → i < h.subgoals → sound_subgoal (view_in source h) (suc i) ≡ true

-- ---- deciding

-- 9, 18, 19 or done, by the forms that load
unfoldable pub loaded_reply : ℕ → ℕ → ℕ → View → FreshAnswer
loaded_reply n f a v =
    pick (source_loads (coding_of 1) v) (carrying widening n f a (table_read v)) (Err refusal.Records)
