-- The join as a call: its three subgoals, once they are read, what is known before its forms are counted, and what the
-- functions that decide answer and leave.
use Rattle.std.specs.Prelude.{ℕ, ◌-◌, Bool, true, false, List, [], ◌≡◌, leb, ltb, Some, Result, Ok, Err}
use Rattle.basis.specs.Choice.{pick}
use Rattle.basis.specs.Refusals.{number_of}
use Rattle.basis.specs.declared.refusals.Refusal.{Refusal}
use Rattle.basis.specs.declared.refusals.Refusal.TheVariants as refusal
use Rattle.forms.specs.Stored.{stored_of}
use Rattle.plain.specs.Coding.{coding_of}
use Rattle.plain.specs.Joins.{ground, named}
use Rattle.plain.specs.Requests as request
use Rattle.plain.specs.Requests.{Request, joined, refused}
use Rattle.space.specs.Layout.{sizes_of}
use Rattle.space.specs.Heading.{space_header}
use Rattle.space.specs.Judging.{subgoal_sound}
use Rattle.space.specs.Sound.{subgoal_under}
use Rattle.space.specs.declared.Head.{Head}
use Rattle.space.specs.declared.Subgoal.{Subgoal}
use Rattle.trie.specs.Walks.{Finding, root_sound}
use Rattle.store.specs.Views.{answer_trie}
use Rattle.store.specs.Decisions.{unbroken, chain_of, nodes_needed_by, answers_needed_by}
use Rattle.store.specs.Changes.{forms_given_by}
use Rattle.store.specs.Calls.{used_answers}
use Rattle.store.specs.Clauses.{view_in, Held, AnswersUnder}
use Rattle.store.specs.Replies.{said_join}
use Rattle.sides.specs.Chains.{ChainJudged}
use Rattle.sides.specs.declared.Judged.{Judged}
use Rattle.sides.specs.declared.Judged.TheVariants.{Damaged, Ground, Variable}
use Rattle.join.specs.declared.Numbers.{Numbers}
use Rattle.join.specs.declared.Parties.{Parties}
use Rattle.pairing.specs.declared.Source.{Source}
use Rattle.pairing.specs.declared.Sides.{Sides}
use Rattle.pairing.specs.declared.Sums.{Sums}
use Rattle.pairing.specs.Pairing.{forms_from}
use Rattle.pairing.specs.Counting.{all_forms, JoinReady, Fitting, CountedOf}
use Rattle.join.specs.Entering.{Target}

-- s is the number of one of n subgoals
unfoldable pub is_number : ℕ → ℕ → Bool
is_number n s = pick (ltb 0 s) (leb s n) false

-- ---- the three subgoals

abbrev pub join_asked : Parties → List ℕ → List ℕ → Request
join_asked y ps ks = request.join y.first y.second ps y.target ks

-- read and judged, with the target's answer root
pub record PartiesIn (cs : List ℕ) (h : Head) (y : Parties) : Type 0 where
  pub space : space_header cs ≡ Ok h
  pub first : Held cs h y.first y.f
  pub first-sound : subgoal_sound h.nodes h.answers y.f ≡ true
  pub second : Held cs h y.second y.g
  pub second-sound : subgoal_sound h.nodes h.answers y.g ≡ true
  pub target : Held cs h y.target y.t
  pub target_sound : subgoal_sound h.nodes h.answers y.t ≡ true
  pub rooted : root_sound (answer_trie (view_in cs h)) y.t.root ≡ true

abbrev pub source_of : ℕ → Subgoal → Source
source_of n g = record { number = n; root = g.root; variables = g.variables; first = g.first }

abbrev pub sides_of : Head → Parties → Sides
sides_of h y = record { h = h; first = source_of y.first y.f; second = source_of y.second y.g }

-- ---- what the rule asks

-- a source's answers are sound, and no form of them holds a variable
pub record AnswersGround (cs : List ℕ) (h : Head) (s a : ℕ) : Type 0 where
  pub sound : chain_of (coding_of h.edition) (view_in cs h) s ≡ unbroken (forms_from cs h s a)
  pub free : ground (forms_from cs h s a) ≡ true

-- 9, 8, 14, 15 and 16 do not come
pub record Grounded (cs : List ℕ) (h : Head) (y : Parties) (ps ks : List ℕ) : Type 0 where
  pub parties : PartiesIn cs h y
  pub is_open : y.t.state ≡ 0
  pub first-finished : y.f.state ≡ 0 → ⊥
  pub second-finished : y.g.state ≡ 0 → ⊥
  pub first-ground : AnswersGround cs h y.first y.f.first
  pub second-ground : AnswersGround cs h y.second y.g.first
  pub names : named y.f.variables y.g.variables ps y.t.variables ks ≡ true

-- the rule lets the join go on, or r refuses it, by whichever way a child is found
abbrev pub Ruled : List ℕ → Head → Parties → List ℕ → List ℕ → Result Unit Refusal → Type 0
Ruled cs h y ps ks (Ok z) = Grounded cs h y ps ks
Ruled cs h y ps ks (Err r) =
    (find : Finding) → AnswersUnder find cs h (join_asked y ps ks) (refused (number_of r)) cs

-- the answers of a source were judged sound, and without variables
unfoldable pub whole_answers : Judged → Bool
whole_answers Damaged = false
whole_answers Ground = true
whole_answers Variable = true

unfoldable pub ground_answers : Judged → Bool
ground_answers Damaged = false
ground_answers Ground = true
ground_answers Variable = false

-- whatever the answers of the sources were judged to be
abbrev pub Rules : Parties → Judged → Judged → List ℕ → List ℕ → Result Unit Refusal → Type 0
Rules y f g ps ks r =
    (cs : List ℕ) (h : Head) → PartiesIn cs h y → ChainJudged cs h y.first f → ChainJudged cs h y.second g
    → Ruled cs h y ps ks r

-- the same where none is damaged
abbrev pub RulesOn : Parties → Judged → Judged → List ℕ → List ℕ → Result Unit Refusal → Type 0
RulesOn y f g ps ks r = whole_answers f ≡ true → whole_answers g ≡ true → Rules y f g ps ks r

-- ---- what the call answers and leaves

-- how many answers are new, or why not
abbrev pub JoinAnswer : Type 0
JoinAnswer = Result ℕ Refusal

-- numbers of subgoals, under the header
abbrev pub Numbered : List ℕ → Head → Numbers → Type 0
Numbered cs h a =
    (Ok h ≡ space_header cs) × (is_number h.subgoals a.first ≡ true)
    × (is_number h.subgoals a.second ≡ true) × (is_number h.subgoals a.target ≡ true)

-- the join of subgoals by their numbers
abbrev pub JoinsNumbered : Finding → List ℕ → Head → Numbers → List ℕ → List ℕ → JoinAnswer → List ℕ → Type 0
JoinsNumbered find cs h a ps ks r cs' =
    AnswersUnder find cs h (request.join a.first a.second ps a.target ks) (said_join r) cs'

abbrev pub JoinsUnder : Finding → List ℕ → Head → Parties → List ℕ → List ℕ → JoinAnswer → List ℕ → Type 0
JoinsUnder find cs h y ps ks r cs' = AnswersUnder find cs h (join_asked y ps ks) (said_join r) cs'

-- the sums of all forms, which fit
abbrev pub Summed : Finding → List ℕ → Head → Parties → List ℕ → List ℕ → Sums → Type 0
Summed find cs h y ps ks sums =
    CountedOf find (view_in cs h) y.target (stored_of h.edition) (all_forms cs (sides_of h y) ps ks)
    (Some sums)

-- there is room by the sums alone
unfoldable pub sums_fit : Head → Sums → Bool
sums_fit h y =
    pick (leb y.missing (h.node_capacity - h.nodes)) (leb y.lacking (h.answer_capacity - h.answers)) false

-- whether there is room by the exact needs
unfoldable pub room_for : Head → ℕ → ℕ → Result Unit Refusal
room_for h nodes answers =
    pick (ltb (h.node_capacity - h.nodes) nodes) (Err refusal.Nodes)
    (pick (ltb (h.answer_capacity - h.answers) answers) (Err refusal.RecordsLeft) (Ok tt))

abbrev pub TellsRoom : Finding → List ℕ → Sides → ℕ → List ℕ → List ℕ → Result Unit Refusal → Type 0
TellsRoom find cs x root ps ks r =
    (s : ℕ) → root ≡ (subgoal_under cs x.h s).root
    → (let ws = all_forms cs x ps ks in
    r ≡ room_for x.h (nodes_needed_by find (view_in cs x.h) s [] ws)
    (answers_needed_by find (view_in cs x.h) s [] ws))

-- some form is new
abbrev pub SomeNeeded : Finding → List ℕ → Sides → ℕ → List ℕ → List ℕ → Type 0
SomeNeeded find cs x root ps ks =
    (s : ℕ) → root ≡ (subgoal_under cs x.h s).root
    → answers_needed_by find (view_in cs x.h) s [] (all_forms cs x ps ks) ≡ 0 → ⊥

-- the forms fit, no damaged record was met, and some are new
pub record SomeNew (find : Finding) (cs : List ℕ) (h : Head) (y : Parties) (ps ks : List ℕ) (sums : Sums) : Type 0 where
  pub grounded : Grounded cs h y ps ks
  pub summed : Summed find cs h y ps ks sums
  pub sound : sums.sound ≡ true
  pub some : sums.lacking ≡ 0 → ⊥

-- the forms may be entered into subgoal s
pub record Enterable (cs : List ℕ) (x : Sides) (s : ℕ) (ps ks : List ℕ) : Type 0 where
  pub space : space_header cs ≡ Ok x.h
  pub ready : JoinReady cs x ps ks
  pub fit : Fitting cs x ps ks
  pub target : Target cs x s

-- all are, and the answer is what the answers used rise by
abbrev pub EntersAll : Finding → List ℕ → Sides → ℕ → List ℕ → List ℕ → JoinAnswer → List ℕ → Type 0
EntersAll find cs x s ps ks r cs' =
    (cs' ≡ forms_given_by find (sizes_of x.h.edition) cs s (all_forms cs x ps ks))
    × (said_join r ≡ joined (used_answers cs' - x.h.answers))
