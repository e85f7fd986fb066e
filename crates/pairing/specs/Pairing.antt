-- The pairs of a join one after another: the answers of a source from one on, the answers in hand, where a join stands,
-- and the forms that are still to come.
use Rattle.std.specs.Prelude.{ℕ, ◌-◌, ◌≤◌, ◌<◌, true, List, [], ◌∷◌, ◌++◌, map, ◌≡◌, length, take, drop, get_or}
use Rattle.forms.specs.Stored.{stored_of}
use Rattle.plain.specs.Words.{Word}
use Rattle.plain.specs.Coding.{coding_of}
use Rattle.plain.specs.Joins.{pairs_named, copies_named, along, combined}
use Rattle.space.specs.Sound.{Bounds, subgoal_under}
use Rattle.space.specs.declared.Head.{Head}
use Rattle.trie.specs.Paths.{tokens}
use Rattle.trie.specs.Runs.{Ends, path_to}
use Rattle.trie.specs.declared.End.{End}
use Rattle.store.specs.Decisions.{Chain, broken, unbroken, chain_from}
use Rattle.store.specs.Clauses.{view_in}
use Rattle.parts.specs.Parts.{parts, GroundForm, AllGround, tokens_start, InHand}
use Rattle.pairing.specs.declared.Source.{Source}
use Rattle.pairing.specs.declared.Sides.{Sides}
use Rattle.pairing.specs.declared.Cursor.{Cursor}
use Rattle.pairing.specs.declared.Walk.{Walk}
use Rattle.pairing.specs.declared.Found.{Found}
use Rattle.pairing.specs.declared.Found.TheVariants as found

-- ---- the answers of a source

unfoldable pub chain_forms : Chain → List Word
chain_forms broken = []
chain_forms (unbroken ws) = ws

-- the forms of the answers to subgoal s from answer a on
abbrev pub forms_from : List ℕ → Head → ℕ → ℕ → List Word
forms_from cs h s a = chain_forms (chain_from (coding_of h.edition) (view_in cs h) s h.answers a)

-- a source as the join knows it: its record
pub record SourceIn (cs : List ℕ) (h : Head) (x : Source) : Type 0 where
  pub low : 1 ≤ x.number
  pub high : x.number ≤ h.subgoals
  pub rooted : x.root ≡ (subgoal_under cs h x.number).root
  pub termed : x.variables ≡ (subgoal_under cs h x.number).variables
  pub few : x.variables ≤ 32

-- from answer a on its answers are sound, and no form of them holds a variable
pub record Remains (cs : List ℕ) (h : Head) (x : Source) (a : ℕ) : Type 0 where
  pub within : a ≤ h.answers
  pub sound : chain_from (coding_of h.edition) (view_in cs h) x.number h.answers a
      ≡ unbroken (forms_from cs h x.number a)
  pub ground : AllGround (stored_of h.edition) x.variables (forms_from cs h x.number a)

-- ---- answers in hand

-- the cells of a hand
abbrev pub hand : ℕ
hand = 416

-- the most tokens of a form
abbrev pub most_tokens : ℕ
most_tokens = 383

-- the form of m terms that is in a hand
abbrev pub form_in : ℕ → List ℕ → Word
form_in m held = take (get_or held m 0 - tokens_start) (drop tokens_start held)

-- there is a path to an end, and there are cells enough for it
abbrev pub Gatherable : List ℕ → End → List ℕ → Type 0
Gatherable cs e cells = Ends cs e × ((w : Word) × (path_to cs e ≡ tokens w) × (length w ≤ length cells))

-- it stands in the cells from k on
abbrev pub Gathers : List ℕ → End → List ℕ → List ℕ → ℕ → Type 0
Gathers cs e cells cells' k =
    (k ≤ length cells') × (path_to cs e ≡ tokens (drop k cells')) × (length cells' ≡ length cells)

-- the end of an answer's path in a source
abbrev pub end_of : Head → Source → ℕ → End
end_of h y leaf = record { nodes = h.nodes; links = h.answers; root = y.root; leaf = leaf }

-- the path to it is a form without variables, and there is room for it, and cells to gather it in
abbrev pub AnswerTakeable : List ℕ → Head → Source → ℕ → List ℕ → List ℕ → Type 0
AnswerTakeable cs h y leaf held form =
    Ends cs (end_of h y leaf)
    × ((w : Word) × (path_to cs (end_of h y leaf) ≡ tokens w) × GroundForm (stored_of h.edition) y.variables w)
    × (y.variables ≤ 32) × (hand ≤ length held) × (length form ≡ most_tokens)

-- it is in hand afterwards
abbrev pub TakesAnswer : List ℕ → Head → Source → ℕ → List ℕ → List ℕ → Type 0
TakesAnswer cs h y leaf held held' =
    ((w : Word) → path_to cs (end_of h y leaf) ≡ tokens w → InHand (stored_of h.edition) y.variables w held')
    × (length held' ≡ length held)

-- ---- where a join stands

-- what is known of a join throughout: header, sources, names
pub record Throughout (cs : List ℕ) (x : Sides) (ps ks : List ℕ) : Type 0 where
  pub bounds : Bounds cs x.h
  pub first : SourceIn cs x.h x.first
  pub second : SourceIn cs x.h x.second
  pub all : Remains cs x.h x.second x.second.first
  pub paired : pairs_named x.first.variables x.second.variables ps ≡ true
  pub copied : copies_named x.first.variables x.second.variables ks ≡ true

-- the first's answer is in hand where one of the second is to be compared with it
pub record Compared (cs : List ℕ) (x : Sides) (inner : ℕ) (hands form : List ℕ) : Type 0 where
  pub rest : Remains cs x.h x.second inner
  pub held : 0 < inner → InHand (stored_of x.h.edition) x.first.variables
      (form_in x.first.variables hands) hands
  pub hands-room : length hands ≡ hand
  pub form-room : length form ≡ most_tokens

pub record Stands (cs : List ℕ) (x : Sides) (at : Cursor) (hands form : List ℕ) : Type 0 where
  pub outer : Remains cs x.h x.first at.outer
  pub inner : Compared cs x at.inner hands form

-- ---- the forms that are still to come

-- of a source's answers from one on, term by term
abbrev pub parts_from : List ℕ → Head → Source → ℕ → List (List Word)
parts_from cs h x a = map (parts (stored_of h.edition)) (forms_from cs h x.number a)

-- with the answer in hand
abbrev pub along_hand : List ℕ → Sides → List ℕ → List ℕ → ℕ → List ℕ → List Word
along_hand cs x ps ks inner hands =
    along ps ks (parts (stored_of x.h.edition) (form_in x.first.variables hands))
    (parts_from cs x.h x.second inner)

-- and with the first's answers behind it
abbrev pub to_come : List ℕ → Sides → List ℕ → List ℕ → Cursor → List ℕ → List Word
to_come cs x ps ks at hands =
    along_hand cs x ps ks at.inner hands
    ++ combined ps ks (parts_from cs x.h x.first at.outer) (parts_from cs x.h x.second x.second.first)

-- the terms of a form are at most 256 cells
abbrev pub FitsCells : ℕ → Word → Type 0
FitsCells edition w = length ((stored_of edition).cells w) ≤ 256

-- the first of the forms ws is in the cells of form, n tokens long, and the others are rest
abbrev pub FormLeft : ℕ → List ℕ → ℕ → List Word → List Word → Type 0
FormLeft edition form n ws rest = (n ≤ length form) × (ws ≡ take n form ∷ rest) × FitsCells edition (take n form)

-- the first of the forms is over 256 cells
abbrev pub FirstTooLong : ℕ → List Word → Type 0
FirstTooLong edition ws = (w : Word) × (rest : List Word) × (ws ≡ w ∷ rest)
    × (256 < length ((stored_of edition).cells w))

-- what the search for a match with the answer in hand answers and leaves
abbrev pub Finds : List ℕ → Sides → List ℕ → List ℕ → ℕ → List ℕ → List ℕ → Found (ℕ × ℕ) → Type 0
Finds cs x ps ks from hands form' (found.At p) =
    Compared cs x p.0 hands form'
    × FormLeft x.h.edition form' p.1 (along_hand cs x ps ks from hands) (along_hand cs x ps ks p.0 hands)
Finds cs x ps ks from hands form' found.TooLong = FirstTooLong x.h.edition (along_hand cs x ps ks from hands)
Finds cs x ps ks from hands form' found.End =
    (along_hand cs x ps ks from hands ≡ []) × (length form' ≡ most_tokens)

-- what the search for the next match answers and leaves
abbrev pub Advances :
    List ℕ → Sides → List ℕ → List ℕ → Cursor → List ℕ → List ℕ → List ℕ → Found (Cursor × ℕ) → Type 0
Advances cs x ps ks from hands hands' form' (found.At p) =
    Stands cs x p.0 hands' form'
    × FormLeft x.h.edition form' p.1 (to_come cs x ps ks from hands) (to_come cs x ps ks p.0 hands')
Advances cs x ps ks from hands hands' form' found.TooLong = FirstTooLong x.h.edition (to_come cs x ps ks from hands)
Advances cs x ps ks from hands hands' form' found.End = to_come cs x ps ks from hands ≡ []

-- ---- a walk

abbrev pub WalkStands : List ℕ → Sides → Walk → Type 0
WalkStands cs x w = Stands cs x w.at w.first w.form

-- the walk stands behind the match, and its form is in the cells of the walk
abbrev pub WalksOn : List ℕ → Sides → List ℕ → List ℕ → Walk → Walk → Found ℕ → Type 0
WalksOn cs x ps ks w w' (found.At n) = Advances cs x ps ks w.at w.first w'.first w'.form (found.At (w'.at, n))
WalksOn cs x ps ks w w' found.TooLong = FirstTooLong x.h.edition (to_come cs x ps ks w.at w.first)
WalksOn cs x ps ks w w' found.End = to_come cs x ps ks w.at w.first ≡ []
