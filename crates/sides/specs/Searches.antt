-- What the search of a form among the answers to a subgoal gives, and what two forms share.
use Rattle.std.specs.Prelude.{ℕ, Bool, false, ◌&&◌, List, ◌∷◌, ◌≡◌, eqb}
use Rattle.basis.specs.Choice.{pick}
use Rattle.plain.specs.Words.{Word, most, has}
use Rattle.space.specs.declared.Head.{Head}
use Rattle.trie.specs.Walks.{Walk, Finding, walk_by}
use Rattle.store.specs.Views.{View, answer_trie}
use Rattle.store.specs.Clauses.{view_in}
use Rattle.store.specs.Decisions.{sound_answer, met_sound, lacking, missing}
use Rattle.sides.specs.declared.Met.{Met}
use Rattle.sides.specs.declared.Earlier.{Earlier}

-- a form of n tokens found whole at a leaf whose link is a: `met_sound` of this case
unfoldable pub whole_sound : View → (n leaf a : ℕ) → Bool
whole_sound v n leaf a = pick (eqb a 0) (eqb n 0) (sound_answer v a && eqb (v.answer a).leaf leaf)

-- what is told of a walk
abbrev pub Tells : View → Word → Walk → Met → Type 0
Tells v w x r = (r.sound ≡ met_sound v w x) × (r.lacking ≡ lacking v x) × (r.missing ≡ missing x)

-- a form was searched from an answer root on
abbrev pub Searched : Finding → List ℕ → Head → ℕ → Word → Met → Type 0
Searched find cs h root w r = Tells (view_in cs h) w (walk_by find (answer_trie (view_in cs h)) root w) r

-- what the form w shares with those before it, and with one form more
abbrev pub MeetsOneMore : Earlier → Word → Word → Earlier → Type 0
MeetsOneMore a v w b =
    (before : List Word) → a.shared ≡ most before w → a.held ≡ has before w
    → (b.shared ≡ most (v ∷ before) w) × (b.held ≡ has (v ∷ before) w)

-- k tokens are all of n, and all of m
unfoldable pub all_shared : ℕ → ℕ → ℕ → Bool
all_shared k n m = pick (eqb k n) (eqb n m) false
