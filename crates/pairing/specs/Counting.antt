-- What the forms of a join need, as the functions that go through all of them say it.
use Rattle.std.specs.Prelude.{ℕ, ◌+◌, ◌-◌, ◌≤◌, min, Bool, true, false, ◌&&◌, List, [], ◌∷◌, ◌≡◌, length, take}
use Rattle.std.specs.Prelude.{Option, Some, None}
use Rattle.basis.specs.Choice.{pick}
use Rattle.forms.specs.Stored.{StoredForm, stored_of}
use Rattle.plain.specs.Words.{Word, most, has}
use Rattle.plain.specs.Joins.{combined}
use Rattle.space.specs.Sound.{subgoal_under}
use Rattle.trie.specs.Walks.{Finding}
use Rattle.store.specs.Views.{View}
use Rattle.store.specs.Decisions.{all_sound_by, nodes_needed_by, answers_needed_by}
use Rattle.store.specs.Clauses.{view_in}
use Rattle.parts.specs.Parts.{all_fit}
use Rattle.sides.specs.Counts.{sum_missing, sum_lacking}
use Rattle.sides.specs.declared.Met.{Met}
use Rattle.pairing.specs.declared.Sides.{Sides}
use Rattle.pairing.specs.declared.Cursor.{Cursor}
use Rattle.pairing.specs.declared.Walk.{Walk}
use Rattle.pairing.specs.declared.Sums.{Sums}
use Rattle.pairing.specs.declared.Needs.{Needs}
use Rattle.sides.specs.declared.Earlier.{Earlier}
use Rattle.pairing.specs.Pairing.{hand, most_tokens, Remains, Throughout, parts_from}

-- ---- all forms

-- nothing is in hand yet
abbrev pub beginning : Sides → Cursor
beginning x = record { outer = x.first.first; inner = 0 }

abbrev pub Begun : Sides → Walk → Type 0
Begun x w = (w.at ≡ beginning x) × (length w.first ≡ hand) × (length w.form ≡ most_tokens)

-- in order of the first, then of the second
abbrev pub all_forms : List ℕ → Sides → List ℕ → List ℕ → List Word
all_forms cs x ps ks =
    combined ps ks (parts_from cs x.h x.first x.first.first)
    (parts_from cs x.h x.second x.second.first)

-- what is known of a join before it begins
pub record JoinReady (cs : List ℕ) (x : Sides) (ps ks : List ℕ) : Type 0 where
  pub known : Throughout cs x ps ks
  pub firsts : Remains cs x.h x.first x.first.first

-- each form fits
abbrev pub Fitting : List ℕ → Sides → List ℕ → List ℕ → Type 0
Fitting cs x ps ks = all_fit (stored_of x.h.edition) (all_forms cs x ps ks) ≡ true

-- both: the nodes and answers that the forms need can be counted
abbrev pub ReadyToCount : List ℕ → Sides → List ℕ → List ℕ → Type 0
ReadyToCount cs x ps ks = JoinReady cs x ps ks × Fitting cs x ps ks

-- ---- by the searches alone

-- 1 for a form that is lacking
unfoldable pub one_more : Bool → ℕ
one_more b = pick b 1 0

-- the sums with one form more
abbrev pub added : Sums → Met → Sums
added y m = record {
  sound = y.sound && m.sound;
  missing = y.missing + m.missing;
  lacking = y.lacking + one_more m.lacking;
}

-- the sums of the forms, unless one does not fit
abbrev pub CountedOf : Finding → View → ℕ → StoredForm → List Word → Option Sums → Type 0
CountedOf find v s stored ws (Some y) =
    (all_fit stored ws ≡ true) × (y.sound ≡ all_sound_by find v s ws) × (y.missing ≡ sum_missing find v s ws)
    × (y.lacking ≡ sum_lacking find v s ws)
CountedOf find v s stored ws None = all_fit stored ws ≡ false

-- for whichever target has this answer root
abbrev pub CountsForms : Finding → List ℕ → Sides → ℕ → List ℕ → List ℕ → Option Sums → Type 0
CountsForms find cs x root ps ks r =
    (s : ℕ) → root ≡ (subgoal_under cs x.h s).root
    → CountedOf find (view_in cs x.h) s (stored_of x.h.edition) (all_forms cs x ps ks) r

-- ---- exactly

-- the forms before one, the last first, as the definition of the needs has them
unfoldable pub backwards : List Word → List Word → List Word
backwards [] before = before
backwards (w ∷ ws) before = backwards ws (w ∷ before)

-- what the form w shares with the first k forms
abbrev pub EarlierOf : List Word → ℕ → Word → Earlier → Type 0
EarlierOf ws k w r = (r.shared ≡ most (backwards (take k ws) []) w) × (r.held ≡ has (backwards (take k ws) []) w)

-- 1 for a form that is lacking and not among those before it
unfoldable pub one_new : Bool → Bool → ℕ
one_new lacking held = pick lacking (pick held 0 1) 0

-- the needs with one form of n tokens more
abbrev pub needs_more : Needs → Met → Earlier → ℕ → Needs
needs_more y m e n = record {
  nodes = y.nodes + min m.missing (n - e.shared);
  answers = y.answers + one_new m.lacking e.held;
}

-- all that the forms need; or, where that is more nodes than `free`, a part of it that is more too
abbrev pub NeedsUpTo : ℕ → Finding → List ℕ → Sides → ℕ → List ℕ → List ℕ → Needs → Type 0
NeedsUpTo free find cs x root ps ks r =
    (s : ℕ) → root ≡ (subgoal_under cs x.h s).root
    → (let ws = all_forms cs x ps ks in
    (r.nodes ≤ nodes_needed_by find (view_in cs x.h) s [] ws)
    × (r.nodes ≤ free
    → (r.nodes ≡ nodes_needed_by find (view_in cs x.h) s [] ws)
    × (r.answers ≡ answers_needed_by find (view_in cs x.h) s [] ws)))
