-- The forms of a join on trial: what the draft of their new nodes tells of what they need, and that it leaves no trace.
use Rattle.std.specs.Prelude.{ℕ, ◌+◌, ◌-◌, ◌<◌, ◌≤◌, ◌^◌, min, List, [], ◌∷◌, ◌≡◌, length}
use Rattle.std.specs.Prelude.{Option, Some, None, Result, Ok, Err}
use Rattle.basis.specs.Choice.{pick}
use Rattle.basis.specs.declared.refusals.Refusal.{Refusal}
use Rattle.plain.specs.Words.{Word, has, most, prefixes}
use Rattle.space.specs.Layout.{sizes, node_in}
use Rattle.space.specs.Sound.{Bounds, subgoal_under}
use Rattle.space.specs.declared.Head.{Head}
use Rattle.trie.specs.Walks.{Finding}
use Rattle.store.specs.Decisions.{walk_to_by, missing, lacking, nodes_needed_by, answers_needed_by}
use Rattle.store.specs.Clauses.{view_in}
use Rattle.agreement.proofs.CellRecords.{Kept}
use Rattle.pairing.specs.declared.Sides.{Sides}
use Rattle.pairing.specs.Counting.{all_forms}
use Rattle.drafts.specs.declared.Room.{Room}
use Rattle.drafts.specs.Entries.{Bucketed, lowest, highest}
use Rattle.drafts.specs.Drafts.{Keyed}
use Rattle.drafts.specs.Notes.{Noted}
use Rattle.drafts.specs.Wiping.{Blank}
use Rattle.join.specs.declared.Tally.{Tally}
use Rattle.join.specs.declared.Untried.{Untried}
use Rattle.join.specs.declared.Untried.TheVariants as untried
use Rattle.join.specs.Joining.{Enterable, TellsRoom}

-- the first free nodes, as many as a draft may use
abbrev pub room_of : Sides → ℕ → Room
room_of x free = record { base = x.h.nodes; most = free }

-- no cell changed but theirs
abbrev pub Within : Sides → ℕ → List ℕ → List ℕ → Type 0
Within x free cs cs' = Kept (lowest (room_of x free)) (highest (room_of x free)) cs cs'

-- what the form w needs, those before it given, in the space before the trial
abbrev pub nodes_for : Finding → List ℕ → Sides → ℕ → List Word → Word → ℕ
nodes_for find cs x s before w = min (missing (walk_to_by find (view_in cs x.h) s w)) (length w - most before w)

abbrev pub answers_for : Finding → List ℕ → Sides → ℕ → List Word → Word → ℕ
answers_for find cs x s before w =
    pick (lacking (view_in cs x.h) (walk_to_by find (view_in cs x.h) s w)) (pick (has before w) 0 1) 0

-- ds are the cells cs of a space with a draft of the forms before
pub record Tallied (find : Finding) (cs : List ℕ) (x : Sides) (free root : ℕ) (ds : List ℕ) (used : ℕ)
    (before : List Word) : Type 0 where
  pub kept : Within x free cs ds
  pub buckets : Bucketed (node_in sizes ds) (room_of x free) used
  pub noted : (s : ℕ) → root ≡ (subgoal_under cs x.h s).root
      → (es : List Word) × (length (prefixes es) ≡ used) × Keyed (node_in sizes ds) x.h.nodes (prefixes es) es
      × Noted find (view_in cs x.h) s es before

-- the tally of what was tried, or why there is none
abbrev pub Tried : Type 0
Tried = Result Tally Untried

-- ---- one form

abbrev pub Formable : List ℕ → Sides → ℕ → ℕ → Word → Tally → Type 0
Formable ds x free root w y =
    Bounds ds x.h × (root < x.h.nodes) × (x.h.nodes + free ≤ x.h.node_capacity)
    × Bucketed (node_in sizes ds) (room_of x free) y.used × (y.answers + 1 < 2 ^ 64)

-- whichever space and forms were drafted
abbrev pub TriesForm : Finding → Sides → ℕ → ℕ → List ℕ → Tally → Word → List ℕ → Tried → Type 0
TriesForm find x free root ds y w ds' (Ok z) =
    (cs : List ℕ) (before : List Word) → Tallied find cs x free root ds y.used before
    → Tallied find cs x free root ds' z.used (w ∷ before)
    × ((s : ℕ) → root ≡ (subgoal_under cs x.h s).root
    → (z.used ≡ y.used + nodes_for find cs x s before w) × (z.answers ≡ y.answers + answers_for find cs x s before w))
TriesForm find x free root ds y w ds' (Err untried.Over) =
    (cs : List ℕ) (before : List Word) → Tallied find cs x free root ds y.used before
    → Within x free cs ds'
    × ((s : ℕ) → root ≡ (subgoal_under cs x.h s).root
    → x.h.nodes + free < y.used + nodes_for find cs x s before w)
TriesForm find x free root ds y w ds' (Err untried.Unknown) =
    (cs : List ℕ) (before : List Word) → Tallied find cs x free root ds y.used before → Within x free cs ds'

-- ---- all forms

-- the forms may be entered into a subgoal with this answer root
abbrev pub Roomed : List ℕ → Sides → ℕ → List ℕ → List ℕ → Type 0
Roomed cs x root ps ks = (s : ℕ) × Enterable cs x s ps ks × (root ≡ (subgoal_under cs x.h s).root)

-- and the free nodes are zeros
abbrev pub Tryable : List ℕ → Sides → ℕ → ℕ → List ℕ → List ℕ → Type 0
Tryable cs x free root ps ks =
    Roomed cs x root ps ks × (x.h.nodes + free ≤ x.h.node_capacity) × Blank cs (room_of x free)

abbrev pub TriedAs : Finding → List ℕ → Sides → ℕ → ℕ → List ℕ → List ℕ → Tried → Type 0
TriedAs find cs x free root ps ks (Ok y) =
    (s : ℕ) → root ≡ (subgoal_under cs x.h s).root
    → (let ws = all_forms cs x ps ks in
    (y.used ≡ x.h.nodes + nodes_needed_by find (view_in cs x.h) s [] ws)
    × (y.answers ≡ answers_needed_by find (view_in cs x.h) s [] ws))
TriedAs find cs x free root ps ks (Err untried.Over) =
    (s : ℕ) → root ≡ (subgoal_under cs x.h s).root
    → free < nodes_needed_by find (view_in cs x.h) s [] (all_forms cs x ps ks)
TriedAs find cs x free root ps ks (Err untried.Unknown) = Unit

abbrev pub TriesForms : Finding → List ℕ → Sides → ℕ → ℕ → List ℕ → List ℕ → List ℕ → Tried → Type 0
TriesForms find cs x free root ps ks cs' r = Within x free cs cs' × TriedAs find cs x free root ps ks r

abbrev pub TriesAll : Finding → List ℕ → Sides → ℕ → ℕ → List ℕ → List ℕ → List ℕ → Tried → Type 0
TriesAll find cs x free root ps ks cs' r = (cs' ≡ cs) × TriedAs find cs x free root ps ks r

-- ---- whether there is room

abbrev pub HeadCounts : Head → Type 0
HeadCounts h =
    (h.nodes ≤ h.node_capacity) × (h.answers ≤ h.answer_capacity) × (h.answer_capacity < 2 ^ 32)

-- whether there is room, where that is settled
abbrev pub TellsIfSettled : Finding → List ℕ → Sides → ℕ → List ℕ → List ℕ → Option (Result Unit Refusal) → Type 0
TellsIfSettled find cs x root ps ks (Some r) = TellsRoom find cs x root ps ks r
TellsIfSettled find cs x root ps ks None = Unit

-- by whichever forms were tried
abbrev pub Settles : Head → ℕ → Tried → Option (Result Unit Refusal) → Type 0
Settles h free r q =
    (find : Finding) (cs : List ℕ) (x : Sides) (root : ℕ) (ps ks : List ℕ) → x.h ≡ h
    → TriedAs find cs x free root ps ks r → TellsIfSettled find cs x root ps ks q

abbrev pub Triable : List ℕ → Sides → ℕ → ℕ → List ℕ → List ℕ → Type 0
Triable cs x free root ps ks = Roomed cs x root ps ks × (x.h.nodes + free ≤ x.h.node_capacity)

abbrev pub Settled :
    Finding → List ℕ → Sides → ℕ → List ℕ → List ℕ → List ℕ → Option (Result Unit Refusal) → Type 0
Settled find cs x root ps ks cs' q = (cs' ≡ cs) × TellsIfSettled find cs x root ps ks q

-- whether there is room, and the space is as it was
abbrev pub TellsInPlace : Finding → List ℕ → Sides → ℕ → List ℕ → List ℕ → List ℕ → Result Unit Refusal → Type 0
TellsInPlace find cs x root ps ks cs' r = (cs' ≡ cs) × TellsRoom find cs x root ps ks r
