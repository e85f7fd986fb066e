-- What the contracts of this crate speak of: a ledger that is lent as two arrays.
use Rattle.std.specs.Prelude.{ℕ, ◌-◌, ◌/◌, ◌^◌, ◌<◌, ◌≤◌, min, List, ◌≡◌, true, leb, length}
use Rattle.basis.specs.Choice.{pick}
use Rattle.space.specs.Layout.{sizes, node_in}
use Rattle.space.specs.declared.Node.{Node}
use Rattle.trie.specs.Siblings.{Trie, trie_in}
use Rattle.trie.specs.Index.{probe}
use Rattle.trie.specs.Ledger.{Ledger, mixed_slot, enter_node, caught_up, usable, search_in}
use Rattle.trie.specs.Walks.{walk_by, shown}
use Rattle.trie.specs.declared.Walked.{Walked}

-- the ledger in these cells
abbrev pub ledger_in : List ℕ → List ℕ → Ledger
ledger_in lasts slots = record { lasts = lasts; slots = slots }

-- the nodes that one of these lengths has cells for
unfoldable pub nodes_held : ℕ → ℕ → ℕ
nodes_held lasts slots = pick (leb slots (2 ^ 32)) (min (lasts - 1) (slots / 2)) 0

abbrev pub nodes_in : List ℕ → ℕ → Node
nodes_in space = node_in sizes space

-- it has cells for node n
pub record LedgerRoom (n : ℕ) (lasts slots : List ℕ) : Type 0 where
  pub lasts-room : n < length lasts
  pub slots-some : 0 < length slots
  pub slots-most : length slots ≤ 2 ^ 32

-- what is left of a ledger is this one
abbrev pub LeavesLedger : Ledger → List ℕ → List ℕ → Type 0
LeavesLedger k lasts slots = (lasts ≡ k.lasts) × (slots ≡ k.slots)

abbrev pub EntersNode : List ℕ → ℕ → List ℕ → List ℕ → List ℕ → List ℕ → Type 0
EntersNode space n lasts slots lasts' slots' =
    LeavesLedger (enter_node (nodes_in space) (ledger_in lasts slots) n) lasts' slots'

abbrev pub CatchesUp : List ℕ → ℕ → List ℕ → List ℕ → List ℕ → List ℕ → Type 0
CatchesUp space nodes lasts slots lasts' slots' =
    LeavesLedger (caught_up (nodes_in space) nodes (ledger_in lasts slots)) lasts' slots'

-- ---- search

-- the nodes of a trie whose links are held to so many records
abbrev pub trie_for : List ℕ → (nodes links : ℕ) → Trie
trie_for space nodes links = trie_in sizes space nodes links

-- the slots give r, whatever links are held to
abbrev pub LooksUp : List ℕ → (nodes parent token : ℕ) → List ℕ → ℕ → Type 0
LooksUp space nodes parent token slots r =
    (links : ℕ)
    → (let size = length slots in
    r ≡ probe size (trie_in sizes space nodes links) slots parent token (mixed_slot size parent token))

-- there is no slot, or the ledger has every node
abbrev pub Usable : ℕ → List ℕ → List ℕ → Type 0
Usable nodes lasts slots = (length slots ≡ 0 → ⊥) → usable nodes (ledger_in lasts slots) ≡ true

-- ---- walk

-- so many slots are looked in
abbrev pub UsesSlots : ℕ → List ℕ → List ℕ → ℕ → Type 0
UsesSlots nodes lasts slots used =
    (used ≡ pick (usable nodes (ledger_in lasts slots)) (length slots) 0) × (used ≤ length slots)

-- the walk, as the code answers
abbrev pub ledger_walk : List ℕ → (nodes links root : ℕ) → (tokens lasts slots : List ℕ) → Walked
ledger_walk cs nodes links root tokens lasts slots =
    shown (walk_by (search_in (ledger_in lasts slots)) (trie_in sizes cs nodes links) root tokens)
