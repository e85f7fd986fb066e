-- What a caller needs to know of the search with an index: how many turns it takes, what it can answer on any trie,
-- sound or damaged, and with any cells for an index, and the order that the document gives, which on a trie without
-- damage comes to the same.
use Rattle.std.specs.Prelude.{◌≡◌, ℕ, zero, suc, ◌<◌, ◌≤◌, true, ◌&&◌, ◌⊎◌, List, length, ◌==◌, ◌≢◌}
use Rattle.basis.specs.Choice.{pick}
use Rattle.trie.specs.Siblings.{Trie, sound, search_children}
use Rattle.trie.specs.Walks.{Finding}
use Rattle.trie.specs.Index.{powered, slot_of, confirmed, probe, lookup, search_in_turn, search_indexed}
use Rattle.trie.specs.declared.Search.{Search}
use Rattle.trie.specs.declared.Search.TheVariants.{Found, Damaged}

-- ---- how many turns

-- the siblings that the chain alone compares from n on: up to the one with the token, the last one, or a damaged one
unfoldable pub siblings_compared : ℕ → Trie → (parent token n : ℕ) → ℕ
siblings_compared zero t parent token n = 0
siblings_compared (suc steps) t parent token n =
    let rest = siblings_compared steps t parent token (t.at n).sibling in
    suc
    (pick (sound t n && (t.at n).parent == parent)
    (pick ((t.at n).token == token) 0 (pick ((t.at n).sibling == 0) 0 rest)) 0)

-- so many turns are enough among the children of a node that has some
abbrev pub EnoughTurns : List ℕ → ℕ → Trie → (parent token turns : ℕ) → Type 0
EnoughTurns index stood t parent token turns =
    search_in_turn turns t index stood parent token (slot_of (length index) parent token) (t.at parent).child
    ≡ search_indexed index stood t parent token

-- as many as the chain alone would compare siblings, whatever the index holds and whatever is damaged
abbrev pub TurnsAsSiblings : Type 0
TurnsAsSiblings =
    (index : List ℕ) (stood : ℕ) (t : Trie) (parent token : ℕ) → powered index → ((t.at parent).child ≢ 0)
    → EnoughTurns index stood t parent token (siblings_compared t.nodes t parent token (t.at parent).child)

-- and, where the lookup gives a child, as many as it looks in slots, in every call on the space as it was lent
abbrev pub TurnsAsSlots : Type 0
TurnsAsSlots =
    (index : List ℕ) (stood : ℕ) (t : Trie) (parent token slots : ℕ) → powered index → ((t.at parent).child ≢ 0)
    → t.nodes ≤ stood → parent < t.nodes → sound t parent ≡ true
    → (probe slots t index parent token (slot_of (length index) parent token) ≢ 0)
    → EnoughTurns index stood t parent token slots

-- ---- what it answers

-- an entry that is confirmed, judged
abbrev pub entry_judged : Trie → ℕ → Search
entry_judged t x = pick (sound t x) (Found x) Damaged

-- the chain's own answer, or that of an entry which its node confirms; only the chain says that there is no such child
abbrev pub ChainOrEntry : Type 0
ChainOrEntry =
    (index : List ℕ) (stood : ℕ) (t : Trie) (parent token : ℕ)
    → (search_indexed index stood t parent token ≡ search_children t parent token)
    ⊎ ((x : ℕ) × (confirmed t parent token x ≡ true) × (search_indexed index stood t parent token ≡ entry_judged t x))

-- ---- the order of the document

-- the lookup first; the chain where it misses
unfoldable pub lookup_first : List ℕ → Finding
lookup_first index t parent token =
    let x = lookup t index parent token in pick (x == 0) (search_children t parent token) (entry_judged t x)
