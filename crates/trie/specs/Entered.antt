-- The search with an index while nodes are entered, on any trie, sound or damaged, and with any cells for an index. A
-- join decides on the space as it was lent and then enters its forms one after another: what it was decided by must
-- stay so meanwhile.
use Rattle.std.specs.Prelude.{◌≡◌, ℕ, ◌+◌, ◌<◌, ◌≤◌, true, ◌⊎◌, List, ◌≢◌}
use Rattle.trie.specs.Siblings.{Trie, sound}
use Rattle.trie.specs.Walks.{Finding}
use Rattle.trie.specs.Append.{with_node}
use Rattle.trie.specs.Index.{search_indexed}
use Rattle.trie.specs.declared.Search.{Search}
use Rattle.trie.specs.declared.Search.TheVariants.{Found, Last, Damaged}

-- t' is t with one node more: the child with the token that a search missed below `parent`, after the child that the
-- search named
pub record Entered (find : Finding) (t t' : Trie) (parent last token : ℕ) : Type 0 where
  pub within : parent < t.nodes
  pub judged : sound t parent ≡ true
  pub missed : find t parent token ≡ Last last
  pub nodes-more : t'.nodes ≡ t.nodes + 1
  pub links-same : t'.links ≡ t.links
  pub records : (m : ℕ) → t'.at m ≡ with_node t.at t.nodes parent last token m

-- the node that is entered is found
abbrev pub EnteredFound : Type 0
EnteredFound =
    (index : List ℕ) (stood : ℕ) (t t' : Trie) (parent last token : ℕ)
    → Entered (search_indexed index stood) t t' parent last token → stood ≤ t.nodes
    → search_indexed index stood t' parent token ≡ Found t.nodes

-- a child that was found is found again
abbrev pub FoundStays : Type 0
FoundStays =
    (index : List ℕ) (stood : ℕ) (t t' : Trie) (parent last token : ℕ)
    → Entered (search_indexed index stood) t t' parent last token → stood ≤ t.nodes
    → (n x c : ℕ) → n < t.nodes → sound t n ≡ true → search_indexed index stood t n x ≡ Found c
    → search_indexed index stood t' n x ≡ Found c

-- one that was missed is missed again, or it is the one that was entered
abbrev pub MissedStays : Type 0
MissedStays =
    (index : List ℕ) (stood : ℕ) (t t' : Trie) (parent last token : ℕ)
    → Entered (search_indexed index stood) t t' parent last token → stood ≤ t.nodes
    → (n x l : ℕ) → n < t.nodes → sound t n ≡ true → search_indexed index stood t n x ≡ Last l
    → ((k : ℕ) × (search_indexed index stood t' n x ≡ Last k)) ⊎ ((n ≡ parent) × (x ≡ token))

-- t' is t with other links, each held to their number where it was; records beyond the nodes used may differ
pub record Relinked (t t' : Trie) : Type 0 where
  pub nodes-same : t'.nodes ≡ t.nodes
  pub tokens-same : (m : ℕ) → m < t.nodes → (t'.at m).token ≡ (t.at m).token
  pub parents-same : (m : ℕ) → m < t.nodes → (t'.at m).parent ≡ (t.at m).parent
  pub children-same : (m : ℕ) → m < t.nodes → (t'.at m).child ≡ (t.at m).child
  pub siblings-same : (m : ℕ) → m < t.nodes → (t'.at m).sibling ≡ (t.at m).sibling
  pub links-held : (m : ℕ) → m < t.nodes → (t.at m).link ≤ t.links → (t'.at m).link ≤ t'.links

-- a search that met no damage ends as it did
abbrev pub LinkedSame : Type 0
LinkedSame =
    (index : List ℕ) (stood : ℕ) (t t' : Trie) → Relinked t t'
    → (n x : ℕ) (r : Search) → n < t.nodes → sound t n ≡ true → (r ≢ Damaged)
    → search_indexed index stood t n x ≡ r → search_indexed index stood t' n x ≡ r
