-- The entries of a draft in free nodes: where they stand, how one is found, and what one more leaves. An entry has the
-- token and the parent of the node that it stands for. Its sibling is the entry before it in the same slot. The child
-- of free node b is the latest entry of slot b, whether or not b is an entry itself.
use Rattle.drafts.specs.declared.Reached.{Reached}
use Rattle.std.specs.Prelude.{ℕ, ◌+◌, ◌*◌, ◌%◌, ◌<◌, ◌≤◌, Bool, ◌&&◌, List, ◌⊎◌, ◌≡◌, eqb, None, Option, Some}
use Rattle.space.specs.Layout.{sizes, node_at, node_in}
use Rattle.space.specs.Sound.{NodesIn}
use Rattle.space.specs.declared.Node.{Node}
use Rattle.agreement.proofs.CellRecords.{Kept}
use Rattle.drafts.specs.declared.Room.{Room}

-- the free node whose child is the slot of a parent and a token
unfoldable pub slot_in : Room → ℕ → ℕ → ℕ
slot_in x parent token = x.base + (parent * 40503 + token) % x.most

abbrev pub entry_slot : Room → Node → ℕ
entry_slot x y = slot_in x y.parent y.token

unfoldable pub is_entry : Node → ℕ → ℕ → Bool
is_entry y parent token = eqb y.parent parent && eqb y.token token

-- the nodes from base on, below `used`, are entries, and every slot leads to all of its own
pub record Bucketed (at : ℕ → Node) (x : Room) (used : ℕ) : Type 0 where
  pub some : 1 ≤ x.base
  pub from : x.base ≤ used
  pub fits : used ≤ x.base + x.most
  pub head-below : (b : ℕ) → x.base ≤ b → b < x.base + x.most → (at b).child < used
  pub head-new : (b : ℕ) → x.base ≤ b → b < x.base + x.most → ((at b).child ≡ 0 → ⊥) → x.base ≤ (at b).child
  pub head-slot : (b : ℕ) → x.base ≤ b → b < x.base + x.most → ((at b).child ≡ 0 → ⊥)
      → entry_slot x (at (at b).child) ≡ b
  pub head-all : (b : ℕ) → x.base ≤ b → b < x.base + x.most → (n : ℕ) → x.base ≤ n → n < used
      → entry_slot x (at n) ≡ b → n ≤ (at b).child
  pub next-below : (n : ℕ) → x.base ≤ n → n < used → (at n).sibling < n
  pub next-new : (n : ℕ) → x.base ≤ n → n < used → ((at n).sibling ≡ 0 → ⊥) → x.base ≤ (at n).sibling
  pub next-slot : (n : ℕ) → x.base ≤ n → n < used → ((at n).sibling ≡ 0 → ⊥)
      → entry_slot x (at (at n).sibling) ≡ entry_slot x (at n)
  pub next-all : (n : ℕ) → x.base ≤ n → n < used → (m : ℕ) → x.base ≤ m → m < n
      → entry_slot x (at m) ≡ entry_slot x (at n) → m ≤ (at n).sibling
  pub parent-below : (n : ℕ) → x.base ≤ n → n < used → (at n).parent < n

-- the free nodes of a draft stand in the cells, which begin and end there
abbrev pub lowest : Room → ℕ
lowest x = node_at sizes x.base

abbrev pub highest : Room → ℕ
highest x = node_at sizes (x.base + x.most)

abbrev pub Reachable : List ℕ → Room → ℕ → ℕ → Type 0
Reachable cs x used parent = NodesIn cs (x.base + x.most) × Bucketed (node_in sizes cs) x used × (parent < used)

abbrev pub Seekable : List ℕ → Room → ℕ → ℕ → Type 0
Seekable cs x used parent = Reachable cs x used parent × (1 ≤ x.most)

abbrev pub Placeable : List ℕ → Room → ℕ → ℕ → Type 0
Placeable cs x used parent = Reachable cs x used parent × (used < x.base + x.most)

-- ---- one is found

-- no entry has this parent and this token
abbrev pub Absent : (ℕ → Node) → Room → ℕ → ℕ → ℕ → Type 0
Absent at x used parent token =
    (n : ℕ) → x.base ≤ n → n < used → (at n).parent ≡ parent → (at n).token ≡ token → ⊥

pub record Present (at : ℕ → Node) (x : Room) (used parent token n : ℕ) : Type 0 where
  pub low : x.base ≤ n
  pub high : n < used
  pub parent_is : (at n).parent ≡ parent
  pub token-is : (at n).token ≡ token

abbrev pub EntryFound : List ℕ → Room → ℕ → ℕ → ℕ → ℕ → Type 0
EntryFound cs x used parent token r =
    (r ≡ 0 → Absent (node_in sizes cs) x used parent token)
    × ((r ≡ 0 → ⊥) → Present (node_in sizes cs) x used parent token r)

-- ---- one more

-- node n becomes an entry, the first of slot b
pub record Placed (at at' : ℕ → Node) (n b parent token : ℕ) : Type 0 where
  pub token-new : (at' n).token ≡ token
  pub parent-new : (at' n).parent ≡ parent
  pub sibling-new : (at' n).sibling ≡ (at b).child
  pub link-new : (at' n).link ≡ 0
  pub child-new : (at' b).child ≡ n
  pub token-old : (m : ℕ) → (m ≡ n → ⊥) → (at' m).token ≡ (at m).token
  pub parent-old : (m : ℕ) → (m ≡ n → ⊥) → (at' m).parent ≡ (at m).parent
  pub sibling-old : (m : ℕ) → (m ≡ n → ⊥) → (at' m).sibling ≡ (at m).sibling
  pub link-old : (m : ℕ) → (m ≡ n → ⊥) → (at' m).link ≡ (at m).link
  pub child-old : (m : ℕ) → (m ≡ b → ⊥) → (at' m).child ≡ (at m).child

abbrev pub EntryPlaced : List ℕ → Room → ℕ → ℕ → ℕ → List ℕ → Type 0
EntryPlaced cs x used parent token cs' =
    Placed (node_in sizes cs) (node_in sizes cs') used (slot_in x parent token) parent token
    × Bucketed (node_in sizes cs') x (used + 1) × Kept (lowest x) (highest x) cs cs'

-- ---- one that is found or made

abbrev pub Made : List ℕ → Room → ℕ → ℕ → ℕ → List ℕ → ℕ → ℕ → Type 0
Made cs x used parent token cs' n used' =
    Absent (node_in sizes cs) x used parent token × (n ≡ used) × (used' ≡ used + 1)
    × EntryPlaced cs x used parent token cs'

abbrev pub Known : List ℕ → Room → ℕ → ℕ → ℕ → List ℕ → ℕ → ℕ → Type 0
Known cs x used parent token cs' n used' =
    Present (node_in sizes cs) x used parent token n × (used' ≡ used) × (cs' ≡ cs)

-- at a node, with so many in use
abbrev pub arrived : ℕ → ℕ → Reached
arrived n k = record { node = n; used = k }

abbrev pub EntryReached : List ℕ → Room → ℕ → ℕ → ℕ → List ℕ → Option Reached → Type 0
EntryReached cs x used parent token cs' (Some reached) =
    Known cs x used parent token cs' reached.node reached.used
    ⊎ Made cs x used parent token cs' reached.node reached.used
EntryReached cs x used parent token cs' None =
    Absent (node_in sizes cs) x used parent token × (used ≡ x.base + x.most) × (cs' ≡ cs)
