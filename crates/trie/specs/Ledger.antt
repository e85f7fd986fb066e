-- A ledger beside the nodes: two arrays of cells that a caller lends from call to call, zeros at first and written by
-- nothing but calls that are lent them. They say which children there are, so that where there is none that is had
-- without the sibling chain: an index (Index.antt) may be anything, so its misses say nothing, and a new child below a
-- node with thousands of children takes the whole chain.
--
--   lasts   cell 0       how many nodes of the space are entered: the first so many
--           cell 1 + p   the last child of node p among them, 0 where there is none
--   slots   a hash table with linear probing, one cell a slot, as in an index: a child's number, 0 where it is free
--
-- Nodes are never removed, and a node's parent and token never change. So what was entered of a space stays true of it
-- whatever calls are made in between, and a call goes on where cell 0 says: it first enters the nodes that came since.
use Rattle.std.specs.Prelude.{◌≡◌, ℕ, zero, suc, ◌+◌, ◌-◌, ◌*◌, ◌/◌, ◌%◌, ◌^◌, ◌<◌, ◌≤◌, min, Bool, ◌&&◌, List, [], ◌∷◌}
use Rattle.std.specs.Prelude.{length, ◌==◌, ◌≢◌, nat_le, nat_lt, slice_index, slice_set}
use Rattle.basis.specs.Choice.{pick}
use Rattle.space.specs.declared.Node.{Node}
use Rattle.trie.specs.Siblings.{Trie, sound, at_sibling, search_children}
use Rattle.trie.specs.Walks.{Finding}
use Rattle.trie.specs.Index.{slot_after, probe, insert_from, empty_index}
use Rattle.trie.specs.declared.Search.TheVariants.{Found, Last, Damaged}

pub record Ledger : Type 0 where
  pub lasts : List ℕ
  pub slots : List ℕ

-- the nodes that are entered
abbrev pub stamp : Ledger → ℕ
stamp k = slice_index k.lasts 0

-- the last child of node p, as it says
abbrev pub last_in : Ledger → ℕ → ℕ
last_in k p = slice_index k.lasts (suc p)

-- as it is first lent
abbrev pub blank_ledger : ℕ → ℕ → Ledger
blank_ledger lasts slots = record { lasts = empty_index lasts; slots = empty_index slots }

-- ---- slots

-- where the child with this parent and token is looked for first: a 32-bit number that the two are mixed to, scaled to
-- the number of slots, so that its upper binary digits count. Near parents and tokens, and tokens in steps of 16 or 256
-- as functors of one arity are, lie far apart. No term of it has more than 64 binary digits.
unfoldable pub mixed_slot : ℕ → ℕ → ℕ → ℕ
mixed_slot size parent token = ((parent * 1780508695 + token * 97174869) % (2 ^ 32)) * size / (2 ^ 32)

-- ---- catching up

-- the nodes that it has cells for: at least half of the slots stay free
unfoldable pub ledger_capacity : Ledger → ℕ
ledger_capacity k = pick (nat_le (length k.slots) (2 ^ 32)) (min (length k.lasts - 1) (length k.slots / 2)) 0

-- node n: if it is a child, it is its parent's last one so far, and takes a slot
unfoldable pub enter_node : (ℕ → Node) → Ledger → ℕ → Ledger
enter_node at k n =
    let p = (at n).parent in
    let size = length k.slots in
    pick (nat_lt p n)
    (record {
      lasts = slice_set (slice_set k.lasts (suc p) n) 0 (suc n);
      slots = insert_from size k.slots (mixed_slot size p (at n).token) n;
    })
    (record { lasts = slice_set k.lasts 0 (suc n); slots = k.slots })

-- so many nodes from number `from` on
unfoldable pub enter_nodes : (ℕ → Node) → Ledger → ℕ → ℕ → Ledger
enter_nodes at k from zero = k
enter_nodes at k from (suc more) = enter_node at (enter_nodes at k from more) (from + more)

-- with the nodes of a space entered, as far as there are cells for them
unfoldable pub caught_up : (ℕ → Node) → ℕ → Ledger → Ledger
caught_up at nodes k = enter_nodes at k (stamp k) (min nodes (ledger_capacity k) - stamp k)

-- every node is entered; one that has no cells for them says nothing of absence
unfoldable pub usable : ℕ → Ledger → Bool
usable nodes k = nat_le nodes (ledger_capacity k) && stamp k == nodes

-- ---- search

-- l is the last child of `parent`, by its own record
unfoldable pub is_last : Trie → ℕ → ℕ → Bool
is_last t parent l =
    nat_lt parent l && nat_lt l t.nodes && sound t l && (t.at l).parent == parent && (t.at l).sibling == 0

-- where the slots lack the child: after the last child that is noted, if its record confirms it
unfoldable pub absent : Ledger → Finding
absent k t parent token =
    pick (is_last t parent (last_in k parent)) (Last (last_in k parent)) (search_children t parent token)

-- an entry that its record confirms is judged as a sibling compared is
unfoldable pub found_in : Ledger → Finding
found_in k t parent token =
    let size = length k.slots in
    let x = probe size t k.slots parent token (mixed_slot size parent token) in
    pick (x == 0) (absent k t parent token) (pick (sound t x) (Found x) Damaged)

-- among all children, by a ledger with every node; by the chain where there are not cells enough. The first child is
-- looked at before any slot, and is judged as a sibling compared is: most nodes have one, and along the path of a term
-- slots lie as far apart as nodes lie close.
unfoldable pub search_in : Ledger → Finding
search_in k t parent token =
    pick ((t.at parent).child == 0) (Last 0)
    (pick (usable t.nodes k)
    (at_sibling t parent token (t.at parent).child (found_in k t parent token))
    (search_children t parent token))

-- by a ledger that is first caught up
abbrev pub search_kept : Ledger → Finding
search_kept k t = search_in (caught_up t.at t.nodes k) t

-- the same with no way into the chain but where there are not cells enough: what a true ledger notes of last children
-- needs no confirming
unfoldable pub trusted_in : Ledger → Finding
trusted_in k t parent token =
    let size = length k.slots in
    let x = probe size t k.slots parent token (mixed_slot size parent token) in
    pick ((t.at parent).child == 0) (Last 0)
    (pick (usable t.nodes k)
    (at_sibling t parent token (t.at parent).child
    (pick (x == 0) (Last (last_in k parent)) (pick (sound t x) (Found x) Damaged)))
    (search_children t parent token))

abbrev pub trusted_kept : Ledger → Finding
trusted_kept k t = trusted_in (caught_up t.at t.nodes k) t

-- ---- what it says is true of a space

-- x is reached from a slot within so many steps, over slots that are taken
pub data Reach (index : List ℕ) (x : ℕ) : ℕ → ℕ → Type 0 where
  here : (k slot : ℕ) → slice_index index slot ≡ x → Reach index x (suc k) slot
  on : (k slot : ℕ) → (slice_index index slot ≢ 0) → Reach index x k (slot_after (length index) slot)
      → Reach index x (suc k) slot

-- the free slots
unfoldable pub zeros : List ℕ → ℕ
zeros [] = 0
zeros (y ∷ ys) = pick (y == 0) (suc (zeros ys)) (zeros ys)

-- the last child of p among the first n nodes
unfoldable pub last_below : (ℕ → Node) → ℕ → ℕ → ℕ
last_below at zero p = 0
last_below at (suc n) p = pick (nat_lt (at n).parent n && (at n).parent == p) n (last_below at n p)

-- of the first n nodes every child is entered, the last children are noted, and no other slot is taken
pub record Entered (at : ℕ → Node) (n : ℕ) (k : Ledger) : Type 0 where
  pub reached : (x : ℕ) → x < n → (at x).parent < x
      → Reach k.slots x (length k.slots) (mixed_slot (length k.slots) (at x).parent (at x).token)
  pub noted : (p : ℕ) → last_in k p ≡ last_below at n p
  pub room : length k.slots ≤ zeros k.slots + n

-- of these nodes, as far as it is stamped
pub record Complete (at : ℕ → Node) (nodes : ℕ) (k : Ledger) : Type 0 where
  pub within : stamp k ≤ nodes
  pub entered : Entered at (stamp k) k

-- a space after calls: no node is gone, and none has another parent or token
pub record Grown (at : ℕ → Node) (nodes : ℕ) (after : ℕ → Node) (more : ℕ) : Type 0 where
  pub no-fewer : nodes ≤ more
  pub parent-kept : (i : ℕ) → i < nodes → (after i).parent ≡ (at i).parent
  pub token-kept : (i : ℕ) → i < nodes → (after i).token ≡ (at i).token
