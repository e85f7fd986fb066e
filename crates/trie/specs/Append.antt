-- A path of new nodes, appended below a node after its last child.
use Rattle.std.specs.Prelude.{ℕ, ◌+◌, ◌<◌, ◌≤◌, List, [], ◌∷◌, length, ◌==◌}
use Rattle.basis.specs.Choice.{pick}
use Rattle.basis.specs.Writes.{put, writes}
use Rattle.space.specs.Layout.{Sizes, node_at, child_cell, sibling_cell, node_to}
use Rattle.space.specs.Sound.{NodesIn}
use Rattle.space.specs.declared.Node.{Node}

-- a new node, and a new root
abbrev pub new_node : ℕ → ℕ → Node
new_node token parent = record { token = token; child = 0; sibling = 0; parent = parent; link = 0 }

abbrev pub new_root : ℕ → Node
new_root n = new_node 0 n

-- the cell that is to lead to a new child: the parent's child, or its last child's sibling (0: it has none)
unfoldable pub lead_cell : Sizes → ℕ → ℕ → ℕ
lead_cell z parent last = pick (last == 0) (child_cell z parent) (sibling_cell z last)

-- node n below `parent`
unfoldable pub append_node : Sizes → List ℕ → ℕ → ℕ → ℕ → ℕ → List ℕ
append_node z cs n parent last token =
    writes (put (lead_cell z parent last) n ∷ node_to (node_at z n) (new_node token parent)) cs

-- a node for each token, numbered from n in path order
unfoldable pub append_path : Sizes → List ℕ → ℕ → ℕ → ℕ → List ℕ → List ℕ
append_path z cs n parent last [] = cs
append_path z cs n parent last (x ∷ xs) = append_path z (append_node z cs n parent last x) (n + 1) n 0 xs

-- there is room for node n, which is the next one, below a node and after one that stand
abbrev pub NewNode : List ℕ → ℕ → ℕ → ℕ → ℕ → Type 0
NewNode cs capacity n parent last = NodesIn cs capacity × (n < capacity) × (parent < n) × (last < n)

-- and for a node to each token
abbrev pub PathRoom : List ℕ → ℕ → ℕ → ℕ → ℕ → List ℕ → Type 0
PathRoom cs capacity n parent last xs =
    NodesIn cs capacity × (parent < n) × (last < n) × (n + length xs ≤ capacity)

-- a path appended, on records by number, whatever holds them
abbrev pub with_child : Node → ℕ → Node
with_child y n = record { token = y.token; child = n; sibling = y.sibling; parent = y.parent; link = y.link }

abbrev pub with_sibling : Node → ℕ → Node
with_sibling y n = record { token = y.token; child = y.child; sibling = n; parent = y.parent; link = y.link }

unfoldable pub with_node : (ℕ → Node) → ℕ → ℕ → ℕ → ℕ → ℕ → Node
with_node at n parent last token m =
    pick (m == n) (new_node token parent)
    (pick (last == 0)
    (pick (m == parent) (with_child (at m) n) (at m))
    (pick (m == last) (with_sibling (at m) n) (at m)))

unfoldable pub with_path : (ℕ → Node) → ℕ → ℕ → ℕ → List ℕ → ℕ → Node
with_path at n parent last [] = at
with_path at n parent last (x ∷ xs) = with_path (with_node at n parent last x) (n + 1) n 0 xs
