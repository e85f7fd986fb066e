-- The build of an index on the cells of a space, sound or damaged: refusal 1, then 9 by the nodes, then 17 by the
-- number of slots. Every node is read and judged, no subgoal and no answer is; the children of nodes that have more
-- than 8 enter by number. Nothing but the index is written, and that only by a build that is not refused.
use Rattle.basis.specs.Refusals.{number_of}
use Rattle.std.specs.Prelude.{ℕ, zero, suc, Bool, true, ◌&&◌, List, eqb, length, Err, Ok}
use Rattle.basis.specs.Choice.{pick}
use Rattle.space.specs.Layout.{sizes_of}
use Rattle.space.specs.Heading.{space_header, Header}
use Rattle.space.specs.Judging.{node_sound}
use Rattle.space.specs.declared.Node.{Node}
use Rattle.trie.specs.Siblings.{Trie}
use Rattle.trie.specs.Append.{new_root}
use Rattle.trie.specs.Index.{entering, built_index, roomy}
use Rattle.store.specs.Views.{View, subgoal_trie, view_of}

-- ---- 9

-- the root that the parents lead to, at most so many steps up
unfoldable pub root_above : ℕ → (ℕ → Node) → ℕ → ℕ
root_above zero at n = n
root_above (suc steps) at n =
    let up = root_above steps at (at n).parent in
    pick (eqb (at n).parent n) n up

-- what the links of node n's trie are held to: the subgoals below node 0, the answers below every other root. Parents
-- are not above their nodes in a sound space, so no way up has more steps than there are nodes.
abbrev pub links_of : View → ℕ → ℕ
links_of v n = pick (eqb (root_above v.nodes v.node n) 0) v.subgoals v.answers

-- node n is judged whole, and the parents of its first child and its next sibling are as they must be
unfoldable pub node_fit : View → ℕ → Bool
node_fit v n =
    let y = v.node n in
    node_sound v.nodes (links_of v n) n y
    && pick (eqb y.child 0) true (eqb (v.node y.child).parent n)
    && pick (eqb y.sibling 0) true (eqb (v.node y.sibling).parent y.parent)

-- the first n nodes are
unfoldable pub nodes_fit : View → ℕ → Bool
nodes_fit v zero = true
nodes_fit v (suc n) = nodes_fit v n && node_fit v n

-- ---- the build

pub data BuildReply : Type 0 where
  -- the children entered
  built : ℕ → BuildReply
  refused : ℕ → BuildReply

-- what the build answers, and the index that it leaves
pub record Build : Type 0 where
  pub reply : BuildReply
  pub index : List ℕ

-- the index as it was
abbrev pub unbuilt : ℕ → List ℕ → Build
unbuilt r index = record { reply = refused r; index = index }

-- of nodes that fit
unfoldable pub build_on : Trie → List ℕ → Build
build_on t index =
    pick (roomy t (length index))
    (record { reply = built (length (entering t t.nodes)); index = built_index t (length index) })
    (unbuilt 17 index)

unfoldable pub build_under : List ℕ → List ℕ → Header → Build
build_under cs index (Ok h) =
    let v = view_of (sizes_of h.edition) cs h in
    pick (nodes_fit v v.nodes) (build_on (subgoal_trie v) index) (unbuilt 9 index)
build_under cs index (Err r) = unbuilt (number_of r) index

-- on the cells of a space of any edition
unfoldable pub build_index : List ℕ → List ℕ → Build
build_index cs index = build_under cs index (space_header cs)

-- the nodes of a space, whatever their links; none where the header is refused
unfoldable pub nodes_under : List ℕ → Header → Trie
nodes_under cs (Ok h) = subgoal_trie (view_of (sizes_of h.edition) cs h)
nodes_under cs (Err r) = record { at = new_root; nodes = 0; links = 0 }

abbrev pub nodes_of : List ℕ → Trie
nodes_of cs = nodes_under cs (space_header cs)
