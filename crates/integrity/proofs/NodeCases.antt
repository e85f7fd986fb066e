-- A law for each case of testing a node.
use Rattle.std.specs.Prelude.{None, Option, Some}
use Prim.Native.Nat.{ℕ, ◌+◌, ◌<◌, ◌≤◌}
use mathlib.Core.Path.{◌≡◌, refl}
use mathlib.Core.Bool.{true, false, ◌&&◌}
use native.Mathlib.Omega.{arith}
use lib.Dec.{eqb}
use borrow.Author.Tests.{eq-eqb, ne_eqb}
use Rattle.basis.proofs.Tests.{strictly}
use Rattle.basis.specs.Choice.{pick}
use Rattle.plain.specs.Coding.{Coding, coding_of}
use Rattle.space.specs.Layout.{sizes, node_in}
use Rattle.space.specs.Judging.{read_node}
use Rattle.space.specs.declared.tables.Table.{Table}
use Rattle.space.specs.declared.Node.{Node}
use Rattle.space.proofs.JudgingLaws.{node-bounds, node-sound, follows-within, read-node-sound, read-node-damaged}
use Rattle.trie.specs.Siblings.{sound, parent_is}
use Rattle.store.specs.Views.{View}
use Rattle.store.specs.Clauses.{view_at}
use Rattle.agreement.specs.Whole.{all_nodes, root_whole, child_whole, link_whole, node_whole}
use Rattle.agreement.proofs.WholeTests.{node-local, every-below}
use Rattle.integrity.specs.Tests.{subgoal_ends, answer_ends, leads_back, node_test, NodesWhole, NodeOfNumber, ChildOfNumber, tries_in}

-- ---- a node

module _ (c : Coding) (v : View) (i : ℕ) where
  node-is : node_whole c v i ≡ (sound (all_nodes c v) i && parent_is v.node (v.node i).child i && leads_back v (v.node i).link i && pick (eqb (v.node i).parent i) (root_whole c v i) (child_whole c v i))
  unfolding node_whole link_whole parent_is leads_back subgoal_ends answer_ends
  node-is = refl

  pub node-unsound : sound (all_nodes c v) i ≡ false → false ≡ node_whole c v i
  node-unsound t = rw (node-is, t)

  module _ (t : sound (all_nodes c v) i ≡ true) (y : Node) (e : y ≡ v.node i) where
    pub node-child : parent_is v.node y.child i ≡ false → false ≡ node_whole c v i
    node-child k = rw (node-is, t, ← e, k)

    module _ (k : parent_is v.node y.child i ≡ true) where
      pub node-link : leads_back v y.link i ≡ false → false ≡ node_whole c v i
      node-link l = rw (node-is, t, ← e, k, l)

      module _ (l : leads_back v y.link i ≡ true) where
        pub node-root : y.parent ≡ i → root_whole c v i ≡ node_whole c v i
        node-root p = rw (node-is, t, ← e, k, l, eq-eqb y.parent i p)

        pub node-below : (y.parent ≡ i → ⊥) → child_whole c v i ≡ node_whole c v i
        node-below p = rw (node-is, t, ← e, k, l, ne_eqb y.parent i p)

  -- a node that is whole is sound
  whole-sound : node_whole c v i ≡ true → sound (all_nodes c v) i ≡ true
  whole-sound w = node-sound v.nodes (v.subgoals + v.answers) i (v.node i) (node-local c v i w).judged

-- ---- under a head: a node that was read and found sound, where those before it are whole

module _ (t : Table) (i : ℕ) where
  abbrev Reads : Option Node → Type 0
  Reads r = r ≡ read_node t.head.nodes (t.head.subgoals + t.head.answers) (node_in sizes t.cells.now) i

  pub node-damaged : Reads None → false ≡ node_test t i
  node-damaged e = node-unsound (coding_of t.head.edition) (view_at t) i (read-node-damaged _ _ _ _ e)

  module _ (y : Node) (e : Reads (Some y)) where
    pub read_is : y ≡ node_in sizes t.cells.now i
    read_is = (read-node-sound t.head.nodes (t.head.subgoals + t.head.answers) (node_in sizes t.cells.now) i e).0

    pub read-sound : sound (tries_in t) i ≡ true
    read-sound = (read-node-sound t.head.nodes (t.head.subgoals + t.head.answers) (node_in sizes t.cells.now) i e).1

    module _ (l : i < t.head.nodes) where
      pub child-within : y.child < t.head.nodes
      child-within =
          let d = node-bounds _ _ _ _ read-sound in
          rw read_is (follows-within t.head.nodes i _ (omega arith) d.child-follows)

      sibling-within : y.sibling < t.head.nodes
      sibling-within =
          let d = node-bounds _ _ _ _ read-sound in
          rw read_is (follows-within t.head.nodes i _ (omega arith) d.sibling-follows)

      parent-most : y.parent ≤ i
      parent-most = let d = node-bounds _ _ _ _ read-sound in rw read_is d.parent-most

      pub read-node-of : NodeOfNumber t i y
      read-node-of = (l, read_is)

      pub read-child-of : NodesWhole t i → (y.parent ≡ i → ⊥) → ChildOfNumber t i y
      read-child-of w o =
          let p : y.parent < i = strictly y.parent i parent-most o in
          (read-node-of, sibling-within, omega (arith, p), whole-sound (coding_of t.head.edition) (view_at t) y.parent (every-below (node_test t) i w y.parent p))
