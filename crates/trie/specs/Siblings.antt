-- A trie as it is read, and the search among the children of a node.
use Rattle.std.specs.Prelude.{ℕ, zero, suc, Bool, true, ◌&&◌, List, ◌==◌}
use Rattle.basis.specs.Choice.{pick}
use Rattle.space.specs.Layout.{Sizes, node_in}
use Rattle.space.specs.Judging.{node_sound}
use Rattle.space.specs.declared.Node.{Node}
use Rattle.trie.specs.declared.Search.{Search}
use Rattle.trie.specs.declared.Search.TheVariants.{Found, Last, Damaged}

-- node records by number, whatever holds them; how many are used; and the count that links are held to:
-- the subgoals in the subgoal trie, the answers in an answer trie
pub record Trie : Type 0 where
  pub at : ℕ → Node
  pub nodes : ℕ
  pub links : ℕ

-- in the cells of a space
abbrev pub trie_in : Sizes → List ℕ → ℕ → ℕ → Trie
trie_in z cs nodes links = record { at = node_in z cs; nodes = nodes; links = links }

-- is node n sound?
abbrev pub sound : Trie → ℕ → Bool
sound t n = node_sound t.nodes t.links n (t.at n)

-- no node n is named, or one with this parent
unfoldable pub parent_is : (ℕ → Node) → ℕ → ℕ → Bool
parent_is at n p = pick (n == 0) true ((at n).parent == p)

-- child n of `parent`, and what the search among the siblings behind it gives. The node is judged whole before its
-- token is compared.
abbrev pub at_sibling : Trie → ℕ → ℕ → ℕ → Search → Search
at_sibling t parent token n rest =
    pick (sound t n && (t.at n).parent == parent)
    (pick ((t.at n).token == token) (Found n) (pick ((t.at n).sibling == 0) (Last n) rest))
    Damaged

-- from child n of `parent` on: the first sibling with the token, or the last sibling. Siblings rise, so no chain has
-- more steps than there are nodes.
unfoldable pub search_siblings : ℕ → Trie → ℕ → ℕ → ℕ → Search
search_siblings zero t parent token n = Damaged
search_siblings (suc steps) t parent token n =
    at_sibling t parent token n (search_siblings steps t parent token (t.at n).sibling)

-- among all children; the last one is 0 where there is none
unfoldable pub search_children : Trie → ℕ → ℕ → Search
search_children t parent token =
    pick ((t.at parent).child == 0) (Last 0) (search_siblings t.nodes t parent token (t.at parent).child)
