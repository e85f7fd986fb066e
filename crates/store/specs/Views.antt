-- What the calls read of a space, whatever holds it: capacities, counts, and the records by number.
use Rattle.std.specs.Prelude.{ℕ, List}
use Rattle.space.specs.Layout.{Sizes, node_in, subgoal_in, answer_in}
use Rattle.space.specs.declared.Head.{Head}
use Rattle.space.specs.declared.Node.{Node}
use Rattle.space.specs.declared.Subgoal.{Subgoal}
use Rattle.space.specs.declared.Answer.{Answer}
use Rattle.trie.specs.Siblings.{Trie}

pub record View : Type 0 where
  pub N : ℕ
  pub F : ℕ
  pub A : ℕ
  pub nodes : ℕ
  pub subgoals : ℕ
  pub answers : ℕ
  pub node : ℕ → Node
  pub subgoal : ℕ → Subgoal
  pub answer : ℕ → Answer

-- the subgoal trie, whose links are held to the subgoals, and the answer tries
abbrev pub subgoal_trie : View → Trie
subgoal_trie v = record { at = v.node; nodes = v.nodes; links = v.subgoals }

abbrev pub answer_trie : View → Trie
answer_trie v = record { at = v.node; nodes = v.nodes; links = v.answers }

-- the cells of a space whose header is sound
abbrev pub view_of : Sizes → List ℕ → Head → View
view_of z cs h = record {
  N = h.node_capacity;
  F = h.subgoal_capacity;
  A = h.answer_capacity;
  nodes = h.nodes;
  subgoals = h.subgoals;
  answers = h.answers;
  node = node_in z cs;
  subgoal = subgoal_in z cs h.subgoal_offset;
  answer = answer_in z cs h.answer_offset;
}
