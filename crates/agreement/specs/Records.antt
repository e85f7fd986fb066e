-- The records of a space, between the plain table and the cells: what a decision makes of them. For the proof only.
use Rattle.std.specs.Prelude.{ℕ, ◌+◌, ◌-◌, ◌≤◌, ◌<◌, ◌≡◌, List, eqb, length}
use Rattle.basis.specs.Choice.{pick}
use Rattle.plain.specs.Words.{Word}
use Rattle.plain.specs.Requests.{Reply}
use Rattle.space.specs.Layout.{Sizes}
use Rattle.space.specs.declared.Node.{Node}
use Rattle.space.specs.declared.Subgoal.{Subgoal}
use Rattle.space.specs.declared.Answer.{Answer}
use Rattle.trie.specs.Append.{new_root, with_path}
use Rattle.store.specs.Views.{View}
use Rattle.store.specs.Changes.{new_subgoal}
use Rattle.store.specs.Decisions.{Decision, says, gives, enters_subgoal, enters_answer, enters_empty, finishes}
use Rattle.store.specs.Decisions.{enters_answers}

-- a record has at least the cells of edition 1
pub record Wide (z : Sizes) : Type 0 where
  pub node_wide : 5 ≤ z.node
  pub subgoal-wide : 6 ≤ z.subgoal
  pub answer-wide : 3 ≤ z.answer

-- two views with the same capacities and counts, and the same records within the counts
pub record Alike (v w : View) : Type 0 where
  pub N-same : v.N ≡ w.N
  pub F-same : v.F ≡ w.F
  pub A-same : v.A ≡ w.A
  pub nodes-same : v.nodes ≡ w.nodes
  pub subgoals-same : v.subgoals ≡ w.subgoals
  pub answers-same : v.answers ≡ w.answers
  pub node-same : (n : ℕ) → n < w.nodes → v.node n ≡ w.node n
  pub subgoal-same : (s : ℕ) → 1 ≤ s → s ≤ w.subgoals → v.subgoal s ≡ w.subgoal s
  pub answer-same : (a : ℕ) → 1 ≤ a → a ≤ w.answers → v.answer a ≡ w.answer a

-- a fresh space: the subgoal root alone
abbrev pub fresh_view : ℕ → ℕ → ℕ → View
fresh_view n f a = record {
  N = n;
  F = f;
  A = a;
  nodes = 1;
  subgoals = 0;
  answers = 0;
  node = λ i. new_root 0;
  subgoal = λ s. new_subgoal 0 0 0;
  answer = λ b. record { leaf = 0; subgoal = 0; next = 0 };
}

-- ---- changes of one record

abbrev pub with_link : Node → ℕ → Node
with_link y x = record { token = y.token; child = y.child; sibling = y.sibling; parent = y.parent; link = x }

abbrev pub with_state : Subgoal → ℕ → Subgoal
with_state g x =
    record { leaf = g.leaf; root = g.root; variables = g.variables; state = x; first = g.first; last = g.last }

-- a is its last answer, and its first where it had none
abbrev pub with_last : Subgoal → ℕ → Subgoal
with_last g a = record {
  leaf = g.leaf;
  root = g.root;
  variables = g.variables;
  state = g.state;
  first = pick (eqb g.last 0) a g.first;
  last = a;
}

abbrev pub with_next : Answer → ℕ → Answer
with_next y a = record { leaf = y.leaf; subgoal = y.subgoal; next = a }

-- the reader with another record at n
abbrev pub updated : {R : Type 0} → (ℕ → R) → ℕ → R → ℕ → R
updated at n y i = pick (eqb i n) y (at i)

-- ---- changes of a view

abbrev pub with_new_subgoal : View → ℕ → ℕ → Word → ℕ → View
with_new_subgoal v parent last left m =
    let root = v.nodes + length left in
    let s = v.subgoals + 1 in
    let path = with_path v.node v.nodes parent last left in
    record {
      N = v.N;
      F = v.F;
      A = v.A;
      nodes = root + 1;
      subgoals = s;
      answers = v.answers;
      node = updated (updated path (root - 1) (with_link (path (root - 1)) s)) root (new_root root);
      subgoal = updated v.subgoal s (new_subgoal (root - 1) root m);
      answer = v.answer;
    }

-- over the nodes that the path leaves
abbrev pub with_new_answer : View → (ℕ → Node) → ℕ → ℕ → ℕ → View
with_new_answer v path nodes s leaf =
    let a = v.answers + 1 in
    let before = (v.subgoal s).last in
    record {
      N = v.N;
      F = v.F;
      A = v.A;
      nodes = nodes;
      subgoals = v.subgoals;
      answers = a;
      node = updated path leaf (with_link (path leaf) a);
      subgoal = updated v.subgoal s (with_last (v.subgoal s) a);
      answer = updated (pick (eqb before 0) v.answer
          (updated v.answer before (with_next (v.answer before) a))) a
          (record { leaf = leaf; subgoal = s; next = 0 });
    }

abbrev pub with_finish : View → ℕ → View
with_finish v s = record {
  N = v.N;
  F = v.F;
  A = v.A;
  nodes = v.nodes;
  subgoals = v.subgoals;
  answers = v.answers;
  node = v.node;
  subgoal = updated v.subgoal s (with_state (v.subgoal s) 1);
  answer = v.answer;
}

-- what a decision that fits makes of them; none that enters answers one after another does: it is taken answer by
-- answer
unfoldable pub changed_view : View → Decision → View
changed_view v (says r) = v
changed_view v (gives ks) = v
changed_view v (enters_subgoal parent last left m) = with_new_subgoal v parent last left m
changed_view v (enters_answer s parent last left) =
    with_new_answer v (with_path v.node v.nodes parent last left) (v.nodes + length left) s
    (v.nodes + length left - 1)
changed_view v (enters_empty s) = with_finish (with_new_answer v v.node v.nodes s (v.subgoal s).root) s
changed_view v (finishes s) = with_finish v s
changed_view v (enters_answers s ws) = v

-- the change stays within the capacities, and changes records that are there
pub data Fits (v : View) : Decision → Type 0 where
  says-fits : (r : Reply) → Fits v (says r)
  gives_fits : (ks : List ℕ) → Fits v (gives ks)
  subgoal-fits : (parent last : ℕ) (left : Word) (m : ℕ) → parent < v.nodes → last < v.nodes → 1 ≤ length left
      → v.nodes + length left + 1 ≤ v.N → v.subgoals < v.F
      → Fits v (enters_subgoal parent last left m)
  answer-fits : (s parent last : ℕ) (left : Word) → 1 ≤ s → s ≤ v.subgoals → (v.subgoal s).last ≤ v.answers
      → parent < v.nodes → last < v.nodes → 1 ≤ length left → v.nodes + length left ≤ v.N → v.answers < v.A
      → Fits v (enters_answer s parent last left)
  empty-fits : (s : ℕ) → 1 ≤ s → s ≤ v.subgoals → (v.subgoal s).last ≤ v.answers → (v.subgoal s).root < v.nodes
      → v.answers < v.A → Fits v (enters_empty s)
  finish-fits : (s : ℕ) → 1 ≤ s → s ≤ v.subgoals → Fits v (finishes s)
