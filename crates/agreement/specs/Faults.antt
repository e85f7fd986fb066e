-- What is broken in a space that does not pass: the first thing that the check meets, in its own order: the header;
-- then the nodes, the subgoals and the answers by number, each as Whole.antt tests it; then the chains, where the
-- first answer is named that they leave out.
use Rattle.std.specs.Prelude.{ℕ, zero, suc, ◌<◌, ◌≤◌, Bool, true, false, ◌||◌, List, [], ◌∷◌, ◌≡◌, eqb, ltb, length}
use Rattle.std.specs.Prelude.{get_or, Err, Ok}
use Rattle.basis.specs.Choice.{pick}
use Rattle.plain.specs.Coding.{Coding, coding_of}
use Rattle.space.specs.Layout.{sizes_of, nodes_cell, subgoals_cell, answers_cell}
use Rattle.space.specs.Heading.{space_header, Header}
use Rattle.store.specs.Views.{View, view_of}
use Rattle.agreement.specs.Whole.{node_whole, subgoal_whole, answer_whole, chain, chains, whole_space}

-- nothing; or the header; or the record of this number
pub data Fault : Type 0 where
  nothing : Fault
  heading : Fault
  node : ℕ → Fault
  subgoal : ℕ → Fault
  answer : ℕ → Fault

-- the first number below n that fails the test; n where none does
unfoldable pub first_failing : (ℕ → Bool) → ℕ → ℕ
first_failing test zero = zero
first_failing test (suc n) = let i = first_failing test n in pick (ltb i n) i (pick (test n) (suc n) n)

unfoldable pub among : ℕ → List ℕ → Bool
among x [] = false
among x (y ∷ l) = eqb y x || among x l

module _ (c : Coding) (v : View) where
  -- answer a is on the chain of its subgoal
  unfoldable pub chained : ℕ → Bool
  chained a = among a (chain c v v.answers (v.subgoal (v.answer a).subgoal).first)

  -- the first that is broken; subgoals and answers are numbered from 1
  abbrev pub node_broken : ℕ
  node_broken = first_failing (node_whole c v) v.nodes

  abbrev pub subgoal_broken : ℕ
  subgoal_broken = first_failing (λ i. subgoal_whole c v (suc i)) v.subgoals

  abbrev pub answer_broken : ℕ
  answer_broken = first_failing (λ i. answer_whole c v (suc i)) v.answers

  abbrev pub answer_lost : ℕ
  answer_lost = first_failing (λ i. chained (suc i)) v.answers

  unfoldable pub fault_in : Fault
  fault_in =
      pick (ltb node_broken v.nodes) (node node_broken)
      (pick (ltb subgoal_broken v.subgoals) (subgoal (suc subgoal_broken))
      (pick (ltb answer_broken v.answers) (answer (suc answer_broken))
      (pick (eqb (length (chains c v v.subgoals)) v.answers) nothing (answer (suc answer_lost)))))

-- ---- on cells

unfoldable pub fault_under : List ℕ → Header → Fault
fault_under cs (Ok h) = fault_in (coding_of h.edition) (view_of (sizes_of h.edition) cs h)
fault_under cs (Err r) = heading

unfoldable pub fault_of : List ℕ → Fault
fault_of cs = fault_under cs (space_header cs)

-- nothing is broken exactly where the space passes
abbrev pub FaultTold : Type 0
FaultTold = (cs : List ℕ) →
    (fault_of cs ≡ nothing → whole_space cs ≡ true) × (whole_space cs ≡ true → fault_of cs ≡ nothing)

-- a record that is named is one of so many nodes, subgoals and answers
abbrev pub Used : (nodes subgoals answers : ℕ) → Fault → Type 0
Used n s a nothing = Unit {0}
Used n s a heading = Unit {0}
Used n s a (node i) = i < n
Used n s a (subgoal i) = (1 ≤ i) × (i ≤ s)
Used n s a (answer i) = (1 ≤ i) × (i ≤ a)

-- that is, of those that the header counts: so an answer that the chains leave out is always found
abbrev pub FaultNamed : Type 0
FaultNamed = (cs : List ℕ) →
    Used (get_or cs nodes_cell 0) (get_or cs subgoals_cell 0) (get_or cs answers_cell 0) (fault_of cs)
