-- The tests of agreement's Whole.antt by parts, a part to a function; and what a function may take as tested.
use Rattle.std.specs.Prelude.{Result, Ok, Err}
use Rattle.std.specs.Prelude.{ℕ, suc, ◌+◌, ◌<◌, ◌≤◌, Bool, true, ◌&&◌, ◌||◌, List, [], ◌≡◌, eqb, leb, ltb, length}
use Rattle.basis.specs.Choice.{pick}
use Rattle.forms.specs.Numbering.{met}
use Rattle.plain.specs.Words.{Word}
use Rattle.plain.specs.Coding.{Coding, predicate, coding_of}
use Rattle.space.specs.Layout.{sizes, node_in}
use Rattle.space.specs.Sound.{subgoal_under, answer_under}
use Rattle.space.specs.declared.tables.Table.{Table}
use Rattle.space.specs.declared.Node.{Node}
use Rattle.space.specs.declared.Subgoal.{Subgoal}
use Rattle.space.specs.declared.Answer.{Answer}
use Rattle.trie.specs.Siblings.{Trie, trie_in, sound}
use Rattle.store.specs.Views.{View}
use Rattle.store.specs.Clauses.{view_at}
use Rattle.agreement.specs.Whole.{every_below, first_leaf, node_whole, subgoal_whole, answer_whole, chain, chains}
use Rattle.agreement.specs.Faults.{Fault, first_failing, nothing, heading, node, subgoal, answer}
use Rattle.agreement.specs.Faults.{among, chained, answer_lost}
use Rattle.integrity.specs.declared.Broken.{Broken}
use Rattle.integrity.specs.declared.Broken.TheVariants as broken

-- ---- the answer

abbrev pub said_broken : Broken → Fault
said_broken broken.Header = heading
said_broken (broken.Node n) = node n
said_broken (broken.Subgoal s) = subgoal s
said_broken (broken.Answer a) = answer a

abbrev pub CheckAnswer : Type 0
CheckAnswer = Result Unit Broken

abbrev pub said_check : CheckAnswer → Fault
said_check (Ok y) = nothing
said_check (Err b) = said_broken b

-- ---- a form, as a path gives it

-- of a term to call with m variables
abbrev pub called_form : Coding → ℕ → Word → Bool
called_form c m w = c.legal 1 w && predicate w && eqb (length (met [] w)) m

-- of a subgoal with m variables, or of the m terms of an answer
abbrev pub form_whole : Coding → Bool → ℕ → Word → Bool
form_whole c called m w = pick called (called_form c m w) (c.legal m w)

-- ---- a node

module _ (v : View) where
  -- the form of subgoal k, or of answer k, ends at node i
  unfoldable pub subgoal_ends : ℕ → ℕ → Bool
  subgoal_ends k i = leb k v.subgoals && eqb (v.subgoal k).leaf i

  unfoldable pub answer_ends : ℕ → ℕ → Bool
  answer_ends k i = leb k v.answers && eqb (v.answer k).leaf i

  -- the link k of node i leads back to it
  unfoldable pub leads_back : ℕ → ℕ → Bool
  leads_back k i = eqb k 0 || subgoal_ends k i || answer_ends k i

  -- s is a subgoal whose answer root is node i
  unfoldable pub root_named : ℕ → ℕ → Bool
  root_named s i = ltb 0 s && leb s v.subgoals && eqb (v.subgoal s).root i

  -- ---- a subgoal

  -- the part of subgoal_whole that stands before its path
  unfoldable pub subgoal_stands : ℕ → Bool
  subgoal_stands s =
      let g = v.subgoal s in
      ltb g.root v.nodes && eqb g.root (suc g.leaf) && eqb (v.node g.root).parent g.root
      && eqb (v.node g.leaf).link s && leb g.state 1

  -- a is an answer to subgoal s
  unfoldable pub answers_to : ℕ → ℕ → Bool
  answers_to a s = ltb 0 a && leb a v.answers && eqb (v.answer a).subgoal s

  -- ---- an answer

  -- the part of answer_whole that stands before its path
  unfoldable pub answer_stands : ℕ → Bool
  answer_stands a =
      let y = v.answer a in
      ltb 0 y.subgoal && leb y.subgoal v.subgoals && ltb y.leaf v.nodes
      && eqb (v.node y.leaf).link a

  -- and the part behind it
  abbrev pub next_whole : ℕ → Bool
  next_whole a =
      let y = v.answer a in
      pick (eqb y.next 0) true
      (ltb a y.next && leb y.next v.answers && eqb (v.answer y.next).subgoal y.subgoal)

-- ---- under a head

module _ (t : Table) where
  abbrev pub node_test : ℕ → Bool
  node_test = node_whole (coding_of t.head.edition) (view_at t)

  abbrev pub subgoal_test : ℕ → Bool
  subgoal_test = subgoal_whole (coding_of t.head.edition) (view_at t)

  abbrev pub answer_test : ℕ → Bool
  answer_test = answer_whole (coding_of t.head.edition) (view_at t)

  -- the first n records of a kind are whole
  abbrev pub NodesWhole : ℕ → Type 0
  NodesWhole n = every_below node_test n ≡ true

  abbrev pub SubgoalsWhole : ℕ → Type 0
  SubgoalsWhole n = every_below (λ i. subgoal_test (suc i)) n ≡ true

  abbrev pub AnswersWhole : ℕ → Type 0
  AnswersWhole n = every_below (λ i. answer_test (suc i)) n ≡ true

  -- all records of these kinds are
  abbrev pub ChainsWhole : Type 0
  ChainsWhole = SubgoalsWhole t.head.subgoals × AnswersWhole t.head.answers

  -- and a chain starts with an answer, or with none
  abbrev pub ChainStarts : ℕ → Type 0
  ChainStarts first = ChainsWhole × (first ≤ t.head.answers)

  -- the chain from an answer on
  abbrev pub answers_from : ℕ → List ℕ
  answers_from first = chain (coding_of t.head.edition) (view_at t) t.head.answers first

  -- how many answers are on it: no more than there are
  abbrev pub ChainCounted : ℕ → ℕ → Type 0
  ChainCounted first n = (n ≡ length (answers_from first)) × (n ≤ t.head.answers)

  -- whether a is on it
  abbrev pub ChainSearched : ℕ → ℕ → Bool → Type 0
  ChainSearched first a r = r ≡ among a (answers_from first)

  -- how many are on the chains of all subgoals
  abbrev pub chained_count : ℕ
  chained_count = length (chains (coding_of t.head.edition) (view_at t) t.head.subgoals)

  abbrev pub chained_in : ℕ → Bool
  chained_in = chained (coding_of t.head.edition) (view_at t)

  abbrev pub AllChained : ℕ → Type 0
  AllChained n = every_below (λ i. chained_in (suc i)) n ≡ true

  -- what is broken where each record by itself is whole
  unfoldable pub chains_fault : Fault
  chains_fault =
      pick (eqb chained_count t.head.answers) nothing
      (answer (suc (answer_lost (coding_of t.head.edition) (view_at t))))

  -- the nodes of all tries
  abbrev pub tries_in : Trie
  tries_in = trie_in sizes t.cells.now t.head.nodes (t.head.subgoals + t.head.answers)

  -- node i, where all nodes are whole
  abbrev pub NodeAmongWhole : ℕ → Type 0
  NodeAmongWhole i = NodesWhole t.head.nodes × (i < t.head.nodes)

  -- where first children lead from it
  abbrev pub LeafReached : ℕ → ℕ → Type 0
  LeafReached i r = (r ≡ first_leaf (view_at t).node t.head.nodes i) × (r < t.head.nodes)

  -- a subgoal's number, where all nodes are whole
  abbrev pub SubgoalAmongWhole : ℕ → Type 0
  SubgoalAmongWhole s = (1 ≤ s) × (s ≤ t.head.subgoals) × NodesWhole t.head.nodes

  -- a record that was read under its number
  abbrev pub NodeOfNumber : ℕ → Node → Type 0
  NodeOfNumber i y = (i < t.head.nodes) × (y ≡ node_in sizes t.cells.now i)

  -- below another node, which is sound
  abbrev pub ChildOfNumber : ℕ → Node → Type 0
  ChildOfNumber i y =
      NodeOfNumber i y × (y.sibling < t.head.nodes) × (y.parent < t.head.nodes) × (sound tries_in y.parent ≡ true)

  abbrev pub SubgoalOfNumber : ℕ → Subgoal → Type 0
  SubgoalOfNumber s g = (g ≡ subgoal_under t.cells.now t.head s)

  abbrev pub AnswerOfNumber : ℕ → Answer → Type 0
  AnswerOfNumber a y = (y ≡ answer_under t.cells.now t.head a)

-- ---- a pass over records, by a closure that tests them

-- it answers as this test does
abbrev pub AnswersAs : (ℕ → Bool → Type 0) → (ℕ → Bool) → ℕ → Type 0
AnswersAs post test n = (i : ℕ) (b : Bool) → i < n → post i b → b ≡ test i

-- it may be called at a number where all before it pass
abbrev pub Testable : (ℕ → Type 0) → (ℕ → Bool → Type 0) → ℕ → Type 0
Testable pre post n =
    (i : ℕ) → i < n → ((test : ℕ → Bool) → AnswersAs post test n → every_below test i ≡ true) → pre i

-- the first of n numbers that fails
abbrev pub FirstFailing : (ℕ → Bool → Type 0) → ℕ → ℕ → Type 0
FirstFailing post n r = (test : ℕ → Bool) → AnswersAs post test n → r ≡ first_failing test n
