-- A check of a whole space: whether its records are those of some table, and which. What a call judges is what it
-- reads; this reads all.
use Rattle.std.specs.Prelude.{ℕ, zero, suc, ◌+◌, ◌-◌, Bool, true, false, not, ◌&&◌, ◌||◌, List, [], ◌∷◌, ◌++◌, ◌≡◌, eqb}
use Rattle.std.specs.Prelude.{leb, ltb, length, get_or, Err, Ok}
use Rattle.basis.specs.Choice.{pick}
use Rattle.forms.specs.Numbering.{met}
use Rattle.plain.specs.Words.{Word}
use Rattle.plain.specs.Coding.{Coding, accepted, predicate, coding_of}
use Rattle.plain.specs.Requests.{Request, Result, trace, left}
use Rattle.plain.specs.Table.{Table, Subgoal, Answer, fresh, step, table_trace}
use Rattle.space.specs.Layout.{Sizes, sizes_of}
use Rattle.space.specs.Heading.{header_of, space_header, Header}
use Rattle.space.specs.Fresh.{fresh_answer, fresh_space, fresh_answer_in, fresh_space_in}
use Rattle.space.specs.declared.Node.{Node}
use Rattle.trie.specs.Siblings.{Trie, sound, search_children}
use Rattle.trie.specs.declared.Search.{Search}
use Rattle.trie.specs.declared.Search.TheVariants.{Found, Last, Damaged}
use Rattle.trie.specs.Paths.{Path, none, tokens, gather, longest}
use Rattle.store.specs.Views.{View, subgoal_trie, answer_trie, view_of}
use Rattle.store.specs.Decisions.{state_of}
use Rattle.store.specs.Calls.{space_step, counted_cells}

-- ---- numbers below n

unfoldable pub every_below : (ℕ → Bool) → ℕ → Bool
every_below test zero = true
every_below test (suc n) = every_below test n && test n

-- f 0 to f (n - 1)
unfoldable pub up_to : {R : Type 0} → (ℕ → R) → ℕ → List R
up_to f zero = []
up_to f (suc n) = up_to f n ++ (f n ∷ [])

-- ---- the table that the records say

abbrev pub word_of : Path → Word
word_of none = []
word_of (tokens w) = w

module _ (v : View) where
  -- the path from the root of a trie to the leaf of a record
  abbrev pub subgoal_path : ℕ → Path
  subgoal_path s = gather longest (subgoal_trie v) 0 (v.subgoal s).leaf

  abbrev pub answer_path : ℕ → Path
  answer_path a = gather longest (answer_trie v) (v.subgoal (v.answer a).subgoal).root (v.answer a).leaf

  abbrev pub subgoal_read : ℕ → Subgoal
  subgoal_read s = record {
    form = word_of (subgoal_path s);
    m = (v.subgoal s).variables;
    state = state_of
        (v.subgoal s).state;
  }

  abbrev pub answer_read : ℕ → Answer
  answer_read a = record { subgoal = (v.answer a).subgoal; form = word_of (answer_path a) }

  abbrev pub table_read : Table
  table_read = record {
    N = v.N;
    F = v.F;
    A = v.A;
    subgoals = up_to (λ i. subgoal_read (suc i)) v.subgoals;
    answers = up_to (λ i. answer_read (suc i)) v.answers;
  }

-- ---- the test

-- a path to the right root that passes the test
abbrev pub path_passes : Path → (Word → Bool) → Bool
path_passes none test = false
path_passes (tokens w) test = test w

-- a search that ends at i
abbrev pub ends_at : ℕ → Search → Bool
ends_at i (Found j) = eqb j i
ends_at i (Last j) = false
ends_at i Damaged = false

-- where first children lead from node i, at most so many
unfoldable pub first_leaf : (ℕ → Node) → ℕ → ℕ → ℕ
first_leaf nodes zero i = i
first_leaf nodes (suc steps) i =
    let later = first_leaf nodes steps (nodes i).child in pick (eqb (nodes i).child 0) i later

module _ (c : Coding) (v : View) where
  abbrev parent : ℕ → ℕ
  parent i = (v.node i).parent

  -- the subgoal of an answer
  abbrev owner : ℕ → ℕ
  owner a = (v.answer a).subgoal

  -- the nodes of all tries; which records their links lead to is asked of each
  abbrev pub all_nodes : Trie
  all_nodes = record { at = v.node; nodes = v.nodes; links = v.subgoals + v.answers }

  -- root i is that of the subgoals, or follows the leaf of a subgoal that names it
  unfoldable pub root_whole : ℕ → Bool
  root_whole i =
      let s = (v.node (i - 1)).link in
      eqb (v.node i).token 0 && eqb (v.node i).sibling 0
      && (eqb i 0 || (ltb 0 s && leb s v.subgoals && eqb (v.subgoal s).root i))

  -- its next sibling has the same parent; the search among its parent's children for its token finds it; and it is a
  -- leaf, or has children
  unfoldable pub child_whole : ℕ → Bool
  child_whole i =
      pick (eqb (v.node i).sibling 0) true (eqb (parent (v.node i).sibling) (parent i))
      && ends_at i (search_children all_nodes (parent i) (v.node i).token)
      && not (eqb (v.node i).link 0 && eqb (v.node i).child 0)

  -- a link leads to a record whose leaf is the node
  unfoldable pub link_whole : ℕ → Bool
  link_whole i =
      let k = (v.node i).link in
      eqb k 0 || (leb k v.subgoals && eqb (v.subgoal k).leaf i)
      || (leb k v.answers && eqb (v.answer k).leaf i)

  -- judged as a call judges it; its first child is its own
  unfoldable pub node_whole : ℕ → Bool
  node_whole i =
      sound all_nodes i
      && pick (eqb (v.node i).child 0) true (eqb (parent (v.node i).child) i)
      && link_whole i
      && pick (eqb (parent i) i) (root_whole i) (child_whole i)

  -- both 0; or the first is an answer to s, and the last one with none behind it
  unfoldable pub ends_whole : ℕ → Bool
  ends_whole s =
      let g = v.subgoal s in
      pick (eqb g.last 0) (eqb g.first 0)
      (ltb 0 g.first && leb g.first v.answers && eqb (owner g.first) s
      && leb g.last v.answers && eqb (owner g.last) s && eqb (v.answer g.last).next 0)

  -- from each node above i, at most so many, the root apart, first children lead to a leaf whose number is at most s
  unfoldable pub led_up : ℕ → ℕ → ℕ → Bool
  led_up zero s i = true
  led_up (suc steps) s i =
      let p = parent i in
      let above = led_up steps s p in
      pick (eqb (parent p) p) true (leb (v.node (first_leaf v.node v.nodes p)).link s && above)

  -- its leaf is linked to it and its answer root follows the leaf; its path is one legal term to call with m variables;
  -- first children lead past it to no later subgoal
  unfoldable pub subgoal_whole : ℕ → Bool
  subgoal_whole s =
      let g = v.subgoal s in
      ltb g.root v.nodes
      && eqb g.root (suc g.leaf)
      && eqb (parent g.root) g.root
      && eqb (v.node g.leaf).link s
      && leb g.state 1
      && path_passes (subgoal_path v s) (λ w. c.legal 1 w && predicate w && eqb (length (met [] w)) g.variables)
      && ends_whole s
      && led_up longest s g.leaf

  -- its leaf is linked to it; its path is m legal terms; the next one is above it and names the same subgoal
  unfoldable pub answer_whole : ℕ → Bool
  answer_whole a =
      let y = v.answer a in
      ltb 0 y.subgoal
      && leb y.subgoal v.subgoals
      && ltb y.leaf v.nodes
      && eqb (v.node y.leaf).link a
      && path_passes (answer_path v a) (λ w. c.legal (v.subgoal y.subgoal).variables w)
      && pick (eqb y.next 0) true
      (ltb a y.next && leb y.next v.answers && eqb (owner y.next) y.subgoal)

  -- the answers from a on, each by the one before, at most so many
  unfoldable pub chain : ℕ → ℕ → List ℕ
  chain zero a = []
  chain (suc k) a = let rest = chain k (v.answer a).next in pick (eqb a 0) [] (a ∷ rest)

  -- those of the first n subgoals
  unfoldable pub chains : ℕ → List ℕ
  chains zero = []
  chains (suc n) = chains n ++ chain v.answers (v.subgoal (suc n)).first

  -- every record is whole, and the chains of the subgoals hold as many answers as there are
  unfoldable pub whole_view : Bool
  whole_view =
      every_below node_whole v.nodes
      && every_below (λ i. subgoal_whole (suc i)) v.subgoals
      && every_below (λ i. answer_whole (suc i)) v.answers
      && eqb (length (chains v.subgoals)) v.answers

-- ---- on cells

unfoldable pub whole_under : Sizes → Coding → List ℕ → Header → Bool
whole_under z c cs (Ok h) = whole_view c (view_of z cs h)
whole_under z c cs (Err r) = false

-- of a space of one edition
unfoldable pub whole_cells : Sizes → Coding → List ℕ → Bool
whole_cells z c cs = whole_under z c cs (header_of z cs)

-- of a space of any edition: the one that its header names
unfoldable pub whole_any : List ℕ → Header → Bool
whole_any cs (Ok h) = whole_under (sizes_of h.edition) (coding_of h.edition) cs (Ok h)
whole_any cs (Err r) = false

unfoldable pub whole_space : List ℕ → Bool
whole_space cs = whole_any cs (space_header cs)

-- the table that the cells say
unfoldable pub table_under : Sizes → List ℕ → Header → Table
table_under z cs (Ok h) = table_read (view_of z cs h)
table_under z cs (Err r) = fresh 0 0 0

unfoldable pub table_cells : Sizes → List ℕ → Table
table_cells z cs = table_under z cs (header_of z cs)

unfoldable pub table_any : List ℕ → Header → Table
table_any cs (Ok h) = table_under (sizes_of h.edition) cs (Ok h)
table_any cs (Err r) = fresh 0 0 0

unfoldable pub table_of : List ℕ → Table
table_of cs = table_any cs (space_header cs)

-- the edition that the first cell names
abbrev pub edition_of : List ℕ → ℕ
edition_of cs = get_or cs 0 0

-- ---- what the test is worth

-- what it asks of a coding besides the laws: a called form begins with an atom or a functor, and what is legal can be
-- read again
pub record ReadingAgain (c : Coding) : Type 0 where
  pub called-begins : (ks : List ℕ) (w : Word) (m : ℕ) → c.called ks ≡ accepted w m → predicate w ≡ true
  pub legal-called : (w : Word) → c.legal 1 w ≡ true → predicate w ≡ true
      → c.called (c.expand w) ≡ accepted w (length (met [] w))
  pub legal-answered : (m : ℕ) (w : Word) → c.legal m w ≡ true → (n : ℕ) × (c.answered m (c.expand w) ≡ accepted w n)

-- of one edition, for a library
module _ (z : Sizes) (c : Coding) (library : List ℕ → Request → Result (List ℕ)) where
  -- (a) every space that calls leave of a fresh one passes, and says the table that the same calls leave of a fresh
  -- table
  abbrev pub WholePasses : Type 0
  WholePasses = (n f a : ℕ) (s : List ℕ) (qs : List Request) → fresh_answer z n f a s ≡ Ok tt
      → (let cs = left library (fresh_space z n f a s) qs in (whole_cells z c cs ≡ true)
      × (table_cells z cs ≡ left (step c) (fresh n f a) qs))

  -- (b) every space that passes, whoever wrote it, answers every list of calls as the table does that it says: after
  -- each call the same answer with its numbers, the same refusal, the same counts and the same cells of out. So it is
  -- never refused by 1 or 9.
  abbrev pub WholeAnswers : Type 0
  WholeAnswers = (cs : List ℕ) (qs : List Request) → whole_cells z c cs ≡ true
      → trace library counted_cells cs qs ≡ table_trace c (table_cells z cs) qs

  -- and what the calls leave passes again, and says the table that they leave of that table
  abbrev pub WholeLasts : Type 0
  WholeLasts = (cs : List ℕ) (qs : List Request) → whole_cells z c cs ≡ true
      → (let ds = left library cs qs in (whole_cells z c ds ≡ true)
      × (table_cells z ds ≡ left (step c) (table_cells z cs) qs))

  -- all of it
  pub record Checking : Type 0 where
    pub passing : WholePasses
    pub answering : WholeAnswers
    pub lasting : WholeLasts

-- of the calls of the code, in every edition: (a) that fresh takes, (b) that the space names; the edition stays
abbrev pub SpacePasses : Type 0
SpacePasses = (e n f a : ℕ) (s : List ℕ) (qs : List Request) → fresh_answer_in e n f a s ≡ Ok tt
    → (let cs = left space_step (fresh_space_in e n f a s) qs in
    (whole_space cs ≡ true) × (table_of cs ≡ left (step (coding_of e)) (fresh n f a) qs) × (edition_of cs ≡ e))

abbrev pub SpaceAnswers : Type 0
SpaceAnswers = (cs : List ℕ) (qs : List Request) → whole_space cs ≡ true
    → trace space_step counted_cells cs qs ≡ table_trace (coding_of (edition_of cs)) (table_of cs) qs

abbrev pub SpaceLasts : Type 0
SpaceLasts = (cs : List ℕ) (qs : List Request) → whole_space cs ≡ true
    → (let ds = left space_step cs qs in
    (whole_space ds ≡ true) × (table_of ds ≡ left (step (coding_of (edition_of cs))) (table_of cs) qs)
    × (edition_of ds ≡ edition_of cs))

-- all of it
pub record SpaceChecking : Type 0 where
  pub passing : SpacePasses
  pub answering : SpaceAnswers
  pub lasting : SpaceLasts
