-- What a call comes to, before anything is written: refusals 3 to 11, 14 to 16 and 22 in their order, each record
-- judged where it is read. Call, answer, join and why search a trie: what they come to is defined once, with the way of
-- finding a child as a parameter.
use Rattle.std.specs.Prelude.{ℕ, zero, suc, ◌+◌, ◌-◌, min, Bool, true, false, ◌&&◌, List, [], ◌∷◌, eqb, leb, ltb}
use Rattle.std.specs.Prelude.{length}
use Rattle.basis.specs.Choice.{pick}
use Rattle.forms.specs.Numbering.{met}
use Rattle.plain.specs.Words.{Word, has, most}
use Rattle.plain.specs.Coding.{Coding, Reading, refused, accepted, naming}
use Rattle.plain.specs.Requests.{State, Open, Finished, Request, call_least, answer, finish, next, load, instance}
use Rattle.plain.specs.Requests.{counts, Reply, old_subgoal, old_answer, at, used, refused, lacks_next, join, why}
use Rattle.plain.specs.Requests.{detours}
use Rattle.plain.specs.Requests.{old_as, new_past, because}
use Rattle.plain.specs.Joins.{Forms, declined, formed, Side, join_of}
use Rattle.plain.specs.Detours.{Live, Goal, detours_of, all_within}
use Rattle.space.specs.Judging.{subgoal_sound, answer_sound}
use Rattle.trie.specs.Siblings as siblings
use Rattle.trie.specs.Siblings.{search_children}
use Rattle.trie.specs.Walks.{Walk, whole, stopped, damaged, Finding, root_sound, walk_by}
use Rattle.trie.specs.Paths.{Path, none, tokens, gather, longest}
use Rattle.store.specs.Views.{View, subgoal_trie, answer_trie}

-- an answer, and nothing is written; cells for out; or a record more: below a node after its last child
-- (0: it has none) a path for the tokens left
pub data Decision : Type 0 where
  says : Reply → Decision
  gives : List ℕ → Decision
  -- parent, last child, tokens left, variables
  enters_subgoal : ℕ → ℕ → Word → ℕ → Decision
  -- subgoal, parent, last child, tokens left
  enters_answer : ℕ → ℕ → ℕ → Word → Decision
  -- subgoal: the empty answer, whose leaf is the answer root; it finishes the subgoal, which has no variables
  enters_empty : ℕ → Decision
  finishes : ℕ → Decision
  -- subgoal, forms that are given to it one after another
  enters_answers : ℕ → List Word → Decision

abbrev pub refuses : ℕ → Decision
refuses r = says (refused r)

-- ---- records

abbrev pub sound_subgoal : View → ℕ → Bool
sound_subgoal v s = subgoal_sound v.nodes v.answers (v.subgoal s)

abbrev pub sound_answer : View → ℕ → Bool
sound_answer v a = answer_sound v.nodes v.subgoals v.answers a (v.answer a)

-- an answer that a subgoal record, or another answer of the subgoal, names
abbrev pub sound_answer_of : View → ℕ → ℕ → Bool
sound_answer_of v s a = sound_answer v a && eqb (v.answer a).subgoal s

-- where the test fails a damaged record was met
abbrev pub sound : Bool → Decision → Decision
sound b d = pick b d (refuses 9)

-- 7 where s is not the number of one of n records
abbrev pub known : ℕ → ℕ → Decision → Decision
known n s d = pick (ltb 0 s) (pick (leb s n) d (refuses 7)) (refuses 7)

abbrev pub state_of : ℕ → State
state_of x = pick (eqb x 0) Open Finished

-- ---- call

-- the path was found whole at a node with this link
unfoldable pub called_old : View → ℕ → ℕ → Decision
called_old v leaf s =
    sound (ltb 0 s && sound_subgoal v s && eqb (v.subgoal s).leaf leaf)
    (says (old_subgoal s (state_of (v.subgoal s).state)))

-- 10 where the nodes left are fewer than the new ones, the answer root among them; then 11
unfoldable pub called_new : View → ℕ → ℕ → Word → ℕ → Decision
called_new v parent last left m =
    pick (leb (v.nodes + length left + 1) v.N)
    (pick (ltb v.subgoals v.F) (enters_subgoal parent last left m) (refuses 11))
    (refuses 10)

unfoldable pub called_at : View → Walk → ℕ → Decision
called_at v (whole leaf) m = called_old v leaf (v.node leaf).link
called_at v (stopped parent last left) m = called_new v parent last left m
called_at v damaged m = refuses 9

unfoldable pub called_by : Finding → View → Reading → Decision
called_by find v (refused r) = refuses r
called_by find v (accepted w m) = called_at v (walk_by find (subgoal_trie v) 0 w) m

-- ---- answer

-- 8 where the subgoal is finished
abbrev pub while_open : State → Decision → Decision
while_open Open d = d
while_open Finished d = refuses 8

-- the last answer of the subgoal, if there is one, is read before a new one is entered
abbrev pub sound_last : View → ℕ → Bool
sound_last v s = let a = (v.subgoal s).last in pick (eqb a 0) true (sound_answer_of v s a && eqb (v.answer a).next 0)

-- a form that the subgoal lacks: 9 by the last answer, then 8, 10 and 11
unfoldable pub answered_new : View → ℕ → ℕ → Decision → Decision
answered_new v s more d =
    sound (sound_last v s)
    (while_open (state_of (v.subgoal s).state)
    (pick (leb (v.nodes + more) v.N) (pick (ltb v.answers v.A) d (refuses 11)) (refuses 10)))

-- the terms' path was found whole at a node with this link; with no terms that is the answer root
unfoldable pub answered_old : View → ℕ → Word → ℕ → ℕ → Decision
answered_old v s w leaf a =
    pick (eqb a 0)
    (pick (eqb (length w) 0) (answered_new v s 0 (enters_empty s)) (refuses 9))
    (sound (sound_answer v a && eqb (v.answer a).leaf leaf) (says (old_answer a)))

unfoldable pub answered_at : View → ℕ → Word → Walk → Decision
answered_at v s w (whole leaf) = answered_old v s w leaf (v.node leaf).link
answered_at v s w (stopped parent last left) = answered_new v s (length left) (enters_answer s parent last left)
answered_at v s w damaged = refuses 9

-- the search of a form among the answers to s
abbrev pub walk_to_by : Finding → View → ℕ → Word → Walk
walk_to_by find v s w = walk_by find (answer_trie v) (v.subgoal s).root w

unfoldable pub answered_by : Finding → View → ℕ → Reading → Decision
answered_by find v s (refused r) = refuses r
answered_by find v s (accepted w m) = answered_at v s w (walk_to_by find v s w)

-- ---- next

-- where next may start: from 0, or from an answer whose record names the subgoal, as it stands
unfoldable pub starting : View → ℕ → ℕ → Bool
starting v s a = pick (eqb a 0) true (pick (leb a v.answers) (eqb (v.answer a).subgoal s) false)

-- answer a is handed out, or by the state whether one may still come
unfoldable pub handed : View → ℕ → ℕ → Decision
handed v s a = pick (eqb a 0) (says (lacks_next (state_of (v.subgoal s).state)))
    (sound (sound_answer_of v s a) (says (at a)))

unfoldable pub onward : View → ℕ → ℕ → Decision
onward v s a =
    sound (sound_subgoal v s)
    (pick (eqb a 0) (handed v s (v.subgoal s).first) (sound (sound_answer v a) (handed v s (v.answer a).next)))

-- ---- load and instance

-- what follows where a path leads to the root and passes the test
unfoldable pub on_path : Path → (Word → Bool) → (Word → Decision) → Decision
on_path none test d = refuses 9
on_path (tokens w) test d = sound (test w) (d w)

-- the path of an answer is the form of m legal terms
unfoldable pub loaded : Coding → View → ℕ → (Word → Decision) → Decision
loaded c v a d =
    let g = v.subgoal (v.answer a).subgoal in
    on_path (gather longest (answer_trie v) g.root (v.answer a).leaf) (λ w. c.legal g.variables w) d

-- the path of a subgoal is the form of one legal term with m variables
unfoldable pub instanced : Coding → View → ℕ → (Word → Decision) → Decision
instanced c v s d =
    let g = v.subgoal s in
    on_path (gather longest (subgoal_trie v) 0 g.leaf) (λ w. c.legal 1 w && eqb (length (met [] w)) g.variables) d

-- the answer's record and its subgoal's are judged straight after 7
abbrev pub sound_pair : View → ℕ → Bool
sound_pair v a = sound_answer v a && sound_subgoal v (v.answer a).subgoal

-- ---- join

-- the forms of a subgoal's answers; or broken, where a damaged record was met
pub data Chain : Type 0 where
  broken : Chain
  unbroken : List Word → Chain

-- the path of an answer before those of the answers that follow it
unfoldable pub headed : (Word → Bool) → Path → Chain → Chain
headed test none later = broken
headed test (tokens w) broken = broken
headed test (tokens w) (unbroken ws) = pick (test w) (unbroken (w ∷ ws)) broken

-- from answer a on, by next until 0: each answer is judged as next does, its path as load does. Answers rise, so no
-- chain has more steps than there are answers.
unfoldable pub chain_from : Coding → View → ℕ → ℕ → ℕ → Chain
chain_from c v s zero a = pick (eqb a 0) (unbroken []) broken
chain_from c v s (suc steps) a =
    let g = v.subgoal s in
    let later = chain_from c v s steps (v.answer a).next in
    pick (eqb a 0) (unbroken [])
    (pick (sound_answer_of v s a)
    (headed (λ w. c.legal g.variables w)
    (gather longest (answer_trie v) g.root (v.answer a).leaf) later) broken)

abbrev pub chain_of : Coding → View → ℕ → Chain
chain_of c v s = chain_from c v s v.answers (v.subgoal s).first

-- what follows where both sources are read
unfoldable pub on_chains : Chain → Chain → (List Word → List Word → Decision) → Decision
on_chains broken y d = refuses 9
on_chains (unbroken us) broken d = refuses 9
on_chains (unbroken us) (unbroken vs) d = d us vs

-- a subgoal as a source
unfoldable pub side_in : View → ℕ → List Word → Side
side_in v s ws = record { state = state_of (v.subgoal s).state; m = (v.subgoal s).variables; forms = ws }

-- no damaged record was met: a form found whole ends in its answer's leaf, or it is empty and new
unfoldable pub met_sound : View → Word → Walk → Bool
met_sound v w (whole leaf) =
    let a = (v.node leaf).link in
    pick (eqb a 0) (eqb (length w) 0) (sound_answer v a && eqb (v.answer a).leaf leaf)
met_sound v w (stopped parent last left) = true
met_sound v w damaged = false

unfoldable pub all_sound_by : Finding → View → ℕ → List Word → Bool
all_sound_by find v s [] = true
all_sound_by find v s (w ∷ ws) = met_sound v w (walk_to_by find v s w) && all_sound_by find v s ws

-- the form is not among the answers
unfoldable pub lacking : View → Walk → Bool
lacking v (whole leaf) = eqb (v.node leaf).link 0
lacking v (stopped parent last left) = true
lacking v damaged = true

-- its tokens that were not found
unfoldable pub missing : Walk → ℕ
missing (whole leaf) = 0
missing (stopped parent last left) = length left
missing damaged = 0

-- the nodes that forms take, those before them given: each its tokens that were not found, less those that it shares
-- with a form before it. Nothing is written for it.
unfoldable pub nodes_needed_by : Finding → View → ℕ → List Word → List Word → ℕ
nodes_needed_by find v s before [] = 0
nodes_needed_by find v s before (w ∷ ws) =
    min (missing (walk_to_by find v s w)) (length w - most before w) + nodes_needed_by find v s (w ∷ before) ws

-- and the records: one for each form that is not among the answers and not before it
unfoldable pub answers_needed_by : Finding → View → ℕ → List Word → List Word → ℕ
answers_needed_by find v s before [] = 0
answers_needed_by find v s before (w ∷ ws) =
    pick (lacking v (walk_to_by find v s w)) (pick (has before w) 0 1) 0 + answers_needed_by find v s (w ∷ before) ws

-- where a form is new the last answer is read; 10 and 11 are for all new forms together
unfoldable pub joining_by : Finding → View → ℕ → Forms → Decision
joining_by find v s (declined r) = refuses r
joining_by find v s (formed ws) =
    let more = answers_needed_by find v s [] ws in
    sound (all_sound_by find v s ws && pick (eqb more 0) true (sound_last v s))
    (pick (leb (v.nodes + nodes_needed_by find v s [] ws) v.N)
    (pick (leb (v.answers + more) v.A) (enters_answers s ws) (refuses 11)) (refuses 10))

-- the target's own records are judged with those of the sources
abbrev pub sound_target : View → ℕ → Bool
sound_target v s = sound_subgoal v s && root_sound (answer_trie v) (v.subgoal s).root

-- ---- why

-- where first children lead: to a node that has none; or lost, where a damaged record was met
pub data Way : Type 0 where
  astray : Way
  leads : ℕ → Way

-- from node i on, each child judged as a node compared is. Children rise, so no way has more steps than there are
-- nodes.
unfoldable pub firsts_from : View → ℕ → ℕ → Way
firsts_from v zero i = astray
firsts_from v (suc steps) i =
    let child = (v.node i).child in
    let later = firsts_from v steps child in
    pick (eqb child 0) (leads i)
    (pick (siblings.sound (subgoal_trie v) child && eqb (v.node child).parent i) later astray)

-- a leaf of the subgoal trie: what is said of the subgoal that it is linked to, whose record names that leaf
unfoldable pub named_by : View → ℕ → (ℕ → Reply) → Decision
named_by v leaf say =
    let s = (v.node leaf).link in
    sound (ltb 0 s && sound_subgoal v s && eqb (v.subgoal s).leaf leaf) (says (say s))

-- n leading tokens were found, and first children lead on from there
unfoldable pub new_at : View → ℕ → Way → Decision
new_at v n astray = refuses 9
new_at v n (leads leaf) = named_by v leaf (λ s. because (new_past n s))

-- where no token was found nothing further is read
unfoldable pub reasoned_at : View → List ℕ → Word → Walk → Decision
reasoned_at v vs w (whole leaf) = named_by v leaf (λ s. because (old_as s vs))
reasoned_at v vs w (stopped parent last left) =
    let n = length w - length left in
    pick (eqb n 0) (says (because (new_past 0 0))) (new_at v n (firsts_from v v.nodes parent))
reasoned_at v vs w damaged = refuses 9

-- why for the cells that were read so
unfoldable pub reasoned_by : Finding → View → List ℕ → Reading → Decision
reasoned_by find v cs (refused r) = refuses r
reasoned_by find v cs (accepted w m) = reasoned_at v (met [] cs) w (walk_by find (subgoal_trie v) 0 w)

-- ---- detours

-- the answers of a subgoal with their numbers; or severed, where a damaged record was met
pub data Lives : Type 0 where
  severed : Lives
  lives : List Live → Lives

-- answer a, by its path, before those that follow it
unfoldable pub lives_behind : (Word → Bool) → ℕ → Path → Lives → Lives
lives_behind test a none later = severed
lives_behind test a (tokens w) severed = severed
lives_behind test a (tokens w) (lives ls) = pick (test w) (lives (record { number = a; form = w } ∷ ls)) severed

-- from answer a on, judged as a join's sources are
unfoldable pub lives_from : Coding → View → ℕ → ℕ → ℕ → Lives
lives_from c v s zero a = pick (eqb a 0) (lives []) severed
lives_from c v s (suc steps) a =
    let g = v.subgoal s in
    let later = lives_from c v s steps (v.answer a).next in
    pick (eqb a 0) (lives [])
    (pick (sound_answer_of v s a)
    (lives_behind (λ w. c.legal g.variables w) a
    (gather longest (answer_trie v) g.root (v.answer a).leaf) later) severed)

abbrev pub lives_of : Coding → View → ℕ → Lives
lives_of c v s = lives_from c v s v.answers (v.subgoal s).first

-- subgoals as goals; or unsound, where a damaged record was met
pub data Goals : Type 0 where
  unsound : Goals
  goals : List Goal → Goals

unfoldable pub goal_before : View → ℕ → Lives → Goals → Goals
goal_before v s severed later = unsound
goal_before v s (lives ls) unsound = unsound
goal_before v s (lives ls) (goals gs) =
    goals (record { state = state_of (v.subgoal s).state; m = (v.subgoal s).variables; answers = ls } ∷ gs)

unfoldable pub goals_in : Coding → View → List ℕ → Goals
goals_in c v [] = goals []
goals_in c v (s ∷ ss) =
    let later = goals_in c v ss in pick (sound_subgoal v s) (goal_before v s (lives_of c v s) later) unsound

-- the rule, where all goals are read
unfoldable pub detours_in : Coding → Goals → ℕ → Decision
detours_in c unsound budget = refuses 9
detours_in c (goals gs) budget = says (detours_of c gs budget)

-- ---- the ten calls

unfoldable pub decide_by : Finding → Coding → View → Request → Decision
decide_by find c v (call_least cs x) = called_by find v (naming x (c.called cs))
decide_by find c v (answer s cs) =
    known v.subgoals s
    (sound (sound_subgoal v s && root_sound (answer_trie v) (v.subgoal s).root)
    (answered_by find v s (c.answered (v.subgoal s).variables cs)))
decide_by find c v (finish s) = known v.subgoals s (sound (sound_subgoal v s) (finishes s))
decide_by find c v (next s a) = known v.subgoals s (pick (starting v s a) (onward v s a) (refuses 7))
decide_by find c v (load a out) = known v.answers a (sound (sound_pair v a) (loaded c v a (λ w. gives (c.expand w))))
decide_by find c v (instance a out) =
    known v.answers a
    (sound (sound_pair v a) (loaded c v a (λ w. instanced c v (v.answer a).subgoal (λ u. gives (c.instance_of u w)))))
decide_by find c v counts = says (used (record { nodes = v.nodes; subgoals = v.subgoals; answers = v.answers }))
decide_by find c v (join f g ps s cs) =
    known v.subgoals f (known v.subgoals g (known v.subgoals s
    (sound (sound_subgoal v f && sound_subgoal v g && sound_target v s)
    (on_chains (chain_of c v f) (chain_of c v g) (λ us vs.
    joining_by find v s
    (join_of c (side_in v f us) (side_in v g vs) ps (state_of (v.subgoal s).state) (v.subgoal s).variables cs))))))
decide_by find c v (why cs) = reasoned_by find v cs (c.called cs)
decide_by find c v (detours ss budget) =
    pick (all_within v.subgoals ss) (detours_in c (goals_in c v ss) budget) (refuses 7)

-- ---- by the sibling chains

abbrev pub called : View → Reading → Decision
called = called_by search_children

abbrev pub walk_to : View → ℕ → Word → Walk
walk_to = walk_to_by search_children

abbrev pub answered : View → ℕ → Reading → Decision
answered = answered_by search_children

abbrev pub all_sound : View → ℕ → List Word → Bool
all_sound = all_sound_by search_children

abbrev pub nodes_needed : View → ℕ → List Word → List Word → ℕ
nodes_needed = nodes_needed_by search_children

abbrev pub answers_needed : View → ℕ → List Word → List Word → ℕ
answers_needed = answers_needed_by search_children

abbrev pub joining : View → ℕ → Forms → Decision
joining = joining_by search_children

abbrev pub reasoned : View → List ℕ → Reading → Decision
reasoned = reasoned_by search_children

abbrev pub decide : Coding → View → Request → Decision
decide = decide_by search_children
