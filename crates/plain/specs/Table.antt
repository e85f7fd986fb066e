-- The plain table: subgoals and answers as lists of forms, and what each call answers and changes.
use Rattle.std.specs.Prelude.{Bool, true, false, List, [], ◌∷◌, ◌++◌, map, ℕ, zero, suc, ◌+◌, ◌-◌, pred, eqb, leb, ltb}
use Rattle.std.specs.Prelude.{length, get_or, drop, set}
use Rattle.basis.specs.Choice.{pick}
use Rattle.forms.specs.Numbering.{met}
use Rattle.forms.specs.Compact.{same}
use Rattle.plain.specs.Words.{Word, trie_nodes, common, most}
use Rattle.plain.specs.Coding.{Coding, Reading, refused, accepted, coding_of, naming}
use Rattle.plain.specs.Joins.{Forms, declined, formed, Side, join_of}
use Rattle.plain.specs.Detours.{Live, Goal, detours_of, all_within}
use Rattle.plain.specs.Requests.{State, Open, Finished, Request, call_least, answer, finish, next, load, instance}
use Rattle.plain.specs.Requests.{counts, join, why, detours, Counts, Reason, old_as, new_past, Reply, new}
use Rattle.plain.specs.Requests.{old_subgoal, old_answer, done, at, cells, used, joined, because, refused, short}
use Rattle.plain.specs.Requests.{lacks_next, Result, Seen, trace}

-- ---- state

-- m is the number of the form's distinct variables
pub record Subgoal : Type 0 where
  pub form : Word
  pub m : ℕ
  pub state : State

-- the number of its subgoal, and its form
pub record Answer : Type 0 where
  pub subgoal : ℕ
  pub form : Word

-- room for N nodes, F subgoals and A answers; numbers are places in the two lists, from 1
pub record Table : Type 0 where
  pub N : ℕ
  pub F : ℕ
  pub A : ℕ
  pub subgoals : List Subgoal
  pub answers : List Answer

abbrev pub fresh : ℕ → ℕ → ℕ → Table
fresh n f a = record { N = n; F = f; A = a; subgoals = []; answers = [] }

-- what a number has that is 0 or beyond the list
unfoldable pub no_subgoal : Subgoal
no_subgoal = record { form = []; m = 0; state = Open }

unfoldable pub no_answer : Answer
no_answer = record { subgoal = 0; form = [] }

unfoldable pub subgoal_at : Table → ℕ → Subgoal
subgoal_at t s = get_or (no_subgoal ∷ t.subgoals) s no_subgoal

unfoldable pub answer_at : Table → ℕ → Answer
answer_at t a = get_or (no_answer ∷ t.answers) a no_answer

-- ---- nodes used

-- the forms of the subgoals
abbrev pub called_forms : List Subgoal → List Word
called_forms gs = map (λ g. g.form) gs

-- the forms of the answers to subgoal s
unfoldable pub answers_to : List Answer → ℕ → List Word
answers_to [] s = []
answers_to (a ∷ l) s = let r = answers_to l s in pick (eqb a.subgoal s) (a.form ∷ r) r

-- the nodes of the answer tries of n subgoals from s on
unfoldable pub answer_nodes : List Answer → ℕ → ℕ → ℕ
answer_nodes l s zero = 0
answer_nodes l s (suc n) = trie_nodes (answers_to l s) + answer_nodes l (suc s) n

-- the root and the prefixes of the subgoal forms, and those of the answer forms of each subgoal
unfoldable pub nodes : Table → ℕ
nodes t = trie_nodes (called_forms t.subgoals) + answer_nodes t.answers 1 (length t.subgoals)

unfoldable pub counted : Table → Counts
counted t = record { nodes = nodes t; subgoals = length t.subgoals; answers = length t.answers }

-- ---- finding

-- the number of the first record for which the test holds, counted from n, or 0
unfoldable pub number : {R : Type 0} → (R → Bool) → ℕ → List R → ℕ
number test n [] = 0
number test n (r ∷ rs) = let later = number test (suc n) rs in pick (test r) n later

-- the number of the subgoal of this form, or 0
unfoldable pub subgoal_of : Table → Word → ℕ
subgoal_of t w = number (λ g. same g.form w) 1 t.subgoals

-- the number of the answer of this form under subgoal s, or 0
unfoldable pub answer_of : Table → ℕ → Word → ℕ
answer_of t s w = number (λ a. pick (eqb a.subgoal s) (same a.form w) false) 1 t.answers

-- the lowest number above i and below n at which f is x, or 0
unfoldable pub after : (ℕ → ℕ) → ℕ → ℕ → ℕ → ℕ
after f zero i x = 0
after f (suc n) i x =
    let lower = after f n i x in
    pick (eqb lower 0) (pick (ltb i n) (pick (eqb (f n) x) n 0) 0) lower

-- the subgoal of answer a
abbrev pub subgoal_of_answer : Table → ℕ → ℕ
subgoal_of_answer t a = (answer_at t a).subgoal

-- the lowest answer number above a under subgoal s, or 0
unfoldable pub following : Table → ℕ → ℕ → ℕ
following t s a = after (subgoal_of_answer t) (suc (length t.answers)) a s

-- ---- changing

-- a new subgoal is open
abbrev pub with_subgoal : Table → Word → ℕ → Table
with_subgoal t w m = record {
  N = t.N;
  F = t.F;
  A = t.A;
  subgoals = t.subgoals ++ (record { form = w; m = m; state = Open } ∷ []);
  answers = t.answers;
}

abbrev pub with_answer : Table → ℕ → Word → Table
with_answer t s w = record {
  N = t.N;
  F = t.F;
  A = t.A;
  subgoals = t.subgoals;
  answers = t.answers ++ (record { subgoal = s; form = w } ∷ []);
}

abbrev pub with_finished : Table → ℕ → Table
with_finished t s = record {
  N = t.N;
  F = t.F;
  A = t.A;
  subgoals = set t.subgoals (pred s)
      (record { form = (subgoal_at t s).form; m = (subgoal_at t s).m; state = Finished });
  answers = t.answers;
}

-- a ground subgoal, one without variables, is finished as its one answer enters
unfoldable pub settled : Table → ℕ → Table
settled t s = pick (eqb (subgoal_at t s).m 0) (with_finished t s) t

abbrev pub with_entry : Table → ℕ → Word → Table
with_entry t s w = settled (with_answer t s w) s

-- ---- answering

-- the table stays, and out as lent
abbrev pub stays : Table → List ℕ → Reply → Result Table
stays t out r = record { reply = r; out = out; state = t }

-- no out is lent
abbrev pub becomes : Table → Reply → Result Table
becomes t r = record { reply = r; out = []; state = t }

-- 7 where s is not the number of one of n records
abbrev pub known : Table → List ℕ → ℕ → ℕ → Result Table → Result Table
known t out n s r = pick (ltb 0 s) (pick (leb s n) r (stays t out (refused 7))) (stays t out (refused 7))

-- whether the nodes used are at most n
unfoldable pub fits : Table → ℕ → Bool
fits t n = leb (nodes t) n

-- a record more: 10 where the nodes used would be above N, then 11 where no record is left
unfoldable pub appended : Table → Table → Bool → ℕ → Result Table
appended t more room n =
    pick (fits more t.N) (pick room (becomes more (new n)) (becomes t (refused 11))) (becomes t (refused 10))

-- an equal form is old, else it is appended, open
unfoldable pub called : Table → Reading → Result Table
called t (refused r) = becomes t (refused r)
called t (accepted w m) =
    let n = subgoal_of t w in
    let count = length t.subgoals in
    pick (eqb n 0) (appended t (with_subgoal t w m) (ltb count t.F) (suc count))
    (becomes t (old_subgoal n (subgoal_at t n).state))

-- 8 where the subgoal is finished
abbrev pub while_open : Table → State → Result Table → Result Table
while_open t Open r = r
while_open t Finished r = becomes t (refused 8)

-- an equal form under the subgoal is old, also where it is finished; else it is appended to an open one
unfoldable pub answered : Table → ℕ → Reading → Result Table
answered t s (refused r) = becomes t (refused r)
answered t s (accepted w m) =
    let n = answer_of t s w in
    let count = length t.answers in
    pick (eqb n 0) (while_open t (subgoal_at t s).state (appended t (with_entry t s w) (ltb count t.A) (suc count)))
    (becomes t (old_answer n))

-- where next may start: from 0, or from an answer of the subgoal
unfoldable pub starting : Table → ℕ → ℕ → Bool
starting t s a = pick (eqb a 0) true (pick (leb a (length t.answers)) (eqb (subgoal_of_answer t a) s) false)

-- the first answer after a, or by the state whether one may still come
unfoldable pub onward : Table → ℕ → ℕ → Reply
onward t s a = let n = following t s a in pick (eqb n 0) (lacks_next (subgoal_at t s).state) (at n)

-- the cells before what was in out, or 12 with the need where out is too short
unfoldable pub writes : Table → List ℕ → List ℕ → Result Table
writes t cs out =
    pick (leb (length cs) (length out))
    (record { reply = cells (length cs); out = cs ++ drop (length cs) out; state = t })
    (stays t out (short (length cs)))

-- ---- joining

-- a form that is given to a subgoal: it is appended where the subgoal lacks it
unfoldable pub given : Table → ℕ → Word → Table
given t s w = pick (eqb (answer_of t s w) 0) (with_entry t s w) t

-- forms given one after another
unfoldable pub entered : Table → ℕ → List Word → Table
entered t s [] = t
entered t s (w ∷ ws) = entered (given t s w) s ws

-- a subgoal as a source
unfoldable pub side_of : Table → ℕ → Side
side_of t s = record { state = (subgoal_at t s).state; m = (subgoal_at t s).m; forms = answers_to t.answers s }

-- every form enters or none: 10 where the nodes used would be above N, then 11 where the answers would be above A
unfoldable pub joining : Table → ℕ → Forms → Result Table
joining t s (declined r) = becomes t (refused r)
joining t s (formed ws) =
    let more = entered t s ws in
    pick (fits more t.N)
    (pick (leb (length more.answers) t.A) (becomes more (joined (length more.answers - length t.answers)))
    (becomes t (refused 11)))
    (becomes t (refused 10))

-- ---- why

-- the lowest-numbered subgoal that shares k leading tokens with w, or 0
unfoldable pub sharing : Table → Word → ℕ → ℕ
sharing t w k = number (λ g. leb k (common g.form w)) 1 t.subgoals

-- a form that the table lacks: the most leading tokens that it shares with a subgoal's, and the first that shares them
unfoldable pub newness : Table → Word → Reason
newness t w = let k = most (called_forms t.subgoals) w in new_past k (pick (eqb k 0) 0 (sharing t w k))

-- the reason for the cells that were read so
unfoldable pub reasoned : Table → List ℕ → Reading → Reply
reasoned t cs (refused r) = refused r
reasoned t cs (accepted w m) = let n = subgoal_of t w in because (pick (eqb n 0) (newness t w) (old_as n (met [] cs)))

-- ---- detours

-- the answers to subgoal s, in table order, each with its number, the first of the list having number n
unfoldable pub numbered_answers : ℕ → ℕ → List Answer → List Live
numbered_answers s n [] = []
numbered_answers s n (a ∷ l) =
    let r = numbered_answers s (suc n) l in pick (eqb a.subgoal s) (record { number = n; form = a.form } ∷ r) r

-- those that the search may choose: all, in every coding so far
abbrev pub live_answers : Coding → Table → ℕ → List Live
live_answers c t s = numbered_answers s 1 t.answers

-- a subgoal as a goal
unfoldable pub goal_of : Coding → Table → ℕ → Goal
goal_of c t s = record { state = (subgoal_at t s).state; m = (subgoal_at t s).m; answers = live_answers c t s }

-- 7 for any of the goals, however many they are; then 14 and 22
unfoldable pub detouring : Coding → Table → List ℕ → ℕ → Reply
detouring c t gs budget =
    pick (all_within (length t.subgoals) gs) (detours_of c (map (goal_of c t) gs) budget) (refused 7)

-- what each call leaves; 7 is checked before the cells are read, a join's 8 too
unfoldable pub step : Coding → Table → Request → Result Table
step c t (call_least cs x) = called t (naming x (c.called cs))
step c t (answer s cs) =
    known t [] (length t.subgoals) s (answered t s (c.answered (subgoal_at t s).m cs))
step c t (finish s) = known t [] (length t.subgoals) s (becomes (with_finished t s) done)
step c t (next s a) = known t [] (length t.subgoals) s (becomes t (pick (starting t s a) (onward t s a) (refused 7)))
step c t (load a out) = known t out (length t.answers) a (writes t (c.expand (answer_at t a).form) out)
step c t (instance a out) =
    known t out (length t.answers) a
    (writes t (c.instance_of (subgoal_at t (subgoal_of_answer t a)).form (answer_at t a).form) out)
step c t counts = becomes t (used (counted t))
step c t (join f g ps s cs) =
    known t [] (length t.subgoals) f
    (known t [] (length t.subgoals) g
    (known t [] (length t.subgoals) s
    (joining t s (join_of c (side_of t f) (side_of t g) ps (subgoal_at t s).state (subgoal_at t s).m cs))))
step c t (why cs) = becomes t (reasoned t cs (c.called cs))
step c t (detours gs budget) = becomes t (detouring c t gs budget)

-- what is seen of a list of calls
abbrev pub table_trace : Coding → Table → List Request → List Seen
table_trace c t qs = trace (step c) counted t qs

-- ---- the table of an edition

-- The edition is chosen when the table is made, with N, F and A, and no call changes it; so it stands beside them
-- here and is the parameter of every step, not a field that each change would copy.
abbrev pub edition_step : ℕ → Table → Request → Result Table
edition_step e = step (coding_of e)

abbrev pub edition_trace : (e n f a : ℕ) → List Request → List Seen
edition_trace e n f a qs = table_trace (coding_of e) (fresh n f a) qs
