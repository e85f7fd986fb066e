-- The calls with all that is lent to them, what they answer, and what is compared after each call of a list.
use Rattle.std.specs.Prelude.{Bool, List, [], ◌∷◌, ℕ}

pub data State : Type 0 where
  Open : State
  Finished : State

-- A call with its numbers and the cells lent to it. Load and instance are lent out; the others get none. A call may
-- name one variable of its term least, by its cell; 0 names none. Two cells are a pair of a join (a variable of the
-- first, one of the second), and two a copy (a side, 0 or 1, and a variable).
pub data Request : Type 0 where
  call_least : (term : List ℕ) (least : ℕ) → Request
  answer : (subgoal : ℕ) (terms : List ℕ) → Request
  finish : (subgoal : ℕ) → Request
  next : (subgoal a : ℕ) → Request
  load : (a : ℕ) (out : List ℕ) → Request
  instance : (a : ℕ) (out : List ℕ) → Request
  counts : Request
  join : (first second : ℕ) (pairs : List ℕ) (target : ℕ) (copies : List ℕ) → Request
  why : (term : List ℕ) → Request
  detours : (goals : List ℕ) (budget : ℕ) → Request

-- a call that names no variable least
abbrev pub call : List ℕ → Request
call cs = call_least cs 0

-- nodes, subgoals and answers used
pub record Counts : Type 0 where
  pub nodes : ℕ
  pub subgoals : ℕ
  pub answers : ℕ

-- Why a term is old: the number of its subgoal, and the offered variables in order of rank, so that variable i for the
-- i-th of them makes the stored term of the offered one. Why it is new: how many leading tokens of its stored form
-- some subgoal shares, and the lowest-numbered subgoal that shares so many; 0 and 0 where none shares any.
pub data Reason : Type 0 where
  old_as : (subgoal : ℕ) (variables : List ℕ) → Reason
  new_past : (shared subgoal : ℕ) → Reason

-- What a search for detours found: nothing, or the first least total that it met, with the numbers of its answers in
-- the order of the goals. And how many choices were tried, and whether the search ended: no choice was left to try.
pub data Best : Type 0 where
  none_found : Best
  found : (total : ℕ) (answers : List ℕ) → Best

pub record Detour : Type 0 where
  pub best : Best
  pub tried : ℕ
  pub ended : Bool

-- What a call answers: numbers of subgoals or answers, the cells written, the counts, how many answers of a join are
-- new, the reason of why, what detours found, a refusal's number; for refusal 12 (short) the cells that out would need.
pub data Reply : Type 0 where
  new : ℕ → Reply
  old_subgoal : ℕ → State → Reply
  old_answer : ℕ → Reply
  done : Reply
  at : ℕ → Reply
  none_yet : Reply
  no_more : Reply
  cells : ℕ → Reply
  used : Counts → Reply
  joined : ℕ → Reply
  because : Reason → Reply
  detoured : Detour → Reply
  refused : ℕ → Reply
  short : ℕ → Reply

-- what next answers where no answer is left: an open subgoal may get more, a finished one not
abbrev pub lacks_next : State → Reply
lacks_next Open = none_yet
lacks_next Finished = no_more

-- what a call leaves: its answer, out, and the table
pub record Result (S : Type 0) : Type 0 where
  pub reply : Reply
  pub out : List ℕ
  pub state : S

-- out as lent
unfoldable pub lent : Request → List ℕ
lent (call_least cs x) = []
lent (answer s cs) = []
lent (finish s) = []
lent (next s a) = []
lent (load a out) = out
lent (instance a out) = out
lent counts = []
lent (join f g ps s cs) = []
lent (why cs) = []
lent (detours gs b) = []

-- what is compared after a call: its answer, the three counts, every cell of out
pub record Seen : Type 0 where
  pub reply : Reply
  pub counted : Counts
  pub out : List ℕ

-- what is seen of a list of calls, each on the table as the one before left it
unfoldable pub trace : {S : Type 0} → (S → Request → Result S) → (S → Counts) → S → List Request → List Seen
trace step counted s [] = []
trace step counted s (q ∷ qs) =
    let r = step s q in
    record { reply = r.reply; counted = counted r.state; out = r.out } ∷ trace step counted r.state qs

-- the table that a list of calls leaves
unfoldable pub left : {S : Type 0} → (S → Request → Result S) → S → List Request → S
left step s [] = s
left step s (q ∷ qs) = left step (step s q).state qs
