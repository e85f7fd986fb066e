-- Arrival order across subgoals: two answers to different subgoals, given one after the other and both accepted, may
-- change places. What is then answered and loaded differs in answer numbers alone; and so for every list of calls that
-- such exchanges make of another list. `ArrivalOrder` says it of any library, that is of any function from a state and
-- a call to what the call leaves: of the plain table at the end of this file, of the cells in
-- crates/agreement/specs/Order.antt.
use Rattle.std.specs.Prelude.{Bool, true, List, [], ◌∷◌, map, ◌≡◌, ℕ, ◌<◌, ◌≤◌, eqb, length}
use Rattle.basis.specs.Choice.{pick}
use Rattle.plain.specs.Coding.{Coding}
use Rattle.plain.specs.Requests.{State, Request, call_least, answer, finish, next, load, instance, counts, join}
use Rattle.plain.specs.Requests.{why, detours, Counts, Reply, new, old_subgoal, old_answer, done, at, none_yet}
use Rattle.plain.specs.Requests.{no_more, cells, used, joined, because, Best, none_found, found, detoured, refused}
use Rattle.plain.specs.Requests.{short, lacks_next, Result, Seen, trace, left}
use Rattle.plain.specs.Table.{Table, fresh, answers_to, counted, step}
use Rattle.plain.specs.Consequences.{Gives, reached}

-- ---- exchanges

-- new or old, with some number
abbrev pub Accepted : Reply → Type 0
Accepted r = (i : ℕ) × Gives i r

module _ {S : Type 0} (step : S → Request → Result S) where
  -- the answer cs to subgoal x, and straight after it the answer ds to y, another one; both are accepted: new at an
  -- open subgoal, or old
  pub record Exchangeable (s : S) (x : ℕ) (cs : List ℕ) (y : ℕ) (ds : List ℕ) : Type 0 where
    pub apart : x ≡ y → ⊥
    pub first : Accepted (step s (answer x cs)).reply
    pub second : Accepted (step (step s (answer x cs)).state (answer y ds)).reply

  -- The lists that such exchanges make of a list of calls, s being the state before its first call. Any calls may stand
  -- before, between and behind the exchanged pairs, refused or not, joins too; no answer jumps over a call that stands
  -- between it and another.
  pub data Exchanged : S → List Request → List Request → Type 0 where
    unchanged : (s : S) (qs : List Request) → Exchanged s qs qs
    exchange : (s : S) (x : ℕ) (cs : List ℕ) (y : ℕ) (ds : List ℕ) (qs : List Request) → Exchangeable s x cs y ds
        → Exchanged s (answer x cs ∷ answer y ds ∷ qs) (answer y ds ∷ answer x cs ∷ qs)
    behind : (s : S) (q : Request) (qs rs : List Request) → Exchanged (step s q).state qs rs
        → Exchanged s (q ∷ qs) (q ∷ rs)
    again : (s : S) (qs rs ps : List Request) → Exchanged s qs rs → Exchanged s rs ps → Exchanged s qs ps

-- ---- what is compared of replies

-- what was found without the answers' numbers
abbrev pub unnumbered_best : Best → Best
unnumbered_best none_found = none_found
unnumbered_best (found total ns) = found total []

-- the reply without its number
unfoldable pub unnumbered : Reply → Reply
unnumbered (new n) = new 0
unnumbered (old_subgoal n s) = old_subgoal 0 s
unnumbered (old_answer n) = old_answer 0
unnumbered done = done
unnumbered (at n) = at 0
unnumbered none_yet = none_yet
unnumbered no_more = no_more
unnumbered (cells n) = cells 0
unnumbered (used n) = used n
unnumbered (joined n) = joined n
unnumbered (because y) = because y
unnumbered (detoured d) = detoured (record { best = unnumbered_best d.best; tried = d.tried; ended = d.ended })
unnumbered (refused n) = refused n
unnumbered (short n) = short 0

-- Of an answer's reply all but its number, and of detours' all but its answers' numbers. Of call, finish, join, counts
-- and why the whole reply: a subgoal's number and state, how many answers of a join are new, every reason and every
-- refusal. Nothing of the calls that are given an answer number.
unfoldable pub compared : Request → Reply → Reply
compared (call_least cs x) r = r
compared (answer s cs) r = unnumbered r
compared (finish s) r = r
compared (next s a) r = done
compared (load a out) r = done
compared (instance a out) r = done
compared counts r = r
compared (join f g ps s cs) r = r
compared (why cs) r = r
compared (detours gs b) r = unnumbered r

-- false for an answer to another subgoal than i, true for every other call
unfoldable pub concerns : ℕ → Request → Bool
concerns i (call_least cs x) = true
concerns i (answer x cs) = eqb x i
concerns i (finish x) = true
concerns i (next x a) = true
concerns i (load a out) = true
concerns i (instance a out) = true
concerns i counts = true
concerns i (join f g ps x cs) = true
concerns i (why cs) = true
concerns i (detours gs b) = true

-- a call and what is compared of its reply
pub record Heard : Type 0 where
  pub request : Request
  pub reply : Reply

-- What subgoal i hears of a list of calls: each call but the answers to other subgoals, in order, with its reply. Two
-- lists of which every subgoal hears the same have the same calls with the same replies, and differ at most in which of
-- the answers to different subgoals come first.
unfoldable pub heard : ℕ → List Request → List Seen → List Heard
heard i [] xs = []
heard i (q ∷ qs) [] = []
heard i (q ∷ qs) (x ∷ xs) =
    let rest = heard i qs xs in
    pick (concerns i q) (record { request = q; reply = compared q x.reply } ∷ rest) rest

-- ---- what is compared of states

-- the calls that load the answers of these numbers, or give their instances, each into the same out
abbrev pub loads_of : List ℕ → List ℕ → List Request
loads_of bs out = map (λ b. load b out) bs

abbrev pub instances_of : List ℕ → List ℕ → List Request
instances_of bs out = map (λ b. instance b out) bs

module _ {S : Type 0} (step : S → Request → Result S) where
  -- next on subgoal i, from answer a on, hands out these numbers, each from the one before, and then the word for x
  abbrev pub HandsOut : S → ℕ → State → ℕ → List ℕ → Type 0
  HandsOut s i x a [] = (step s (next i a)).reply ≡ lacks_next x
  HandsOut s i x a (b ∷ bs) = ((step s (next i a)).reply ≡ at b) × HandsOut s i x b bs

module _ {S : Type 0} (step : S → Request → Result S) (count : S → Counts) where
  -- Subgoal i has the same answers in the same order: the answers that next hands out in s and those that it hands out
  -- in t, loaded one after another into any out, show the same, cell by cell; and so their instances. Next ends with
  -- the same word in both.
  pub record SameAnswers (i : ℕ) (s t : S) : Type 0 where
    pub state : State
    pub numbers : List ℕ
    pub handed : HandsOut step s i state 0 numbers
    pub other-numbers : List ℕ
    pub other-handed : HandsOut step t i state 0 other-numbers
    pub loads : (out : List ℕ)
        → trace step count s (loads_of numbers out) ≡ trace step count t (loads_of other-numbers out)
    pub instances : (out : List ℕ)
        → trace step count s (instances_of numbers out) ≡ trace step count t (instances_of other-numbers out)

  -- two states that differ in answer numbers alone, as far as calls tell
  pub record SameButNumbers (s t : S) : Type 0 where
    -- the same nodes, subgoals and answers are used
    pub same-counts : count s ≡ count t
    -- each subgoal has the same answers in the same order
    pub same-answers : (i : ℕ) → 0 < i → i ≤ (count s).subgoals → SameAnswers i s t
    -- whatever is called next, each subgoal hears the same. So each subgoal has the same number and the same state:
    -- calling its term once more tells both.
    pub same-replies : (i : ℕ) (qs : List Request)
        → heard i qs (trace step count s qs) ≡ heard i qs (trace step count t qs)

  -- Two answers that may change places, and their other order: both are accepted there too, each with the same word,
  -- new or old, and the states left differ in answer numbers alone.
  pub record OtherOrder (s : S) (x : ℕ) (cs : List ℕ) (y : ℕ) (ds : List ℕ) : Type 0 where
    pub exchangeable : Exchangeable step s y ds x cs
    pub first_word :
        unnumbered (step s (answer x cs)).reply ≡ unnumbered (step (step s (answer y ds)).state (answer x cs)).reply
    pub second_word :
        unnumbered (step (step s (answer x cs)).state (answer y ds)).reply ≡ unnumbered (step s (answer y ds)).reply
    pub states :
        SameButNumbers (left step s (answer x cs ∷ answer y ds ∷ [])) (left step s (answer y ds ∷ answer x cs ∷ []))

  -- a list of calls from s on and one that exchanges made of it: every subgoal hears the same, and the states left
  -- differ in answer numbers alone
  pub record Rearranged (s : S) (qs rs : List Request) : Type 0 where
    pub hears : (i : ℕ) → heard i qs (trace step count s qs) ≡ heard i rs (trace step count s rs)
    pub states : SameButNumbers (left step s qs) (left step s rs)

  -- ---- the statement, of a library from the state s on

  pub record ArrivalOrder (s : S) : Type 0 where
    -- for any two answers that may change places, after any calls
    pub exchanging : (before : List Request) (x y : ℕ) (cs ds : List ℕ)
        → Exchangeable step (left step s before) x cs y ds → OtherOrder (left step s before) x cs y ds
    -- for every list of calls and all that exchanges make of it
    pub rearranging : (qs rs : List Request) → Exchanged step s qs rs → Rearranged s qs rs

-- ---- the plain table

-- two tables with the same capacities, the same subgoals with the same numbers and states, as many answers, and the
-- same answers to each subgoal in the same order
pub record Renumbered (t u : Table) : Type 0 where
  pub N : t.N ≡ u.N
  pub F : t.F ≡ u.F
  pub A : t.A ≡ u.A
  pub subgoals : t.subgoals ≡ u.subgoals
  pub answers : length t.answers ≡ length u.answers
  pub answers-to : (i : ℕ) → answers_to t.answers i ≡ answers_to u.answers i

-- From every fresh table on, whatever its capacities. And said of the tables themselves: what a list leaves and what a
-- list leaves that exchanges made of it.
pub record PlainArrivalOrder (c : Coding) : Type 0 where
  pub arrival-order : (n f a : ℕ) → ArrivalOrder (step c) counted (fresh n f a)
  pub renumbering : (n f a : ℕ) (qs rs : List Request) → Exchanged (step c) (fresh n f a) qs rs
      → Renumbered (reached c n f a qs) (reached c n f a rs)
