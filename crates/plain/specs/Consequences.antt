-- What follows for every list of calls: statements that a reader asks for, proved of every coding that meets the laws.
use Rattle.std.specs.Prelude.{List, [], ◌∷◌, ◌++◌, map, ◌⊎◌, ◌≡◌, ℕ, suc, ◌+◌, ◌-◌, ◌<◌, ◌≤◌, eqb, length, take}
use Rattle.basis.specs.Choice.{pick}
use Rattle.forms.specs.Numbering.{numbered}
use Rattle.plain.specs.Words.{Word, distinct, most, brings, newcomers}
use Rattle.plain.specs.Coding.{Coding}
use Rattle.plain.specs.Requests.{Finished, Request, call, answer, finish, next, load, instance, join}
use Rattle.plain.specs.Requests.{Reply, new, old_subgoal, old_answer, done, at, none_yet, no_more, cells, used}
use Rattle.plain.specs.Requests.{joined, because, detoured, refused, short, lacks_next, lent, left}
use Rattle.plain.specs.Joins.{combined}
use Rattle.plain.specs.Table.{Table, Answer, fresh, subgoal_at, answer_at, subgoal_of_answer, answers_to, nodes}
use Rattle.plain.specs.Table.{writes, entered, step}

-- ---- distinct prefixes

-- one word more brings as many distinct prefixes as it has tokens past the longest that it shares
abbrev pub Brought : Type 0
Brought = (ws : List Word) (w : Word) → distinct (ws ++ (w ∷ [])) ≡ distinct ws + (length w - most ws w)

-- forms that are given to a subgoal one after another bring so many nodes and so many answers
abbrev pub Entering : Type 0
Entering = (t : Table) (s : ℕ) (ws : List Word) → 0 < s → s ≤ length t.subgoals
    → (nodes (entered t s ws) ≡ nodes t + brings (answers_to t.answers s) [] ws)
    × (length (entered t s ws).answers ≡ length t.answers + newcomers (answers_to t.answers s) [] ws)

-- ---- replies

-- the reply is new or old with this number
abbrev pub Gives : ℕ → Reply → Type 0
Gives i (new n) = n ≡ i
Gives i (old_subgoal n s) = n ≡ i
Gives i (old_answer n) = n ≡ i
Gives i done = ⊥
Gives i (at n) = ⊥
Gives i none_yet = ⊥
Gives i no_more = ⊥
Gives i (cells n) = ⊥
Gives i (used n) = ⊥
Gives i (joined n) = ⊥
Gives i (because y) = ⊥
Gives i (detoured y) = ⊥
Gives i (refused n) = ⊥
Gives i (short n) = ⊥

-- the reply is the refusal of this number; too short an out is 12
abbrev pub RefusedBy : ℕ → Reply → Type 0
RefusedBy r (new n) = ⊥
RefusedBy r (old_subgoal n s) = ⊥
RefusedBy r (old_answer n) = ⊥
RefusedBy r done = ⊥
RefusedBy r (at n) = ⊥
RefusedBy r none_yet = ⊥
RefusedBy r no_more = ⊥
RefusedBy r (cells n) = ⊥
RefusedBy r (used n) = ⊥
RefusedBy r (joined n) = ⊥
RefusedBy r (because y) = ⊥
RefusedBy r (detoured y) = ⊥
RefusedBy r (refused n) = n ≡ r
RefusedBy r (short n) = 12 ≡ r

-- old, or refused by 3, 4, 5 or 8
abbrev pub OldOrRefused : Reply → Type 0
OldOrRefused r = ((i : ℕ) × (r ≡ old_answer i)) ⊎ ((k : ℕ) × (r ≡ refused k) × (((3 ≤ k) × (k ≤ 5)) ⊎ (k ≡ 8)))

-- the numbers of the refusals that the plain table knows
abbrev pub Known : ℕ → Type 0
Known r = ((3 ≤ r) × (r ≤ 8)) ⊎ (((10 ≤ r) × (r ≤ 12)) ⊎ (((14 ≤ r) × (r ≤ 16)) ⊎ ((21 ≤ r) × (r ≤ 22))))

-- and those that a join knows
abbrev pub JoinKnown : ℕ → Type 0
JoinKnown r = (r ≡ 4) ⊎ (((7 ≤ r) × (r ≤ 8)) ⊎ (((10 ≤ r) × (r ≤ 11)) ⊎ ((14 ≤ r) × (r ≤ 16))))

-- ---- next

-- the numbers, from n on, of the answers to subgoal s, in increasing order
unfoldable pub numbers_of : ℕ → ℕ → List Answer → List ℕ
numbers_of s n [] = []
numbers_of s n (a ∷ l) = let r = numbers_of s (suc n) l in pick (eqb a.subgoal s) (n ∷ r) r

-- next from a on gives these numbers, each from the one before, and then the word for the state
abbrev pub Visits : Coding → Table → ℕ → ℕ → List ℕ → Type 0
Visits c t s a [] = (step c t (next s a)).reply ≡ lacks_next (subgoal_at t s).state
Visits c t s a (b ∷ bs) = ((step c t (next s a)).reply ≡ at b) × Visits c t s b bs

-- ---- tables

-- what holds of every table that calls make
pub record Kept (t : Table) : Type 0 where
  pub room : nodes t ≤ t.N
  pub subgoal-room : length t.subgoals ≤ t.F
  pub answer-room : length t.answers ≤ t.A
  -- every answer is to a subgoal
  pub answered : (a : ℕ) → 0 < a → a ≤ length t.answers
      → (0 < subgoal_of_answer t a) × (subgoal_of_answer t a ≤ length t.subgoals)
  -- no two subgoals have one form, and no two answers under one subgoal
  pub subgoals-differ : (i j : ℕ) → 0 < i → i ≤ length t.subgoals → 0 < j → j ≤ length t.subgoals
      → (subgoal_at t i).form ≡ (subgoal_at t j).form → i ≡ j
  pub answers-differ : (a b : ℕ) → 0 < a → a ≤ length t.answers → 0 < b → b ≤ length t.answers
      → subgoal_of_answer t a ≡ subgoal_of_answer t b → (answer_at t a).form ≡ (answer_at t b).form → a ≡ b

module _ (c : Coding) where
  -- the table that a list of calls makes of a fresh one
  abbrev pub reached : ℕ → ℕ → ℕ → List Request → Table
  reached n f a qs = left (step c) (fresh n f a) qs

  -- a refused call leaves the table and out as they were
  abbrev pub Refusing : Type 0
  Refusing = (t : Table) (q : Request) (r : ℕ) → RefusedBy r (step c t q).reply
      → ((step c t q).state ≡ t) × ((step c t q).out ≡ lent q)

  -- calls are refused by 3 to 8, 10 to 12, 14 to 16 and 22, never by 1, 2 or 9
  abbrev pub RefusingBy : Type 0
  RefusingBy = (t : Table) (q : Request) (r : ℕ) → RefusedBy r (step c t q).reply → Known r

  -- next from 0 on gives every answer to a subgoal once, in increasing order, and then "none yet" of an open subgoal,
  -- "no more" of a finished one
  abbrev pub Visiting : Type 0
  Visiting = (t : Table) (s : ℕ) → 0 < s → s ≤ length t.subgoals → Visits c t s 0 (numbers_of s 1 t.answers)

  -- "no more" is said of finished subgoals alone, and is final: next from the same answer says it again after any
  -- list of calls
  abbrev pub Ending : Type 0
  Ending = (t : Table) (s a : ℕ) → (step c t (next s a)).reply ≡ no_more
      → ((subgoal_at t s).state ≡ Finished)
      × ((qs : List Request) → (step c (left (step c) t qs) (next s a)).reply ≡ no_more)

  -- two calls give one number exactly where their terms are variants, whatever was called before and in between
  abbrev pub Calling : Type 0
  Calling = (n f a : ℕ) → 0 < n → (before between : List Request) (cs ds : List ℕ) (i j : ℕ)
      → (let t = reached n f a before in
      let u = left (step c) (step c t (call cs)).state between in
      Gives i (step c t (call cs)).reply → Gives j (step c u (call ds)).reply
      → (i ≡ j → numbered cs ≡ numbered ds) × (numbered cs ≡ numbered ds → i ≡ j))

  -- and so do two answers to one subgoal
  abbrev pub Answering : Type 0
  Answering = (n f a : ℕ) → 0 < n → (before between : List Request) (s : ℕ) (cs ds : List ℕ) (i j : ℕ)
      → (let t = reached n f a before in
      let u = left (step c) (step c t (answer s cs)).state between in
      Gives i (step c t (answer s cs)).reply → Gives j (step c u (answer s ds)).reply
      → (i ≡ j → numbered cs ≡ numbered ds) × (numbered cs ≡ numbered ds → i ≡ j))

  -- load gives back the numbered terms that came with an answer, whatever was called in between
  abbrev pub Loading : Type 0
  Loading = (t : Table) (s i : ℕ) (cs : List ℕ) (between : List Request) (out : List ℕ)
      → (let u = left (step c) (step c t (answer s cs)).state between in
      Gives i (step c t (answer s cs)).reply → step c u (load i out) ≡ writes u (numbered cs) out)

  -- a finished subgoal stays finished; an answer to it is old, or is refused by 3, 4, 5 or 8, and changes nothing
  abbrev pub Finishing : Type 0
  Finishing = (t : Table) (s : ℕ) (cs : List ℕ) (qs : List Request) → 0 < s → s ≤ length t.subgoals
      → (subgoal_at t s).state ≡ Finished
      → (let u = left (step c) t qs in
      ((subgoal_at u s).state ≡ Finished) × ((step c u (answer s cs)).state ≡ u)
      × OldOrRefused (step c u (answer s cs)).reply)

  -- and the answer says what it said before: old with the number that it had, or the same refusal
  abbrev pub Repeating : Type 0
  Repeating = (n f a : ℕ) → 0 < n → (before between : List Request) (s : ℕ) (cs : List ℕ)
      → (let t = reached n f a before in
      let u = left (step c) t between in
      0 < s → s ≤ length t.subgoals → (subgoal_at t s).state ≡ Finished
      → (step c u (answer s cs)).reply ≡ (step c t (answer s cs)).reply)

  -- what finishes a subgoal: finish, and a new answer to one without variables
  abbrev pub FinishedBy : Type 0
  FinishedBy = (t : Table) (s : ℕ)
      → ((step c t (finish s)).reply ≡ done → (subgoal_at (step c t (finish s)).state s).state ≡ Finished)
      × ((cs : List ℕ) (i : ℕ) → (subgoal_at t s).m ≡ 0 → (step c t (answer s cs)).reply ≡ new i
      → (subgoal_at (step c t (answer s cs)).state s).state ≡ Finished)

  -- the cells of the answers that a join gives its target, in order of the first, then of the second
  abbrev pub join_cells : Table → ℕ → ℕ → List ℕ → List ℕ → List (List ℕ)
  join_cells t f g ps cs = combined ps cs (map (λ w. c.terms w) (answers_to t.answers f))
      (map (λ w. c.terms w) (answers_to t.answers g))

  -- a join that is accepted leaves what its answers leave, given one after another, and says how many of them are new
  abbrev pub Joining : Type 0
  Joining = (t : Table) (f g s n : ℕ) (ps cs : List ℕ)
      → (let u = step c t (join f g ps s cs) in
      u.reply ≡ joined n → (u.state ≡ left (step c) t (map (λ ks. answer s ks) (join_cells t f g ps cs)))
      × (length u.state.answers ≡ length t.answers + n))

  -- a join on a table that calls made is refused by 4, 7, 8, 10, 11, 14, 15 and 16 alone: what it puts together is
  -- never malformed, and holds no variable
  abbrev pub JoinRefusing : Type 0
  JoinRefusing = (n f a : ℕ) → 0 < n → (qs : List Request) (first second s r : ℕ) (ps cs : List ℕ)
      → RefusedBy r (step c (reached n f a qs) (join first second ps s cs)).reply → JoinKnown r

  -- room is kept, numbers lead to records, and no form is held twice
  abbrev pub Keeping : Type 0
  Keeping = (n f a : ℕ) → 0 < n → (qs : List Request)
      → (let t = reached n f a qs in Kept t × (t.N ≡ n) × (t.F ≡ f) × (t.A ≡ a))

  -- the variables of the cells that instance writes are numbered by first meeting
  abbrev pub Numbering : Type 0
  Numbering = (n f a : ℕ) → 0 < n → (qs : List Request) (b k : ℕ) (out : List ℕ)
      → (let r = step c (reached n f a qs) (instance b out) in r.reply ≡ cells k
      → numbered (take k r.out) ≡ take k r.out)

-- all of it
pub record Consequences (c : Coding) : Type 0 where
  pub refusing : Refusing c
  pub refusing-by : RefusingBy c
  pub visiting : Visiting c
  pub ending : Ending c
  pub calling : Calling c
  pub answering : Answering c
  pub loading : Loading c
  pub finishing : Finishing c
  pub repeating : Repeating c
  pub finished-by : FinishedBy c
  pub joining : Joining c
  pub join-refusing : JoinRefusing c
  pub keeping : Keeping c
  pub numbering : Numbering c
