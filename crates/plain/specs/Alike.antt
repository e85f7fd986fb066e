-- The same calls on tables of two codings (Q-13): what is compared of them, and when two codings read alike.
use Rattle.std.specs.Prelude.{Bool, true, false, ◌||◌, List, [], ◌∷◌, ◌≡◌, ℕ, eqb, length}
use Rattle.basis.specs.Choice.{pick}
use Rattle.forms.specs.Numbering.{met}
use Rattle.plain.specs.Words.{Word}
use Rattle.plain.specs.Coding.{Coding, Reading, refused, accepted}
use Rattle.plain.specs.Requests.{Request, Counts, Reply, new, old_subgoal, old_answer, done, at, none_yet, no_more}
use Rattle.plain.specs.Requests.{cells, used, joined, Reason, old_as, new_past, because, detoured, refused, short}
use Rattle.plain.specs.Requests.{Seen}
use Rattle.plain.specs.Table.{fresh, table_trace}

-- ---- what is compared

-- the nodes used belong to each form
abbrev pub nodes_apart : Counts → Counts
nodes_apart n = record { nodes = 0; subgoals = n.subgoals; answers = n.answers }

-- of a term that is new, so do the tokens shared and the subgoal that shares them; all of old is compared
unfoldable pub reason_apart : Reason → Reason
reason_apart (old_as n vs) = old_as n vs
reason_apart (new_past k s) = new_past 0 0

unfoldable pub reply_apart : Reply → Reply
reply_apart (new n) = new n
reply_apart (old_subgoal n s) = old_subgoal n s
reply_apart (old_answer n) = old_answer n
reply_apart done = done
reply_apart (at n) = at n
reply_apart none_yet = none_yet
reply_apart no_more = no_more
reply_apart (cells n) = cells n
reply_apart (used n) = used (nodes_apart n)
reply_apart (joined n) = joined n
reply_apart (because y) = because (reason_apart y)
reply_apart (detoured y) = detoured y
reply_apart (refused n) = refused n
reply_apart (short n) = short n

-- of a call its whole answer, the subgoals and answers used, and every cell of out
abbrev pub seen_apart : Seen → Seen
seen_apart x = record { reply = reply_apart x.reply; counted = nodes_apart x.counted; out = x.out }

-- refused by 10
unfoldable pub is_ten : Reply → Bool
is_ten (new n) = false
is_ten (old_subgoal n s) = false
is_ten (old_answer n) = false
is_ten done = false
is_ten (at n) = false
is_ten none_yet = false
is_ten no_more = false
is_ten (cells n) = false
is_ten (used n) = false
is_ten (joined n) = false
is_ten (because y) = false
is_ten (detoured y) = false
is_ten (refused n) = eqb n 10
is_ten (short n) = false

-- what is compared of the first list, up to the first call that is refused by 10 in either
unfoldable pub up_to_ten : List Seen → List Seen → List Seen
up_to_ten [] ys = []
up_to_ten (x ∷ xs) [] = []
up_to_ten (x ∷ xs) (y ∷ ys) =
    let rest = up_to_ten xs ys in
    pick (is_ten x.reply || is_ten y.reply) [] (seen_apart x ∷ rest)

-- Equal lists of calls on fresh tables of equal F and A, whatever N is of each: the same is seen of both, up to the
-- first refusal by 10 in either.
abbrev pub AnswerAlike : Coding → Coding → Type 0
AnswerAlike c d = (n k f a : ℕ) (qs : List Request)
    → (let xs = table_trace c (fresh n f a) qs in
    let ys = table_trace d (fresh k f a) qs in
    up_to_ten xs ys ≡ up_to_ten ys xs)

-- ---- codings that read alike

-- what was read, in the other form
unfoldable pub read_as : (Word → Word) → Reading → Reading
read_as other (refused r) = refused r
read_as other (accepted w m) = accepted (other w) m

-- The second coding stores in its own form what the first stores: it refuses the same cells by the same number, and
-- what both store has as many variables and the same terms.
pub record ReadAlike (c d : Coding) : Type 0 where
  -- the second's form of what this form of the first stores
  pub other : Word → Word
  pub called : (ks : List ℕ) → d.called ks ≡ read_as other (c.called ks)
  pub answered : (m : ℕ) (ks : List ℕ) → d.answered m ks ≡ read_as other (c.answered m ks)
  -- of legal forms: no two have one other form, and the other has the same cells, terms, variables and instances
  pub apart : (m n : ℕ) (w v : Word) → c.legal m w ≡ true → c.legal n v ≡ true → other w ≡ other v → w ≡ v
  pub expands : (m : ℕ) (w : Word) → c.legal m w ≡ true → d.expand (other w) ≡ c.expand w
  pub terms : (m : ℕ) (w : Word) → c.legal m w ≡ true → d.terms (other w) ≡ c.terms w
  pub variables : (m : ℕ) (w : Word) → c.legal m w ≡ true → length (met [] (other w)) ≡ length (met [] w)
  pub instances : (m n : ℕ) (w v : Word) → c.legal m w ≡ true → c.legal n v ≡ true
      → d.instance_of (other w) (other v) ≡ c.instance_of w v
  -- no terms have the empty form in both
  pub none : c.legal 0 [] ≡ true
  pub other_none : other [] ≡ []
