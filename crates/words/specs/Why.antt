-- What `tables_why` returns and leaves: the word of what why answers, and the cells of the reason in out.
use Rattle.std.specs.Prelude.{ℕ, ◌+◌, List, [], ◌∷◌, ◌++◌, ◌≡◌, leb, length, take, drop}
use Rattle.basis.specs.Choice.{pick}
use Rattle.plain.specs.Requests.{why, Reason, old_as, new_past, because, detoured, Reply, new, old_subgoal, old_answer}
use Rattle.plain.specs.Requests.{done, at, none_yet, no_more, cells, used, joined, refused, short}
use Rattle.trie.specs.Siblings.{search_children}
use Rattle.trie.specs.Walks.{Finding}
use Rattle.store.specs.Calls.{AnswersBy, indexed_way}
use Rattle.words.specs.Words.{word}

-- so many cells of out always suffice: a count, and as many variables as a term may have
abbrev pub why_room : ℕ
why_room = 33

-- the first where the answer gives a reason, else the second
unfoldable pub reasoning : {A : Type 0} → Reply → (Reason → A) → A → A
reasoning (because y) f x = f y
reasoning (new n) f x = x
reasoning (old_subgoal n s) f x = x
reasoning (old_answer n) f x = x
reasoning done f x = x
reasoning (at n) f x = x
reasoning none_yet f x = x
reasoning no_more f x = x
reasoning (cells n) f x = x
reasoning (used c) f x = x
reasoning (joined n) f x = x
reasoning (detoured y) f x = x
reasoning (refused r) f x = x
reasoning (short n) f x = x

-- for old the number of variables and the variables, for new the number of leading tokens shared; the subgoal is in
-- the word
unfoldable pub reason_cells : Reason → List ℕ
reason_cells (old_as n vs) = length vs ∷ vs
reason_cells (new_past k s) = k ∷ []

-- what is answered; an out of fewer cells than always suffice is 12
unfoldable pub why_reply : Reply → List ℕ → Reply
why_reply reply out = reasoning reply (λ y. pick (leb why_room (length out)) reply (short why_room)) reply

-- the cells of the reason stand before what was after them; refused, out is as it was
unfoldable pub why_out : Reply → List ℕ → List ℕ
why_out reply out =
    reasoning reply
    (λ y. pick (leb why_room (length out)) (reason_cells y ++ drop (length (reason_cells y)) out) out) out

-- the first m cells of some and, before them, their number stand before what was after them
abbrev pub GivesVariables : List ℕ → ℕ → List ℕ → List ℕ → Type 0
GivesVariables vars m out out' = out' ≡ (m ∷ take m vars) ++ drop (m + 1) out

-- the word of an answer and out after it
abbrev pub GivesReason : Reply → List ℕ → ℕ → List ℕ → Type 0
GivesReason reply out w out' = (w ≡ word (why_reply reply out)) × (out' ≡ why_out reply out)

-- `tables_why` is lent an out of its own, beside what the call answers; it only reads the space
abbrev pub ReturnsWhyBy : Finding → List ℕ → List ℕ → ℕ → List ℕ → List ℕ → Type 0
ReturnsWhyBy find before term w out out' =
    (r : Reply) × AnswersBy find before (why term) r [] before × GivesReason r out w out'

-- without an index
abbrev pub ReturnsWhy : List ℕ → List ℕ → ℕ → List ℕ → List ℕ → Type 0
ReturnsWhy = ReturnsWhyBy search_children

-- with one
abbrev pub ReturnsWhyIndexed : List ℕ → List ℕ → List ℕ → ℕ → List ℕ → List ℕ → Type 0
ReturnsWhyIndexed index before = ReturnsWhyBy (indexed_way index before) before
