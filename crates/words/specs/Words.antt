-- The result words of the calls over cells: an answer as one number, and what `tables_counts` does.
use Rattle.std.specs.Prelude.{ℕ, ◌+◌, ◌*◌, ◌^◌, List, [], ◌∷◌, ◌≡◌, leb, length, drop}
use Rattle.basis.specs.Choice.{pick}
use Rattle.plain.specs.Requests.{Open, Finished, Request, counts, Counts, old_as, new_past, because, detoured}
use Rattle.plain.specs.Requests.{Best, none_found, found}
use Rattle.plain.specs.Requests.{Reply, new, old_subgoal, old_answer, done, at, none_yet, no_more, cells, used, joined}
use Rattle.plain.specs.Requests.{refused, short}
use Rattle.space.specs.Fresh.{fresh_answer_in, fresh_space_in, FreshAnswer}
use Rattle.trie.specs.Siblings.{search_children}
use Rattle.trie.specs.Walks.{Finding}
use Rattle.store.specs.Calls.{space_step, AnswersBy, Answers, indexed_way}
use Rattle.store.specs.Replies.{said_finish}
use Rattle.store.specs.Building.{BuildReply, build_index}
use Rattle.store.specs.Building as build
use Rattle.agreement.specs.Faults.{Fault, nothing, heading, node, subgoal, answer, fault_of}
use Rattle.carrying.specs.Copying.{carry_reply, carry_space}
use Rattle.growing.specs.Growing.{grow_reply, grow_space}

-- what was answered in the upper half, its value in the lower
abbrev pub worded : ℕ → ℕ → ℕ
worded what value = what * 2 ^ 32 + value

-- of detours the value is the total, where one was found
abbrev pub best_word : Best → ℕ
best_word (found total ns) = worded 14 total
best_word none_found = worded 15 0

-- the value is a number, the cells written, or for 12 the cells that out would need; of a reason it is the subgoal
unfoldable pub word : Reply → ℕ
word done = worded 0 0
word (new n) = worded 1 n
word (old_answer n) = worded 2 n
word (old_subgoal n Open) = worded 3 n
word (old_subgoal n Finished) = worded 4 n
word (at n) = worded 5 n
word none_yet = worded 6 0
word (cells n) = worded 7 n
word (used c) = worded 8 3
word no_more = worded 9 0
word (joined n) = worded 10 n
word (because (old_as n vs)) = worded 12 n
word (because (new_past k s)) = worded 13 s
word (detoured d) = best_word d.best
word (refused r) = worded (256 + r) 0
word (short n) = worded (256 + 12) n

-- what fresh answers, as finish does
abbrev pub said_fresh : FreshAnswer → Reply
said_fresh = said_finish

-- `tables_fresh` returns w and leaves these cells.
abbrev pub ReturnsFresh : (e nodes subgoals answers : ℕ) → List ℕ → ℕ → List ℕ → Type 0
ReturnsFresh e nodes subgoals answers before w after =
    (w ≡ word (said_fresh (fresh_answer_in e nodes subgoals answers before)))
    × (after ≡ fresh_space_in e nodes subgoals answers before)

-- `tables_carry` returns w, in the words of fresh, and leaves these cells of the target.
abbrev pub ReturnsCarry : (nodes subgoals answers : ℕ) → List ℕ → List ℕ → ℕ → List ℕ → Type 0
ReturnsCarry nodes subgoals answers source before w after =
    (w ≡ word (said_fresh (carry_reply nodes subgoals answers source before)))
    × (after ≡ carry_space nodes subgoals answers source before)

-- `tables_grow` returns w and leaves these cells.
abbrev pub ReturnsGrow : (nodes subgoals answers : ℕ) → List ℕ → ℕ → List ℕ → Type 0
ReturnsGrow nodes subgoals answers before w after =
    (w ≡ word (said_fresh (grow_reply nodes subgoals answers before)))
    × (after ≡ grow_space nodes subgoals answers before)

-- An export returns w: the word of what the call answers. The contract of every exported call but `tables_counts`,
-- `tables_why` (Why.antt) and `tables_detours` (Detours.antt).
abbrev pub ReturnsBy : Finding → List ℕ → Request → ℕ → List ℕ → List ℕ → Type 0
ReturnsBy find before q w out after = (r : Reply) × AnswersBy find before q r out after × (w ≡ word r)

-- without an index
abbrev pub Returns : List ℕ → Request → ℕ → List ℕ → List ℕ → Type 0
Returns = ReturnsBy search_children

-- with one
abbrev pub ReturnsIndexed : List ℕ → List ℕ → Request → ℕ → List ℕ → List ℕ → Type 0
ReturnsIndexed index before = ReturnsBy (indexed_way index before) before

-- ---- `tables_counts`

-- the first where the answer gives counts, else the second
unfoldable pub counting : {A : Type 0} → Reply → (Counts → A) → A → A
counting (used c) f x = f c
counting (new n) f x = x
counting (old_subgoal n s) f x = x
counting (old_answer n) f x = x
counting done f x = x
counting (at n) f x = x
counting none_yet f x = x
counting no_more f x = x
counting (cells n) f x = x
counting (joined n) f x = x
counting (because y) f x = x
counting (detoured y) f x = x
counting (refused r) f x = x
counting (short n) f x = x

-- what counts answers; an out of fewer than three cells is 12
unfoldable pub counts_reply : Reply → List ℕ → Reply
counts_reply reply out = counting reply (λ c. pick (leb 3 (length out)) reply (short 3)) reply

-- the three counts stand before what was after them; refused, out is as it was
unfoldable pub counts_out : Reply → List ℕ → List ℕ
counts_out reply out =
    counting reply (λ c. pick (leb 3 (length out)) (c.nodes ∷ c.subgoals ∷ c.answers ∷ drop 3 out) out) out

-- what counts answers on the cells of a space
abbrev pub counts_of : List ℕ → Reply
counts_of space = (space_step space counts).reply

-- `tables_counts` is lent an out of its own, beside what the call answers
abbrev pub ReturnsCounts : List ℕ → ℕ → List ℕ → List ℕ → Type 0
ReturnsCounts before w out out' =
    (r : Reply) × Answers before counts r [] before × (w ≡ word (counts_reply r out)) × (out' ≡ counts_out r out)

-- ---- `tables_check`

-- a broken record as a value: its kind above its number, as in a cell
abbrev pub broken_record : ℕ → ℕ → ℕ
broken_record kind number = kind * 2 ^ 28 + number

-- done where nothing is broken; refused by 1 where the header is, by 9 where a record is
unfoldable pub word_check : Fault → ℕ
word_check nothing = worded 0 0
word_check heading = worded (256 + 1) 0
word_check (node n) = worded (256 + 9) (broken_record 1 n)
word_check (subgoal s) = worded (256 + 9) (broken_record 2 s)
word_check (answer a) = worded (256 + 9) (broken_record 3 a)

-- `tables_check` returns the word of what is broken first in the space
abbrev pub ReturnsCheck : List ℕ → ℕ → Type 0
ReturnsCheck space w = w ≡ word_check (fault_of space)

-- ---- `tables_build`

-- the value is the number of children entered
unfoldable pub word_build : BuildReply → ℕ
word_build (build.built n) = worded 11 n
word_build (build.refused r) = worded (256 + r) 0

-- `tables_build` returns w, the word of what the build answers, and leaves this index
abbrev pub ReturnsBuild : List ℕ → List ℕ → ℕ → List ℕ → Type 0
ReturnsBuild space before w after =
    (w ≡ word_build (build_index space before).reply) × (after ≡ (build_index space before).index)
