-- The line that is printed for each reply.
use Rattle.std.specs.Prelude.{ℕ, ◌+◌, ◌*◌, List, ◌∷◌, ◌++◌, take}
use Rattle.plain.specs.Requests.{State, Open, Finished}
use Rattle.plain.specs.Requests.{Reply, new, old_subgoal, old_answer, done, at, none_yet, no_more, cells, used, joined}
use Rattle.plain.specs.Requests.{Reason, old_as, new_past, because, detoured, refused, short}
use Rattle.text.specs.Letters.{letters}
use Rattle.text.specs.Fields.{space, cell_digits}
use Rattle.text.specs.Digits.{cell_texts, word_and_number, Puts}

abbrev pub text_new : List ℕ
text_new = letters "new"

abbrev pub text_old : List ℕ
text_old = letters "old"

abbrev pub text_open : List ℕ
text_open = letters "open"

abbrev pub text_finished : List ℕ
text_finished = letters "finished"

abbrev pub text_done : List ℕ
text_done = letters "done"

abbrev pub text_at : List ℕ
text_at = letters "at"

abbrev pub text_none_yet : List ℕ
text_none_yet = letters "none yet"

abbrev pub text_no_more : List ℕ
text_no_more = letters "no more"

abbrev pub text_cells : List ℕ
text_cells = letters "cells"

abbrev pub text_counts : List ℕ
text_counts = letters "counts"

abbrev pub text_refused : List ℕ
text_refused = letters "refused"

abbrev pub text_joined : List ℕ
text_joined = letters "joined"

abbrev pub text_tried : List ℕ
text_tried = letters "tried"

abbrev pub text_bad : List ℕ
text_bad = letters "bad"

abbrev pub state_text : State → List ℕ
state_text Open = text_open
state_text Finished = text_finished

abbrev pub counts_text : ℕ → ℕ → ℕ → List ℕ
counts_text nodes subgoals answers =
    word_and_number (word_and_number (word_and_number text_counts nodes) subgoals) answers

-- old, the number and the variables as cells; or new and the two numbers
unfoldable pub reason_text : Reason → List ℕ
reason_text (old_as n vs) = word_and_number text_old n ++ cell_texts vs
reason_text (new_past k s) = word_and_number (word_and_number text_new k) s

-- the refusal of an out that is too short
abbrev pub refused_short : ℕ
refused_short = 12

-- the cells printed are those written to out; an out that is too short has its need not printed; no line asks for a
-- join or for detours
unfoldable pub reply_text : Reply → List ℕ → List ℕ
reply_text (new n) out = word_and_number text_new n
reply_text (old_subgoal n s) out = word_and_number text_old n ++ (space ∷ state_text s)
reply_text (old_answer n) out = word_and_number text_old n
reply_text done out = text_done
reply_text (at n) out = word_and_number text_at n
reply_text none_yet out = text_none_yet
reply_text no_more out = text_no_more
reply_text (cells n) out = text_cells ++ cell_texts (take n out)
reply_text (used y) out = counts_text y.nodes y.subgoals y.answers
reply_text (joined n) out = word_and_number text_joined n
reply_text (because y) out = reason_text y
reply_text (detoured d) out = word_and_number text_tried d.tried
reply_text (refused r) out = word_and_number text_refused r
reply_text (short n) out = word_and_number text_refused refused_short

-- the room for any reply and its newline: a space and 8 digits for each cell of out, and so many bytes besides, which
-- hold a reply of numbers and the variables of a reason, 32 at most
abbrev pub reply_bytes : ℕ
reply_bytes = 64 + (1 + cell_digits) * 32

abbrev pub text_room : ℕ → ℕ
text_room n = (1 + cell_digits) * n + reply_bytes

-- a reply that prints no cells of out is printed at the start of a text, whatever out holds
abbrev pub PrintsReply : Reply → List ℕ → ℕ → List ℕ → Type 0
PrintsReply q text end text' = (out : List ℕ) → Puts 0 (reply_text q out) text end text'
