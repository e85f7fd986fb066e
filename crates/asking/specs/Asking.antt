-- What the functions that make a call of a session leave: the names that their contracts use.
use Rattle.std.specs.Prelude.{ℕ, ◌≤◌, List, ◌≡◌, length}
use Rattle.store.specs.Calls.{space_step}
use Rattle.text.specs.Digits.{Puts}
use Rattle.text.specs.Places.{FieldEnds, rest_at}
use Rattle.replies.specs.Texts.{reply_bytes, text_room}
use Rattle.asking.specs.Lines.{Meaning, means_call, means_answer, means_finish, means_next, means_counts}
use Rattle.asking.specs.Lines.{means_why, longest_line}
use Rattle.asking.specs.Saying.{Said, said_of}

-- what is asked behind a word of a line can be printed: its fields begin behind a place, and the text has room for a
-- reply of numbers; where the fields are cells, no more of them than a line has room for; or room for all cells of out
abbrev pub Askable : List ℕ → ℕ → List ℕ → Type 0
Askable line at text = FieldEnds line at × (reply_bytes ≤ length text)

abbrev pub AskableCells : List ℕ → ℕ → List ℕ → Type 0
AskableCells line at text = FieldEnds line at × (length line ≤ longest_line) × (reply_bytes ≤ length text)

abbrev pub AskableOut : List ℕ → ℕ → List ℕ → List ℕ → Type 0
AskableOut line at out text = FieldEnds line at × (text_room (length out) ≤ length text)

-- a line is printed at the start of the text: the text before, the place behind the line, the text and the space after
abbrev pub Prints : Said (List ℕ) → List ℕ → ℕ → List ℕ → List ℕ → Type 0
Prints r text end text' space' = Puts 0 r.text text end text' × (space' ≡ r.state)

-- what a line's meaning asks for is done and printed, whatever out holds: the space and the text before, the place
-- behind what is printed, the text and the space after
abbrev pub Asks : Meaning → List ℕ → List ℕ → ℕ → List ℕ → List ℕ → Type 0
Asks m space text end text' space' = (out : List ℕ) → Prints (said_of space_step m space out) text end text' space'

-- the same of a call that is lent the space to read alone
abbrev pub AsksReading : Meaning → List ℕ → List ℕ → ℕ → List ℕ → Type 0
AsksReading m space text end text' = Asks m space text end text' space

-- what the fields of a line from a place on mean behind each word
abbrev pub call_meant : List ℕ → ℕ → Meaning
call_meant line at = means_call (rest_at line at)

abbrev pub answer_meant : List ℕ → ℕ → Meaning
answer_meant line at = means_answer (rest_at line at)

abbrev pub finish_meant : List ℕ → ℕ → Meaning
finish_meant line at = means_finish (rest_at line at)

abbrev pub next_meant : List ℕ → ℕ → Meaning
next_meant line at = means_next (rest_at line at)

abbrev pub counts_meant : List ℕ → ℕ → Meaning
counts_meant line at = means_counts (rest_at line at)

abbrev pub why_meant : List ℕ → ℕ → Meaning
why_meant line at = means_why (rest_at line at)

-- load and instance are lent out besides: what is said and what is left by the meaning of the fields, on a space and an
-- out
abbrev pub lent_said : (List (List ℕ) → List ℕ → Meaning) → List ℕ → ℕ → List ℕ → List ℕ → Said (List ℕ)
lent_said means line at space out = said_of space_step (means (rest_at line at) out) space out

-- it is printed, and the space is as it was
abbrev pub LentPrints : (List (List ℕ) → List ℕ → Meaning) → (line : List ℕ) (at : ℕ) (space out text : List ℕ) → ℕ
    → List ℕ → Type 0
LentPrints means line at space out text end text' = Prints (lent_said means line at space out) text end text' space
