-- What the session program's calls of two functions come to: line after line, and byte after byte of what it reads.
-- The program itself reads, makes these calls and writes.
use Rattle.std.specs.Prelude.{ℕ, ◌≤◌, ◌<◌, List, [], ◌∷◌, ◌++◌, ◌≡◌, eqb, length, take, drop, set, Ok}
use Rattle.basis.specs.Choice.{pick}
use Rattle.plain.specs.Table.{fresh}
use Rattle.text.specs.Cutting.{newline, lines_of, concatenated, kept_more, taking}
use Rattle.text.specs.declared.Taking.{Taking}
use Rattle.text.specs.declared.Taking.TheVariants.{Line, More}
use Rattle.asking.specs.Lines.{longest_line}
use Rattle.replies.specs.Texts.{text_room}
use Rattle.session.specs.Numbers.{session_nodes, session_subgoals, session_answers, start_answer, start_space}
use Rattle.session.specs.Numbers.{space_cells, out_cells, text_bytes, line_bytes}
use Rattle.session.specs.Session.{responding, cell_session, plain_session}

-- ---- line after line

-- what is printed where each line is answered by `responding`, with the text, the space and out that the line before
-- left
unfoldable pub responses : List (List ℕ) → List ℕ → List ℕ → List ℕ → List ℕ
responses [] text space out = []
responses (line ∷ lines) text space out =
    let r = responding line text space out in
    take r.printed r.text ++ responses lines r.text r.space r.out

-- it is the session, where the text has room for any reply
abbrev pub Responded : Type 0
Responded =
    (lines : List (List ℕ)) (text space out : List ℕ) → text_room (length out) ≤ length text
    → responses lines text space out ≡ cell_session lines space out

-- ---- byte after byte

-- what the program holds: the buffer of a line, how many bytes it keeps of the line begun, the text, the space and out
pub record Holding : Type 0 where
  pub line : List ℕ
  pub kept : ℕ
  pub text : List ℕ
  pub space : List ℕ
  pub out : List ℕ

-- what it has printed, and what it then holds
pub record Turn : Type 0 where
  pub printed : List ℕ
  pub holds : Holding

abbrev pub turn : List ℕ → Holding → Turn
turn printed holds = record { printed = printed; holds = holds }

-- the line begun, in the buffer
abbrev pub with_line : Holding → List ℕ → ℕ → Holding
with_line p line kept = record { line = line; kept = kept; text = p.text; space = p.space; out = p.out }

-- the line kept is answered and printed, and another begins
abbrev pub answers_line : Holding → Turn
answers_line p =
    let r = responding (take p.kept p.line) p.text p.space p.out in
    turn (take r.printed r.text)
    (record { line = p.line; kept = 0; text = r.text; space = r.space; out = r.out })

-- a byte is kept if there is room for it
abbrev pub keeps_byte : ℕ → Holding → Turn
keeps_byte b p = turn [] (with_line p (set p.line p.kept b) (kept_more p.line p.kept))

unfoldable pub feed : List ℕ → Holding → Turn
feed [] p = turn [] p
feed (b ∷ bs) p =
    let now = pick (eqb b newline) (answers_line p) (keeps_byte b p) in
    let later = feed bs now.holds in
    turn (now.printed ++ later.printed) later.holds

-- at the end of the input the line begun is answered, unless it is empty
abbrev pub last_printed : Holding → List ℕ
last_printed p = pick (eqb p.kept 0) [] (answers_line p).printed

-- all that is printed for an input that comes in chunks
unfoldable pub runs : List (List ℕ) → Holding → List ℕ
runs [] p = last_printed p
runs (c ∷ cs) p =
    let now = feed c p in
    now.printed ++ runs cs now.holds

-- The program's turns through a chunk are `feed` of it: `take_line` goes on to the next newline, the line taken is
-- answered, and the chunk goes on behind it; or the chunk ends.
abbrev pub goes_on : List ℕ → Holding → List ℕ → Taking → Turn
goes_on chunk p line (Line next n) =
    let now = answers_line (with_line p line n) in
    let later = feed (drop next chunk) now.holds in
    turn (now.printed ++ later.printed) later.holds
goes_on chunk p line (More n) = turn [] (with_line p line n)

abbrev pub TurnByTurn : Type 0
TurnByTurn =
    (chunk : List ℕ) (at : ℕ) (p : Holding)
    → (let r = taking (drop at chunk) at p.line p.kept in
    feed (drop at chunk) p ≡ goes_on chunk p r.line r.answer)

-- ---- what the program prints

-- a buffer longer than any line that means something, and a text with room for any reply
pub record Ready (line text out : List ℕ) : Type 0 where
  pub longer : longest_line < length line
  pub room : text_room (length out) ≤ length text

-- no line has begun
abbrev pub starts : List ℕ → List ℕ → List ℕ → List ℕ → Holding
starts line text space out = record { line = line; kept = 0; text = text; space = space; out = out }

-- over any space, and however the input comes in chunks, it prints the session of the input's lines
abbrev pub AnyInput : Type 0
AnyInput =
    (chunks : List (List ℕ)) (line text space out : List ℕ) → Ready line text out
    → runs chunks (starts line text space out) ≡ cell_session (lines_of (concatenated chunks)) space out

-- the lengths of what the program holds
pub record Lengths (line text space out : List ℕ) : Type 0 where
  pub of-line : length line ≡ line_bytes
  pub of-text : length text ≡ text_bytes
  pub of_space : length space ≡ space_cells
  pub of-out : length out ≡ out_cells

-- with the program's numbers its table is made
abbrev pub Started : Type 0
Started = (space : List ℕ) → length space ≡ space_cells → start_answer space ≡ Ok tt

-- and it prints what the plain table would
abbrev pub Sessions : Type 0
Sessions =
    (chunks : List (List ℕ)) (line text space out : List ℕ) → Lengths line text space out
    → runs chunks (starts line text (start_space space) out)
    ≡ plain_session (lines_of (concatenated chunks)) (fresh session_nodes session_subgoals session_answers) out
