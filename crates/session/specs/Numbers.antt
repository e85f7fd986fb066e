-- The numbers of the session program: its table's edition and capacities, and the lengths of what it holds.
use Rattle.std.specs.Prelude.{ℕ, ◌+◌, List}
use Rattle.space.specs.Fresh.{fresh_answer_in, fresh_space_in, FreshAnswer}
use Rattle.asking.specs.Lines.{longest_line}
use Rattle.replies.specs.Texts.{text_room}

abbrev pub session_edition : ℕ
session_edition = 1

-- N, F and A
abbrev pub session_nodes : ℕ
session_nodes = 1000

abbrev pub session_subgoals : ℕ
session_subgoals = 50

abbrev pub session_answers : ℕ
session_answers = 100

-- the cells of such a space, 8 + 5 N + 6 F + 3 A (`numbers` in Examples.antt)
abbrev pub space_cells : ℕ
space_cells = 5608

abbrev pub out_cells : ℕ
out_cells = 8192

-- room for any reply
abbrev pub text_bytes : ℕ
text_bytes = text_room out_cells

-- a byte more than a line may have, so that a longer one shows
abbrev pub line_bytes : ℕ
line_bytes = longest_line + 1

-- what making the table answers, and the space afterwards
abbrev pub start_answer : List ℕ → FreshAnswer
start_answer s = fresh_answer_in session_edition session_nodes session_subgoals session_answers s

abbrev pub start_space : List ℕ → List ℕ
start_space s = fresh_space_in session_edition session_nodes session_subgoals session_answers s
