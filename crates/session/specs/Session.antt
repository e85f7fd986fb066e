-- A session, line by line, over any holder of a table: what is printed, and what is left.
use Rattle.std.specs.Prelude.{ℕ, List, [], ◌∷◌, ◌++◌, ◌≡◌, leb, length, drop, Ok}
use Rattle.basis.specs.Choice.{pick}
use Rattle.plain.specs.Coding.{coding_of}
use Rattle.plain.specs.Requests.{Request, Result}
use Rattle.plain.specs.Table.{Table, fresh, step}
use Rattle.space.specs.Fresh.{fresh_answer_in, fresh_space_in}
use Rattle.store.specs.Calls.{space_step}
use Rattle.text.specs.Cutting.{newline}
use Rattle.asking.specs.Lines.{means}
use Rattle.asking.specs.Saying.{said_of}
use Rattle.replies.specs.Texts.{text_room}
use Rattle.session.specs.Numbers.{session_edition}

-- line after line, their newlines not counted; each one printed ends with a newline
unfoldable pub session : {S : Type 0} → (S → Request → Result S) → List (List ℕ) → S → List ℕ → List ℕ
session calls [] s out = []
session calls (line ∷ lines) s out =
    let r = said_of calls (means line out) s out in
    r.text ++ (newline ∷ session calls lines r.state r.out)

-- ---- the function that answers a line

-- how many bytes of the text are to be printed, and the text, the space and out after it
pub record Response : Type 0 where
  pub printed : ℕ
  pub text : List ℕ
  pub space : List ℕ
  pub out : List ℕ

abbrev pub response : ℕ → List ℕ → List ℕ → List ℕ → Response
response n text space out = record { printed = n; text = text; space = space; out = out }

-- a text that might be too short for the reply stays as it is, and so does all else
unfoldable pub responding : List ℕ → List ℕ → List ℕ → List ℕ → Response
responding line text space out =
    let r = said_of space_step (means line out) space out in
    let bytes = r.text ++ (newline ∷ []) in
    pick (leb (text_room (length out)) (length text))
    (response (length bytes) (bytes ++ drop (length bytes) text) r.state r.out)
    (response 0 text space out)

-- over a space, and over the plain table
abbrev pub cell_session : List (List ℕ) → List ℕ → List ℕ → List ℕ
cell_session = session space_step

abbrev pub plain_session : List (List ℕ) → Table → List ℕ → List ℕ
plain_session = session (step (coding_of session_edition))

-- whatever the lines are, a session from a fresh space prints what the plain table would
abbrev pub Printed : Type 0
Printed =
    (n f a : ℕ) (s : List ℕ) (lines : List (List ℕ)) (out : List ℕ) → fresh_answer_in session_edition n f a s ≡ Ok tt
    → cell_session lines (fresh_space_in session_edition n f a s) out ≡ plain_session lines (fresh n f a) out
