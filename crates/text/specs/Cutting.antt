-- The lines of a string of bytes, however it comes in chunks; and what one step of cutting a chunk leaves.
use Rattle.std.specs.Prelude.{ℕ, ◌+◌, ◌≤◌, ◌<◌, List, [], ◌∷◌, ◌++◌, ◌≡◌, eqb, ltb, length, take, drop, set}
use Rattle.basis.specs.Choice.{pick}
use Rattle.text.specs.declared.Taking.{Taking}
use Rattle.text.specs.declared.Taking.TheVariants.{Line, More}

abbrev pub newline : ℕ
newline = 10

-- the lines that have ended, without their newlines, and the one that has begun behind them
pub record Lines : Type 0 where
  pub ended : List (List ℕ)
  pub begun : List ℕ

abbrev pub lines : List (List ℕ) → List ℕ → Lines
lines ended begun = record { ended = ended; begun = begun }

-- the lines of bytes that go on with a line begun
unfoldable pub lines_from : List ℕ → List ℕ → Lines
lines_from begun [] = lines [] begun
lines_from begun (b ∷ bs) =
    let ends = eqb b newline in
    let r = lines_from (pick ends [] (begun ++ (b ∷ []))) bs in
    pick ends (lines (begun ∷ r.ended) r.begun) r

-- what has begun is a line at the end of the input, unless it is empty
abbrev pub last_line : List ℕ → List (List ℕ)
last_line [] = []
last_line (b ∷ bs) = (b ∷ bs) ∷ []

-- the lines of a whole input
abbrev pub lines_of : List ℕ → List (List ℕ)
lines_of bs = (lines_from [] bs).ended ++ last_line (lines_from [] bs).begun

-- ---- chunks

abbrev pub concatenated : List (List ℕ) → List ℕ
concatenated [] = []
concatenated (c ∷ cs) = c ++ concatenated cs

-- the lines of chunks, each cut with the line that the one before left begun
unfoldable pub lines_of_chunks : List ℕ → List (List ℕ) → Lines
lines_of_chunks begun [] = lines [] begun
lines_of_chunks begun (c ∷ cs) =
    let now = lines_from begun c in
    let later = lines_of_chunks now.begun cs in
    lines (now.ended ++ later.ended) later.begun

-- it does not matter where the chunks begin and end
abbrev pub AnyChunks : Type 0
AnyChunks =
    (begun : List ℕ) (chunks : List (List ℕ))
    → lines_of_chunks begun chunks ≡ lines_from begun (concatenated chunks)

-- ---- a line taken from a chunk into a buffer, which keeps as much of it as it has room for

-- the answer, and the buffer afterwards
pub record Took : Type 0 where
  pub answer : Taking
  pub line : List ℕ

abbrev pub took : Taking → List ℕ → Took
took answer line = record { answer = answer; line = line }

-- one byte more is kept, if the buffer has room for it
abbrev pub kept_more : List ℕ → ℕ → ℕ
kept_more line kept = pick (ltb kept (length line)) (kept + 1) kept

-- up to the next newline, or to the chunk's end: the bytes left of the chunk, the place that they begin at, the buffer,
-- and how many bytes of the line begun it keeps
unfoldable pub taking : List ℕ → ℕ → List ℕ → ℕ → Took
taking [] at line kept = took (More kept) line
taking (b ∷ bs) at line kept =
    let later = taking bs (at + 1) (set line kept b) (kept_more line kept) in
    pick (eqb b newline) (took (Line (at + 1) kept) line) later

-- the buffer keeps a line begun: all of it, or as much as there is room for
abbrev pub Keeps : List ℕ → ℕ → List ℕ → Type 0
Keeps line kept begun = (kept ≤ length line) × (take kept line ≡ take (length line) begun)

-- places and counts are in range, whatever the bytes are
abbrev pub InRange : List ℕ → ℕ → List ℕ → ℕ → Taking → Type 0
InRange chunk at line kept (Line next n) =
    (at < next) × (next ≤ length chunk) × (kept ≤ length line → n ≤ length line)
InRange chunk at line kept (More n) = kept ≤ length line → n ≤ length line

-- of bytes that go on with a line begun, the line that ends first, of which the buffer keeps n bytes; behind its
-- newline other lines begin
pub record FirstLine (bytes behind begun line : List ℕ) (n : ℕ) : Type 0 where
  pub whole : List ℕ
  pub keeps : Keeps line n whole
  pub goes_on : lines_from begun bytes ≡ lines (whole ∷ (lines_from [] behind).ended) (lines_from [] behind).begun

-- what a step says of the lines of the bytes left: one has ended, or none
abbrev pub Cuts : List ℕ → List ℕ → List ℕ → List ℕ → Taking → Type 0
Cuts chunk bytes begun line (Line next n) = FirstLine bytes (drop next chunk) begun line n
Cuts chunk bytes begun line (More n) =
    ((lines_from begun bytes).ended ≡ []) × Keeps line n (lines_from begun bytes).begun

-- a step cuts the chunk as its lines say, where the buffer keeps the line begun
abbrev pub TakesLines : Type 0
TakesLines =
    (chunk line begun : List ℕ) (at kept : ℕ) → Keeps line kept begun
    → (let r = taking (drop at chunk) at line kept in Cuts chunk (drop at chunk) begun r.line r.answer)
