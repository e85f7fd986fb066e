-- What the program's functions leave of what it holds: the contracts of src/main.rt. A contract can say nothing of what
-- comes from standard input, so they say that there are bytes such that the program holds what `feed` of them leaves
-- (crates/session/specs/Program.antt); and nothing of what is printed.
use Rattle.std.specs.Prelude.{ℕ, ◌≤◌, List, Option, Some, None, Result, Ok, Err, ◌≡◌, eqb, take}
use Rattle.basis.specs.Choice.{pick}
use Rattle.session.specs.Session.{responding}
use Rattle.session.specs.Program.{Holding, answers_line, feed}
use Rattle.tables.specs.declared.Failed.{Failed}
use Rattle.tables.specs.declared.Session.{Session}

-- how many bytes are kept of the line begun, after a chunk; and after a read, or that the input has ended; or that
-- reading or printing failed
abbrev pub Chunk : Type 0
Chunk = Result ℕ Failed

abbrev pub Progress : Type 0
Progress = Result (Option ℕ) Failed

-- the bytes kept are within so many
abbrev pub KeptWithin : Chunk → ℕ → Type 0
KeptWithin (Ok n) most = n ≤ most
KeptWithin (Err e) most = Unit {0}

abbrev pub Within : Progress → ℕ → Type 0
Within (Ok (Some n)) most = n ≤ most
Within (Ok None) most = Unit {0}
Within (Err e) most = Unit {0}

-- the line kept was answered
abbrev pub Answered : ℕ → Session → Session → Type 0
Answered kept s s' =
    let r = responding (take kept s.line) s.text s.space s.out in
    (s'.text ≡ r.text) × (s'.space ≡ r.space) × (s'.out ≡ r.out) × (s'.line ≡ s.line)

-- what the program holds, of its parts
abbrev pub program_holds : List ℕ → ℕ → List ℕ → List ℕ → List ℕ → Holding
program_holds line kept text space out = record { line = line; kept = kept; text = text; space = space; out = out }

-- and of its arrays and how many bytes are kept
abbrev pub held : Session → ℕ → Holding
held s kept = program_holds s.line kept s.text s.space s.out

-- these bytes lead from p to q
abbrev pub Fed : List ℕ → Holding → Holding → Type 0
Fed bytes p q = (feed bytes p).holds ≡ q

-- what is held at the end of the input, where `last_printed` is printed
abbrev pub ends_with : Holding → Holding
ends_with p = pick (eqb p.kept 0) p (answers_line p).holds

-- all of a chunk is taken; or a reply could not be printed, and it is taken up to the end of the line replied to
abbrev pub TakesChunk : List ℕ → Holding → Chunk → Session → Type 0
TakesChunk chunk p (Ok n) s = Fed chunk p (held s n)
TakesChunk chunk p (Err e) s = (k : ℕ) × Fed (take k chunk) p (held s 0)

-- the first bytes of the buffer were read and taken; or the input had ended
abbrev pub ReadsSome : List ℕ → Holding → Progress → Session → Type 0
ReadsSome buffer p (Ok (Some n)) s = (k : ℕ) × Fed (take k buffer) p (held s n)
ReadsSome buffer p (Ok None) s = held s 0 ≡ ends_with p
ReadsSome buffer p (Err e) s = (k : ℕ) × (n : ℕ) × Fed (take k buffer) p (held s n)

-- one read after another: some bytes were taken, and where the input has ended the last line was answered too
abbrev pub ReadsOn : Holding → Progress → Session → Type 0
ReadsOn p (Ok (Some n)) s = (bytes : List ℕ) × Fed bytes p (held s n)
ReadsOn p (Ok None) s = (bytes : List ℕ) × (held s 0 ≡ ends_with (feed bytes p).holds)
ReadsOn p (Err e) s = (bytes : List ℕ) × (n : ℕ) × Fed bytes p (held s n)
