-- What the exports return, and every byte of out afterwards, for every input and every out.
use Rattle.std.specs.Prelude.{true, false, Ok, Err}
use Rattle.std.specs.Prelude.{ℕ, ◌+◌, ◌*◌, ◌^◌, ◌/◌, ◌%◌, ◌≤◌, ◌<◌, List, ◌++◌, ◌≡◌, length, take, drop, eqb}
use Rattle.basis.specs.Choice.{pick}
use Rattle.basis.specs.Refusals.{number_of}
use Rattle.basis.specs.declared.refusals.Refusal.TheVariants as refusal
use Rattle.forms.specs.declared.Unwritten.TheVariants.{Refused, Short}
use Rattle.forms.specs.Cells.{arity_of}
use Rattle.forms.specs.Stored.{StoredForm, compact_stored, stored_of}
use Rattle.forms.specs.Converting.{Answer, fitting, compacting, expanding, converter_edition}
use Rattle.marshalling.specs.Bytes.{cells_of, bytes_of}

-- what a call returns, and the bytes of out after it
pub data Outcome : Type 0 where
  outcome : ℕ → List ℕ → Outcome

-- an answer as a number: the cells written, or 2^31 + the refusal; the need of 12 is not given
unfoldable pub returned : Answer → ℕ
returned (Ok n) = n
returned (Err (Refused r)) = 2 ^ 31 + number_of r
returned (Err (Short n)) = 2 ^ 31 + 12

-- the bytes of out: those of the cells written before what was there; refused, what was there
unfoldable pub written_bytes : Answer → List ℕ → List ℕ → List ℕ
written_bytes (Ok n) cells out = bytes_of cells ++ drop (4 * n) out
written_bytes (Err e) cells out = out

-- the outcome of an answer, where `cells` are those to be written
unfoldable pub outcome_of : Answer → List ℕ → List ℕ → Outcome
outcome_of a cells out = outcome (returned a) (written_bytes a cells out)

-- a converter's answer over bytes: a byte count of input not divisible by 4 is 3, before all else;
-- only whole cells of out are room
unfoldable pub exported : (List ℕ → ℕ → Answer) → List ℕ → List ℕ → Answer
exported converter input out =
    pick (eqb (length input % 4) 0) (converter (cells_of input) (length out / 4)) (Err (Refused refusal.Term))

-- `compact_bytes` of one term
unfoldable pub compact_bytes : (ℕ → ℕ) → StoredForm → List ℕ → List ℕ → Outcome
compact_bytes arity s input out =
    outcome_of (exported (compacting arity s 1) input out) (s.form (cells_of input)) out

-- `expand_bytes` of the form of one term
unfoldable pub expand_bytes : StoredForm → List ℕ → List ℕ → Outcome
expand_bytes s input out =
    outcome_of (exported (expanding s 1) input out) (s.cells (cells_of input)) out

-- in the edition of this number; another is refused (1), before all else
unfoldable pub outcome_in : ℕ → Outcome → List ℕ → Outcome
outcome_in e o out = pick (converter_edition e) o (outcome (2 ^ 31 + 1) out)

-- ---- contracts

-- room for the n cells of input, for their variables and for their form, which is no longer than the longest
abbrev pub CompactRoom : (n : ℕ) (input cells vars form : List ℕ) → Type 0
CompactRoom n input cells vars form =
    (4 * n ≡ length input)
    × (n ≤ length cells)
    × (n ≤ length vars)
    × (3 * n ≤ 2 * length form)
    × (length form ≤ 384)

-- room for the n tokens of input and for their terms: two cells for each token, or as many as legal terms have
abbrev pub ExpandRoom : (n : ℕ) (input form cells : List ℕ) → Type 0
ExpandRoom n input form cells =
    (4 * n ≡ length input) × (n ≤ length form) × (length cells < 256 → 2 * n ≤ length cells) × (length cells ≤ 256)

-- the first n cells were handed to out, if it has room for them
abbrev pub Delivers : (cells : List ℕ) (n : ℕ) (out : List ℕ) (r : ℕ) (out' : List ℕ) → Type 0
Delivers cells n out r out' = outcome r out' ≡ outcome_of (fitting n (length out / 4)) (take n cells) out

-- one term was compacted; in the edition of any number: if there is one
abbrev pub CompactsBytes : (e : ℕ) (input out : List ℕ) (r : ℕ) (out' : List ℕ) → Type 0
CompactsBytes e input out r out' = outcome r out' ≡ compact_bytes (arity_of e) (stored_of e) input out

abbrev pub CompactsBytesIn : (e : ℕ) (input out : List ℕ) (r : ℕ) (out' : List ℕ) → Type 0
CompactsBytesIn e input out r out' =
    outcome r out' ≡ outcome_in e (compact_bytes (arity_of e) (compact_stored (arity_of e)) input out) out

-- the form of one term was expanded; in the edition of any number: if there is one
abbrev pub ExpandsBytes : (e : ℕ) (input out : List ℕ) (r : ℕ) (out' : List ℕ) → Type 0
ExpandsBytes e input out r out' = outcome r out' ≡ expand_bytes (stored_of e) input out

abbrev pub ExpandsBytesIn : (e : ℕ) (input out : List ℕ) (r : ℕ) (out' : List ℕ) → Type 0
ExpandsBytesIn e input out r out' =
    outcome r out' ≡ outcome_in e (expand_bytes (compact_stored (arity_of e)) input out) out

-- what no converter is given: another edition is refused (1), then a byte count not divisible by 4 (3)
abbrev pub RefusesBytes : (e : ℕ) (input out : List ℕ) (r : ℕ) (out' : List ℕ) → Type 0
RefusesBytes e input out r out' =
    (converter_edition e ≡ false → outcome r out' ≡ outcome (returned (Err (Refused refusal.Header))) out)
    × (converter_edition e ≡ true → (length input % 4 ≡ 0 → ⊥)
    → outcome r out' ≡ outcome (returned (Err (Refused refusal.Term))) out)
