-- Places of a line, and what is read from them.
use Rattle.std.specs.Prelude.{ℕ, ◌+◌, ◌≤◌, ◌<◌, List, [], Option, Some, None, ◌≡◌, length, take, drop}
use Rattle.text.specs.Fields.{fields, Number, no_number, some_number, Cells, no_cells, some_cells, behind}
use Rattle.text.specs.declared.Numeral.{Numeral}

-- the field that goes on at a place, and the fields behind it
abbrev pub field_at : List ℕ → ℕ → List ℕ
field_at line i = (fields (drop i line)).first

abbrev pub rest_at : List ℕ → ℕ → List (List ℕ)
rest_at line i = (fields (drop i line)).others

-- a field ends at the place
abbrev pub FieldEnds : List ℕ → ℕ → Type 0
FieldEnds line i = (i ≤ length line) × (field_at line i ≡ [])

-- the line's first field ends there, and the others follow
abbrev pub EndsFirst : List ℕ → ℕ → Type 0
EndsFirst line i = FieldEnds line i × ((fields line).first ≡ take i line) × (rest_at line i ≡ (fields line).others)

-- the same within so many bytes; or the first field has more
abbrev pub EndsWithin : List ℕ → ℕ → Option ℕ → Type 0
EndsWithin line most (Some n) = EndsFirst line n × (n ≤ most)
EndsWithin line most None = most < length (fields line).first

-- the numeral in the field behind a place, of at least so many digits
abbrev pub ReadsNumeral : List ℕ → ℕ → ℕ → Number → Option Numeral → Type 0
ReadsNumeral line i least said (Some y) =
    (said ≡ some_number y.value) × FieldEnds line y.end × (rest_at line y.end ≡ behind (rest_at line i))
    × (i + least < y.end)
ReadsNumeral line i least said None = said ≡ no_number

-- the cells read, at the front of the cells lent
abbrev pub ReadsCells : Cells → Option ℕ → List ℕ → Type 0
ReadsCells said (Some n) front = (said ≡ some_cells (take n front)) × (n ≤ length front)
ReadsCells said None front = said ≡ no_cells
