-- The fields of a line, and the numbers and cells written in them.
use Rattle.std.specs.Prelude.{ℕ, ◌+◌, ◌*◌, ◌-◌, ◌&&◌, List, [], ◌∷◌, eqb, leb, ltb, length}
use Rattle.basis.specs.Choice.{pick}

abbrev pub space : ℕ
space = 32

-- the bases that numbers are written in
abbrev pub decimal : ℕ
decimal = 10

abbrev pub hexadecimal : ℕ
hexadecimal = 16

-- a number has at most so many digits, and a cell exactly so many
abbrev pub number_digits : ℕ
number_digits = 7

abbrev pub cell_digits : ℕ
cell_digits = 8

-- the value of a digit, 0 to 9 (bytes 48 to 57) and a to f (97 to 102); 16 for any other byte
abbrev pub digit_of : ℕ → ℕ
digit_of b = pick (leb 48 b && leb b 57) (b - 48) (pick (leb 97 b && leb b 102) (b - 87) hexadecimal)

-- the first field and the others, where each space ends a field
pub record Fields : Type 0 where
  pub first : List ℕ
  pub others : List (List ℕ)

unfoldable pub fields : List ℕ → Fields
fields [] = record { first = []; others = [] }
fields (b ∷ bs) =
    let r = fields bs in
    pick (eqb b space)
    (record { first = []; others = r.first ∷ r.others })
    (record { first = b ∷ r.first; others = r.others })

-- a number or a list of cells, or none
pub data Number : Type 0 where
  no_number : Number
  some_number : ℕ → Number

pub data Cells : Type 0 where
  no_cells : Cells
  some_cells : List ℕ → Cells

-- digits of a base, behind a value
unfoldable pub value_from : ℕ → ℕ → List ℕ → Number
value_from base n [] = some_number n
value_from base n (b ∷ bs) = pick (ltb (digit_of b) base) (value_from base (base * n + digit_of b) bs) no_number

-- from least to most digits of a base
unfoldable pub numeral : ℕ → ℕ → ℕ → List ℕ → Number
numeral base least most bs = pick (leb least (length bs) && leb (length bs) most) (value_from base 0 bs) no_number

-- the numeral in the first field, if there is one, and the fields behind it
abbrev pub numeral_first : ℕ → ℕ → ℕ → List (List ℕ) → Number
numeral_first base least most [] = no_number
numeral_first base least most (f ∷ fs) = numeral base least most f

abbrev pub behind : List (List ℕ) → List (List ℕ)
behind [] = []
behind (f ∷ fs) = fs

-- a number: 1 to 7 decimal digits
abbrev pub first_number : List (List ℕ) → Number
first_number fs = numeral_first decimal 1 number_digits fs

-- exactly one number
abbrev pub only_number : List (List ℕ) → Number
only_number fs = pick (eqb (length fs) 1) (first_number fs) no_number

abbrev pub cell_before : Number → Cells → Cells
cell_before no_number cs = no_cells
cell_before (some_number n) no_cells = no_cells
cell_before (some_number n) (some_cells cs) = some_cells (n ∷ cs)

-- cells: 8 hexadecimal digits each
unfoldable pub hex_cells : List (List ℕ) → Cells
hex_cells [] = some_cells []
hex_cells (f ∷ fs) = cell_before (numeral hexadecimal cell_digits cell_digits f) (hex_cells fs)
