-- Cells as little-endian bytes, four to a cell.
use Rattle.std.specs.Prelude.{ℕ, ◌+◌, ◌*◌, ◌^◌, ◌/◌, ◌%◌, List, [], ◌∷◌}

-- the cell of four bytes, the lowest first
abbrev pub cell_of : ℕ → ℕ → ℕ → ℕ → ℕ
cell_of b0 b1 b2 b3 = b0 + 2 ^ 8 * b1 + 2 ^ 16 * b2 + 2 ^ 24 * b3

-- the cells of bytes; those past the last whole cell do not count
unfoldable pub cells_of : List ℕ → List ℕ
cells_of [] = []
cells_of (b0 ∷ []) = []
cells_of (b0 ∷ b1 ∷ []) = []
cells_of (b0 ∷ b1 ∷ b2 ∷ []) = []
cells_of (b0 ∷ b1 ∷ b2 ∷ b3 ∷ bytes) = cell_of b0 b1 b2 b3 ∷ cells_of bytes

-- the bytes of cells; a cell is below 2^32, so its highest byte is what is left of it
unfoldable pub bytes_of : List ℕ → List ℕ
bytes_of [] = []
bytes_of (c ∷ cells) = c % 2 ^ 8 ∷ c / 2 ^ 8 % 2 ^ 8 ∷ c / 2 ^ 16 % 2 ^ 8 ∷ c / 2 ^ 24 ∷ bytes_of cells
