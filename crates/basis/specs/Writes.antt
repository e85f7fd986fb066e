-- Cells written one after another.
use Rattle.std.specs.Prelude.{ℕ, List, [], ◌∷◌, set}

-- a value put at a place
pub data Write : Type 0 where
  put : ℕ → ℕ → Write

-- the cells after the writes, in order
abbrev pub writes : List Write → List ℕ → List ℕ
writes [] s = s
writes (put i v ∷ ws) s = writes ws (set s i v)
