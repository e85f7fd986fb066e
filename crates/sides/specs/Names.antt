-- What the variables in a join's request are held to.
use Rattle.std.specs.Prelude.{ℕ, eqb}
use Rattle.basis.specs.Choice.{pick}

-- the variables of the source on a side: 0 where there is no such side
unfoldable pub variables_of : (m n side : ℕ) → ℕ
variables_of m n side = pick (eqb side 0) m (pick (eqb side 1) n 0)
