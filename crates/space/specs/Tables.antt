-- A table that was opened: what its header says, or the refusal.
use Rattle.std.specs.Prelude.{ℕ, ◌≡◌, List, Result, Ok, Err}
use Rattle.basis.specs.declared.refusals.Refusal.{Refusal}
use Rattle.space.specs.Heading.{Header, space_header}
use Rattle.space.specs.declared.tables.Table.{Table}

-- the same cells, under the header that they have
abbrev pub Opened : List ℕ → Result Table Refusal → Type 0
Opened s (Ok t) = (t.cells.now ≡ s) × (◌≡◌ {A = Header} (Ok t.head) (space_header s))
Opened s (Err r) = ◌≡◌ {A = Header} (Err r) (space_header s)
