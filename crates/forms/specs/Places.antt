-- Where a reader stands.
use Rattle.std.specs.Prelude.{ℕ}
use Rattle.forms.specs.declared.Place.{Place}

-- a place by its numbers
abbrev pub placed : (at to count : ℕ) → Place
placed at to count = record { at = at; to = to; count = count }
