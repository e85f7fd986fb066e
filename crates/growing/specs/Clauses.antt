-- What growing a table in its place answers and leaves.
use Rattle.std.specs.Prelude.{ℕ, ◌≡◌, true, List, Ok}
use Rattle.space.specs.Layout.{sizes_of}
use Rattle.space.specs.Heading.{space_header}
use Rattle.space.specs.Fresh.{fresh_fits, FreshAnswer}
use Rattle.space.specs.declared.Head.{Head}
use Rattle.growing.specs.Growing.{enough, grow_reply, grow_space}

abbrev pub GrowsInto : (n f a : ℕ) → List ℕ → FreshAnswer → List ℕ → Type 0
GrowsInto n f a before r after = (r ≡ grow_reply n f a before) × (after ≡ grow_space n f a before)

-- what is known once growing is not refused
abbrev pub Grows : (n f a : ℕ) → Head → List ℕ → Type 0
Grows n f a h cs =
    (Ok h ≡ space_header cs) × (fresh_fits (sizes_of h.edition) n f a cs ≡ true) × (enough n f a h ≡ true)
