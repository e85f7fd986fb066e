-- The instance on cells: the subgoal's pair form with the cells of a term for each variable, and where those terms
-- stand; and what the functions that write it ask and leave, by name.
use Rattle.std.specs.Prelude.{ℕ, ◌+◌, ◌-◌, ◌≤◌, ◌<◌, true, List, [], ◌∷◌, ◌++◌, ◌≡◌, length, take, get_or}
use Rattle.std.specs.Prelude.{Option, None, Some}
use Rattle.std.proofs.lemmas.List.Edits.{sets}
use Rattle.std.proofs.Math.Seq.{slice}
use Rattle.basis.specs.Choice.{pick}
use Rattle.forms.specs.Cells.{payload, variable, arity_of}
use Rattle.forms.specs.Terms.{Term, pairs, every}
use Rattle.pair_reader.specs.Storing.{terms_at}

-- each of the first m terms starts at its place, and the place after the last is where it ends
abbrev pub StartsAt : List Term → ℕ → List ℕ → Type 0
StartsAt ts m starts = (k : ℕ) → k ≤ m → get_or starts k 0 ≡ length (every pairs (take k ts))

-- a variable has a term, which stands within so many cells
abbrev pub Placed : ℕ → List ℕ → ℕ → Type 0
Placed limit starts c =
    variable c ≡ true
    → (payload c + 1 < length starts) × (get_or starts (payload c) 0 ≤ get_or starts (payload c + 1) 0)
    × (get_or starts (payload c + 1) 0 ≤ limit)

-- so has each variable of the first n cells
abbrev pub AllPlaced : ℕ → List ℕ → ℕ → List ℕ → Type 0
AllPlaced limit starts n cells = (k : ℕ) → k < n → Placed limit starts (get_or cells k 0)

-- how many cells stand for a cell
unfoldable pub width : List ℕ → ℕ → ℕ
width starts c = pick (variable c) (get_or starts (payload c + 1) 0 - get_or starts (payload c) 0) 1

unfoldable pub needed : List ℕ → List ℕ → ℕ
needed starts [] = 0
needed starts (c ∷ cs) = width starts c + needed starts cs

-- what stands for a cell: for variable i the cells of term i
unfoldable pub stands_for : List ℕ → List ℕ → ℕ → List ℕ
stands_for terms starts c =
    pick (variable c) (slice (get_or starts (payload c) 0) (get_or starts (payload c + 1) 0) terms) (c ∷ [])

unfoldable pub instance_cells : List ℕ → List ℕ → List ℕ → List ℕ
instance_cells terms starts [] = []
instance_cells terms starts (c ∷ cs) = stands_for terms starts c ++ instance_cells terms starts cs

-- ---- what is asked and left, function by function

-- the cells of a legal term at most
abbrev pub most_cells : ℕ
most_cells = 256

-- r is the need where there is less room
abbrev pub Missing : (need room : ℕ) → Option ℕ → Type 0
Missing need room r = (need ≤ room → r ≡ None) × (room < need → r ≡ Some need)

-- the first m terms of s are there and end at `end`, and their places fit `starts`
abbrev pub TermsTo : ℕ → List ℕ → ℕ → ℕ → List ℕ → Type 0
TermsTo edition s m end starts =
    (m ≤ length (terms_at (arity_of edition) s 0)) × (m < length starts)
    × (end ≡ length (every pairs (take m (terms_at (arity_of edition) s 0)))) × (end ≤ most_cells)

-- the places stand in b
abbrev pub Noted : ℕ → List ℕ → ℕ → List ℕ → List ℕ → Type 0
Noted edition s m a b = StartsAt (terms_at (arity_of edition) s 0) m b × (length b ≡ length a)

-- the cells of s from `start` up to `end` stand in b from `to` on, and r is the place behind them
abbrev pub PartCopied : List ℕ → ℕ → ℕ → ℕ → ℕ → List ℕ → List ℕ → Type 0
PartCopied s start end to r a b = (r ≡ to + (end - start)) × (b ≡ sets a to (slice start end s))

-- what stands for the cell c is known and fits
abbrev pub Replaceable : List ℕ → List ℕ → ℕ → ℕ → List ℕ → Type 0
Replaceable terms starts c to out =
    Placed (length terms) starts c × (to + length (stands_for terms starts c) ≤ length out)

-- it stands in b from `to` on, and r is the place behind it
abbrev pub Replaces : List ℕ → List ℕ → ℕ → ℕ → ℕ → List ℕ → List ℕ → Type 0
Replaces terms starts c to r a b =
    (r ≡ to + length (stands_for terms starts c)) × (b ≡ sets a to (stands_for terms starts c))

-- the instance of these cells is known and fits
abbrev pub Writable : List ℕ → List ℕ → List ℕ → List ℕ → Type 0
Writable terms starts cells out =
    AllPlaced (length terms) starts (length cells) cells × (length (instance_cells terms starts cells) ≤ length out)

-- it stands in b, and r is how many cells it has
abbrev pub InstanceStands : List ℕ → List ℕ → List ℕ → ℕ → List ℕ → List ℕ → Type 0
InstanceStands terms starts cells r a b =
    (r ≡ length (instance_cells terms starts cells)) × (b ≡ sets a 0 (instance_cells terms starts cells))
