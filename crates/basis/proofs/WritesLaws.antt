-- What stands at a place after writes: the frame and the cells written.
use Prim.Native.Nat.{ℕ, ◌<◌}
use mathlib.Core.Path.{◌≡◌, refl, ◌∙◌}
use mathlib.Core.List.{List, [], ◌∷◌}
use lib.ListN.{length, get_or, set, length-set}
use lib.Seq.{get_or-set_same, get_or-set_other}
use Rattle.basis.specs.Writes.{Write, put, writes}

pub length-writes : (ws : List Write) (s : List ℕ) → length (writes ws s) ≡ length s
length-writes [] s = refl
length-writes (put i v ∷ ws) s = length-writes ws (set s i v) ∙ length-set s i v

-- no write is at the place
abbrev pub Apart : ℕ → List Write → Type 0
Apart j [] = Unit
Apart j (put i v ∷ ws) = (j ≡ i → ⊥) × Apart j ws

pub writes-frame : (ws : List Write) (s : List ℕ) (j : ℕ) → Apart j ws → get_or (writes ws s) j 0 ≡ get_or s j 0
writes-frame [] s j a = refl
writes-frame (put i v ∷ ws) s j a = writes-frame ws (set s i v) j a.1 ∙ get_or-set_other s i j v 0 a.0

-- the first write stands where no later one is at its place
pub writes-first : (i v : ℕ) (ws : List Write) (s : List ℕ) → i < length s → Apart i ws → get_or (writes (put i v ∷ ws) s) i 0 ≡ v
writes-first i v ws s h a = writes-frame ws (set s i v) i a ∙ get_or-set_same s i v 0 h
