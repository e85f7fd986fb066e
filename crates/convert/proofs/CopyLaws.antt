-- Laws of copying cells one by one.
use Prim.Native.Nat.{ℕ, suc, ◌+◌, ◌<◌}
use mathlib.Core.List.{List, [], ◌∷◌, ◌++◌}
use mathlib.Core.Path.{◌≡◌, sym, ◌∙◌}
use native.Mathlib.Omega.{arith}
use native.Mathlib.Numerals.{add-one}
use lib.ListN.{length, take, drop, get_or, set}
use lib.Seq.{drop-cons, set_at, take-suc, append_snoc, length-take-le}

-- what was written grows by a cell
pub grow : (P out : List ℕ) (i x : ℕ) → length P ≡ i → i < length out → set (P ++ drop i out) i x ≡ (P ++ (x ∷ [])) ++ drop (i + 1) out
grow P out i x e h =
    rw (drop-cons out i 0, add-one, set_at P (get_or out i 0) (drop (suc i) out) x i e) (sym (append_snoc P x (drop (suc i) out)))

pub take-grow : (s : List ℕ) (i : ℕ) → i < length s → take (i + 1) s ≡ take i s ++ (get_or s i 0 ∷ [])
take-grow s i h = rw add-one (take-suc s i 0 h)

pub copy_step : (s out₀ out : List ℕ) (i : ℕ) → i < length s → i < length out₀ → out ≡ take i s ++ drop i out₀
    → set out i (get_or s i 0) ≡ take (i + 1) s ++ drop (i + 1) out₀
copy_step s out₀ out i h k q =
    rw q (grow (take i s) out₀ i (get_or s i 0) (length-take-le i s (omega arith)) k ∙ rw (take-grow s i h))
