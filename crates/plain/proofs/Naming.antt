-- A call that may name a variable least: it is the call that names none, or 21.
use Prim.Native.Nat.{ℕ}
use mathlib.Core.Path.{◌≡◌, refl}
use lib.Dec.{eqb}
use Rattle.basis.proofs.Cases.{by_cases}
use Rattle.plain.specs.Coding.{Reading, refused, accepted, naming}

-- what holds of what was read and of 21 holds of it with a name
pub naming-cases : (P : Reading → Type 0) (x : ℕ) (r : Reading) → P r → P (refused 21) → P (naming x r)
unfolding naming
naming-cases P x (refused k) p q = p
naming-cases P x (accepted w m) p q = by_cases (eqb x 0) (λ e. rw e p) (λ e. rw e q)

-- none is named
pub naming-none : (r : Reading) → naming 0 r ≡ r
unfolding naming
naming-none (refused k) = refl
naming-none (accepted w m) = refl
