-- The measure of a walk along a chain of answers: each number is above the one before it, and none is above the count.
use Prim.Native.Nat.{ℕ, ◌+◌, ◌-◌, ◌≤◌, ◌<◌}
use mathlib.Core.Path.{◌≡◌}
use native.Mathlib.Omega.{arith}
use lib.Dec.{eqb}
use borrow.Author.Tests.{ne_eqb, eqb-false}
use Rattle.basis.specs.Choice.{pick}
use Rattle.basis.proofs.Cases.{by_cases}

-- answers from a on, at most
unfoldable pub ahead : ℕ → ℕ → ℕ
ahead answers a = pick (eqb a 0) 0 (answers + 1 - a)

pub ahead-less : (answers a next : ℕ) → (a ≡ 0 → ⊥) → a ≤ answers → ((next ≡ 0 → ⊥) → a < next) → ahead answers next < ahead answers a
unfolding ahead
ahead-less answers a next z l r =
    by_cases (eqb next 0)
    (λ e. rw (e, ne_eqb a 0 z) (omega arith))
    (λ e. rw (e, ne_eqb a 0 z) (omega (arith, r (eqb-false next 0 e))))
