-- A pass over records by number: those up to one pass, or one fails.
use Prim.Native.Nat.{ℕ, zero, suc, ◌+◌, ◌<◌}
use mathlib.Core.Path.{◌≡◌, refl, sym, ap, ◌∙◌}
use mathlib.Core.Bool.{Bool, true, false}
use native.Mathlib.Omega.{arith}
use native.Mathlib.Numerals.{add-one}
use lib.Dec.{eqb}
use borrow.Author.Tests.{eqb-true, eqb-false}
use Rattle.basis.proofs.Cases.{by_cases}
use Rattle.agreement.specs.Whole.{every_below}

pub pass-begin : (test : ℕ → Bool) → every_below test 0 ≡ true
unfolding every_below
pass-begin test = refl

pub pass_on : (test : ℕ → Bool) (i : ℕ) → every_below test i ≡ true → test i ≡ true → every_below test (i + 1) ≡ true
pass_on test i e q = rw add-one (unfold every_below in rw (e, q))

pub pass-fails : (test : ℕ → Bool) (n i : ℕ) → i < n → test i ≡ false → every_below test n ≡ false
unfolding every_below
pass-fails test zero i h e = absurd (omega arith)
pass-fails test (suc n) i h e = by_cases (eqb i n)
    (λ q. let z : test n ≡ false = ap test (sym (eqb-true i n q)) ∙ e in by_cases (every_below test n) (λ p. rw (p, z)) (λ p. rw p))
    (λ q. let z : i ≡ n → ⊥ = eqb-false i n q in rw (pass-fails test n i (omega arith) e))

pub pass-failed : (test : ℕ → Bool) (n i : ℕ) → i < n → test i ≡ false → false ≡ every_below test n
pass-failed test n i h e = sym (pass-fails test n i h e)

pub passed : (test : ℕ → Bool) (n i : ℕ) → i ≡ n → every_below test i ≡ true → true ≡ every_below test n
passed test n i z e = sym (rw z at e)
