-- What follows where a test cannot come out the other way.
use Prim.Native.Nat.{ℕ, ◌<◌, ◌≤◌}
use mathlib.Core.Bool.{Bool, true, false}
use mathlib.Core.Path.{◌≡◌, sym, ap, ◌∙◌}
use native.Mathlib.Omega.{arith}
use lib.Dec.{leb, eqb}
use borrow.Author.Tests.{leb-true, leb-false, eqb-true, eqb-false}
use Rattle.basis.proofs.Cases.{by_cases}

pub at_most : (a b : ℕ) → (b < a → ⊥) → a ≤ b
at_most a b n = by_cases (leb a b) (leb-true a b) (λ t. absurd (n (leb-false a b t)))

pub equal : (a b : ℕ) → ((a ≡ b → ⊥) → ⊥) → a ≡ b
equal a b n = by_cases (eqb a b) (eqb-true a b) (λ t. absurd (n (eqb-false a b t)))

-- at most, but not equal
pub strictly : (a b : ℕ) → a ≤ b → (a ≡ b → ⊥) → a < b
strictly a b l n = omega arith

pub true-not-false : {b : Bool} → b ≡ true → false ≡ b → ⊥
true-not-false e f = let z : ◌≡◌ {A = ℕ} 0 1 = cc in omega arith

-- what one value was told to be, twice
pub told : {A : Type 0} {r s t : A} → r ≡ s → r ≡ t → s ≡ t
told e f = sym e ∙ f

-- the same of a function's value, at an equal argument
pub told_at : {A : Type 0} (f : ℕ → A) {r t : A} {x y : ℕ} → r ≡ f x → x ≡ y → r ≡ t → f y ≡ t
told_at f e g h = ap f (sym g) ∙ sym e ∙ h

pub told-twice : {A : Type 0} (f : ℕ → ℕ → A) {r t : A} {x y u v : ℕ} → r ≡ f x u → x ≡ y → u ≡ v → r ≡ t → f y v ≡ t
told-twice f {v = v} e g k h = ap (λ (i : ℕ). f i v) (sym g) ∙ ap (f _) (sym k) ∙ sym e ∙ h
