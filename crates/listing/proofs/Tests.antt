-- Tests joined by `pick`, and tests over the cells of a list.
use Prim.Native.Nat.{ℕ}
use mathlib.Core.Bool.{Bool, true, false}
use mathlib.Core.List.{List, [], ◌∷◌, Memᴰ}
use mathlib.Core.Path.{◌≡◌, refl, sym, ap, ◌∙◌}
use Rattle.basis.specs.Choice.{pick}
use Rattle.basis.proofs.Tests.{true-not-false}
use Rattle.listing.specs.Steps.{any_cell}

pub both : (a b : Bool) → pick a b false ≡ true → (a ≡ true) × (b ≡ true)
both true b h = (refl, h)
both false b h = absurd (true-not-false refl h)

pub both_hold : {a b : Bool} → a ≡ true → b ≡ true → pick a b false ≡ true
both_hold e f = rw (e, f)

-- two tests that hold together are one
pub same_test : (a b : Bool) → (a ≡ true → b ≡ true) → (b ≡ true → a ≡ true) → a ≡ b
same_test true true f g = refl
same_test true false f g = sym (f refl)
same_test false true f g = g refl
same_test false false f g = refl

-- a cell of the list that passes
pub some-cell : (test : ℕ → Bool) (cs : List ℕ) → any_cell test cs ≡ true → (c : ℕ) × Memᴰ c cs × (test c ≡ true)
unfolding any_cell
some-cell test [] h = absurd (true-not-false refl h)
some-cell test (c ∷ cs) h = go (test c) refl h (λ g. some-cell test cs g)
  where
    go : (b : Bool) → test c ≡ b → pick b true (any_cell test cs) ≡ true
        → (any_cell test cs ≡ true → (d : ℕ) × Memᴰ d cs × (test d ≡ true))
        → (d : ℕ) × Memᴰ d (c ∷ cs) × (test d ≡ true)
    go true e g f = (c, Memᴰ.head refl, e)
    go false e g f = let r = f g in (r.0, Memᴰ.tail r.1, r.2)

pub cell-some : (test : ℕ → Bool) {c : ℕ} {cs : List ℕ} → Memᴰ c cs → test c ≡ true → any_cell test cs ≡ true
unfolding any_cell
cell-some test (Memᴰ.head e) h = rw (ap test (sym e) ∙ h)
cell-some test (Memᴰ.tail {x} {xs} m) h = go (test x) (cell-some test m h)
  where
    go : (b : Bool) → any_cell test xs ≡ true → pick b true (any_cell test xs) ≡ true
    go true g = refl
    go false g = g

-- what a value was told to be, and what a test says of it
pub refuted : {r s : Bool} → r ≡ s → r ≡ false → s ≡ false
refuted e h = sym e ∙ h

pub confirmed : {r s : Bool} → r ≡ s → r ≡ true → s ≡ true
confirmed e h = sym e ∙ h
