-- One form against another: what they share, and whether they are equal.
use mathlib.Core.Path.{◌≡◌, refl, sym, ap, ◌∙◌}
use mathlib.Core.Bool.{Bool, true, false, ◌||◌, false≢true}
use mathlib.Core.List.{List, [], ◌∷◌}
use Prim.Native.Nat.{ℕ, suc, ◌≤◌, ◌<◌, max}
use native.Mathlib.Omega.{arith}
use lib.Dec.{eqb}
use lib.ListN.{length}
use borrow.Author.Tests.{eq-eqb, ne_eqb, eqb-true, eqb-false}
use Rattle.basis.proofs.Cases.{by_cases}
use Rattle.basis.proofs.Tests.{strictly}
use Rattle.forms.specs.Compact.{same}
use Rattle.plain.specs.Words.{Word, common, most, has}
use Rattle.plain.proofs.LongestShared.{most-le}
use Rattle.sides.specs.declared.Earlier.{Earlier}
use Rattle.sides.specs.Searches.{all_shared, MeetsOneMore}

pub shared-all : (k n m : ℕ) → k ≡ n → eqb n m ≡ all_shared k n m
unfolding all_shared
shared-all k n m e = rw (eq-eqb k n e)

pub shared-less : (k n m : ℕ) → (k ≡ n → ⊥) → false ≡ all_shared k n m
unfolding all_shared
shared-less k n m e = rw (ne_eqb k n e)

most-cons : (v : Word) (before : List Word) (w : Word) → most (v ∷ before) w ≡ max (common v w) (most before w)
unfolding most
most-cons v before w = refl

pub has-cons : (v : Word) (before : List Word) (w : Word) → has (v ∷ before) w ≡ (same v w || has before w)
unfolding has
has-cons v before w = refl

-- two forms are equal where they share all tokens of both
pub common-most : (v w : Word) → (common v w ≤ length v) × (common v w ≤ length w)
unfolding common
common-most [] w = (omega arith, omega arith)
common-most (x ∷ v) [] = (omega arith, omega arith)
common-most (x ∷ v) (y ∷ w) = by_cases (eqb x y)
    (λ e. rw e (omega (arith, (common-most v w).0), omega (arith, (common-most v w).1)))
    (λ e. rw e (omega arith, omega arith))

pub same_whole : (v w : Word) → common v w ≡ length v → length v ≡ length w → same v w ≡ true
unfolding common same
same_whole [] [] e l = refl
same_whole [] (y ∷ w) e l = absurd (omega arith)
same_whole (x ∷ v) [] e l = absurd (omega arith)
same_whole (x ∷ v) (y ∷ w) e l = by_cases (eqb x y)
    (λ q. rw q (same_whole v w (omega (arith, rw q at e)) (omega arith)))
    (λ q. absurd (omega (arith, rw q at e)))

pub same-less : (v w : Word) → common v w < length v → same v w ≡ false
unfolding common same
same-less [] w l = absurd (omega arith)
same-less (x ∷ v) [] l = refl
same-less (x ∷ v) (y ∷ w) l = by_cases (eqb x y)
    (λ q. rw q (same-less v w (omega (arith, rw q at l))))
    (λ q. rw q refl)

pub same-longer : (v w : Word) → (length v ≡ length w → ⊥) → same v w ≡ false
unfolding same
same-longer [] [] n = absurd (n refl)
same-longer [] (y ∷ w) n = refl
same-longer (x ∷ v) [] n = refl
same-longer (x ∷ v) (y ∷ w) n = by_cases (eqb x y)
    (λ q. rw q (same-longer v w (λ e. n (ap suc e))))
    (λ q. rw q refl)

pub shared_same : (v w : Word) → all_shared (common v w) (length v) (length w) ≡ same v w
unfolding all_shared
shared_same v w = by_cases (eqb (common v w) (length v))
    (λ e. by_cases (eqb (length v) (length w))
    (λ l. rw (e, l) (sym (same_whole v w (eqb-true _ _ e) (eqb-true _ _ l))))
    (λ l. rw (e, l) (sym (same-longer v w (eqb-false _ _ l)))))
    (λ e. rw e (sym (same-less v w (strictly (common v w) (length v) (common-most v w).0 (eqb-false _ _ e)))))

same-all : (v w : Word) → same v w ≡ true → common v w ≡ length w
unfolding common same
same-all [] [] e = refl
same-all [] (y ∷ w) e = absurd (false≢true e)
same-all (x ∷ v) [] e = absurd (false≢true e)
same-all (x ∷ v) (y ∷ w) e = by_cases (eqb x y)
    (λ q. rw q (ap suc (same-all v w (rw q at e))))
    (λ q. absurd (false≢true (rw q at e)))

has-none : (w : Word) → has [] w ≡ false
unfolding has
has-none w = refl

-- a form among those before it shares all its tokens
pub held_whole : (before : List Word) (w : Word) → has before w ≡ true → most before w ≡ length w
held_whole before w h = let m = most-le before w in let k = at_least before h in omega arith
  where
    at_least : (vs : List Word) → has vs w ≡ true → length w ≤ most vs w
    at_least [] e = absurd (false≢true (sym (has-none w) ∙ e))
    at_least (v ∷ vs) e = by_cases (same v w)
        (λ q. omega (arith, most-cons v vs w, same-all v w q))
        (λ q. omega (arith, most-cons v vs w, at_least vs (sym (ap (λ (b : Bool). b || has vs w) q) ∙ sym (has-cons v vs w) ∙ e)))

-- what a form shares with one more before it
pub meets : (e : Earlier) (v w : Word) (b : Earlier) → b.shared ≡ max (common v w) e.shared → (q : Bool) → q ≡ all_shared (common v w) (length v) (length w) → b.held ≡ (q || e.held) → MeetsOneMore e v w b
meets e v w b s q p h = λ before a d. (
  s ∙ ap (max (common v w)) a ∙ sym (most-cons v before w),
  h ∙ ap (λ (k : Bool). k || e.held) (p ∙ shared_same v w) ∙ ap (λ (k : Bool). same v w || k) d ∙ sym (has-cons v before w),
)
