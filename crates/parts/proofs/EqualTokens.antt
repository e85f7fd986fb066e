-- The tokens of a term as a slice, and two of them compared.
use Prim.Native.Nat.{ℕ, ◌+◌, ◌-◌}
use mathlib.Core.Bool.{false}
use mathlib.Core.List.{List, [], ◌∷◌}
use mathlib.Core.Path.{◌≡◌, refl, sym, ap, ◌∙◌}
use native.Mathlib.Omega.{arith}
use lib.Dec.{eqb}
use lib.ListN.{length, take, drop}
use lib.Pointwise.{pointwise}
use lib.Seq.{length-slice}
use Rattle.std.proofs.lemmas.List.{drop-take}
use Rattle.basis.proofs.Cases.{by_cases}
use Rattle.forms.specs.Compact.{same}
use Rattle.forms.proofs.RoundTrip.{same_true}
use Rattle.parts.specs.Segments.{from, until, Spans, segment}

pub segment-length : (held : List ℕ) (i : ℕ) → Spans held i → length (segment held i) ≡ until held i - from held i
unfolding segment
segment-length held i s = length-slice (from held i) (until held i) held s.within

-- terms of other lengths differ
pub unequal : (outer : List ℕ) (x : ℕ) (inner : List ℕ) (y : ℕ) → Spans outer x → Spans inner y
    → (until outer x - from outer x ≡ until inner y - from inner y → ⊥) → false ≡ same (segment outer x) (segment inner y)
unequal outer x inner y s t n =
    by_cases (same (segment outer x) (segment inner y))
    (λ e. absurd (n (sym (segment-length outer x s) ∙ ap length (same_true (segment outer x) (segment inner y) e) ∙ segment-length inner y t)))
    (λ e. sym e)

pub segment-taken : (held : List ℕ) (i first end : ℕ) → Spans held i → first ≡ from held i → end ≡ until held i
    → take (end - first) (drop first held) ≡ segment held i
unfolding segment
segment-taken held i first end s p q =
    let e : first + (end - first) ≡ end = omega (arith, s.ordered) in
    sym (drop-take first (end - first) held) ∙ ap (λ (n : ℕ). drop first (take n held)) e ∙ rw (p, q)

-- `==` of two slices
pub pointwise-same : (xs ys : List ℕ) → pointwise eqb xs ys ≡ same xs ys
unfolding same
pointwise-same [] [] = refl
pointwise-same [] (y ∷ ys) = refl
pointwise-same (x ∷ xs) [] = refl
pointwise-same (x ∷ xs) (y ∷ ys) = by_cases (eqb x y) (λ e. rw e (pointwise-same xs ys)) (λ e. rw e)
