-- Laws of lists of words: which words they hold, and what adding words to them leaves.
use mathlib.Core.Path.{◌≡◌, refl, sym, ap, subst}
use mathlib.Core.Bool.{Bool, true, false, ◌||◌, or_assoc, or-false, true≢false}
use mathlib.Core.List.{List, [], ◌∷◌, ◌++◌}
use Prim.Native.Nat.{ℕ}
use borrow.Author.Tests.{eq-eqb}
use Rattle.basis.proofs.Cases.{by_cases}
use Rattle.forms.specs.Compact.{same}
use Rattle.forms.proofs.RoundTrip.{same_true}
use Rattle.plain.specs.Words.{Word, has, add, union}

-- ---- tests

pub or_right : (a b : Bool) → (a || b) ≡ true → a ≡ false → b ≡ true
or_right true b e f = absurd (true≢false f)
or_right false b e f = e

pub or-false-both : (a b : Bool) → (a || b) ≡ false → (a ≡ false) × (b ≡ false)
or-false-both true b e = absurd (true≢false e)
or-false-both false b e = (refl, e)

-- ---- equal words

-- a word and one that goes on from it
pub same-grown : (p : Word) (t : ℕ) (u : Word) → same p (p ++ t ∷ u) ≡ false
unfolding same
same-grown [] t u = refl
same-grown (x ∷ p) t u = rw (eq-eqb x x refl) (same-grown p t u)

-- ---- has, add, union

pub has-append : (vs us : List Word) (w : Word) → has (vs ++ us) w ≡ (has vs w || has us w)
unfolding has
has-append [] us w = refl
has-append (v ∷ vs) us w = rw (has-append vs us w) (sym (or_assoc (same v w) (has vs w) (has us w)))

pub add-old : (vs : List Word) (w : Word) → has vs w ≡ true → add vs w ≡ vs
unfolding add
add-old vs w e = rw e

pub add-new : (vs : List Word) (w : Word) → has vs w ≡ false → add vs w ≡ vs ++ (w ∷ [])
unfolding add
add-new vs w e = rw e

pub has-snoc : (vs : List Word) (w u : Word) → has (vs ++ (w ∷ [])) u ≡ (has vs u || same w u)
unfolding has
has-snoc vs w u = rw (has-append vs (w ∷ []) u, or-false (same w u))

or-absorb : (a b : Bool) → (b ≡ true → a ≡ true) → a ≡ (a || b)
or-absorb true b h = refl
or-absorb false true h = h refl
or-absorb false false h = refl

pub has-add : (vs : List Word) (w u : Word) → has (add vs w) u ≡ (has vs u || same w u)
has-add vs w u =
    by_cases (has vs w)
    (λ e. rw (add-old vs w e) (or-absorb (has vs u) (same w u) (λ s. subst (λ (x : Word). has vs x ≡ true) (same_true w u s) e)))
    (λ e. rw (add-new vs w e) (has-snoc vs w u))

pub has-union : (vs ws : List Word) (u : Word) → has (union vs ws) u ≡ (has vs u || has ws u)
unfolding union has
has-union vs [] u = sym (or-false (has vs u))
has-union vs (w ∷ ws) u = rw (has-union (add vs w) ws u, has-add vs w u) (or_assoc (has vs u) (same w u) (has ws u))

-- union's clauses as equations: where union is unfolded, `rw` does not see the first argument of the call that is left
pub union-nil : (vs : List Word) → union vs [] ≡ vs
unfolding union
union-nil vs = refl

pub union-old : (vs : List Word) (w : Word) (ws : List Word) → has vs w ≡ true → union vs (w ∷ ws) ≡ union vs ws
unfolding union
union-old vs w ws e = ap (λ (x : List Word). union x ws) (add-old vs w e)

pub union-new : (vs : List Word) (w : Word) (ws : List Word) → has vs w ≡ false → union vs (w ∷ ws) ≡ union (vs ++ (w ∷ [])) ws
unfolding union
union-new vs w ws e = ap (λ (x : List Word). union x ws) (add-new vs w e)

pub union-append : (vs ws us : List Word) → union vs (ws ++ us) ≡ union (union vs ws) us
unfolding union
union-append vs [] us = refl
union-append vs (w ∷ ws) us = union-append (add vs w) ws us
