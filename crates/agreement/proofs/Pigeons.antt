-- Lists of different words with the same members are equally long.
use Prim.Native.Nat.{ℕ, suc, ◌≤◌, suc-le-suc}
use mathlib.Core.Path.{◌≡◌, refl, sym, ap, ◌∙◌, subst}
use mathlib.Core.Bool.{true, false, true≢false, false≢true, or-true}
use mathlib.Core.List.{List, [], ◌∷◌, ◌++◌}
use native.Mathlib.Omega.{arith}
use lib.ListN.{length}
use Rattle.basis.proofs.Cases.{by_cases}
use Rattle.forms.specs.Compact.{same}
use Rattle.forms.proofs.RoundTrip.{same_true, same_self}
use Rattle.plain.specs.Words.{Word, has}
use Rattle.plain.proofs.WordLaws.{or_right, has-append}
use Rattle.plain.proofs.Keys.{has-place, Different, Fresh}

-- the list without its first x
record Without (P : List Word) (x : Word) : Type 0 where
  rest : List Word
  count : length P ≡ suc (length rest)
  keeps : (y : Word) → has P y ≡ true → same x y ≡ false → has rest y ≡ true

without : (P : List Word) (x : Word) → has P x ≡ true → Without P x
unfolding has
without [] x e = absurd (false≢true e)
without (v ∷ P) x e = by_cases (same v x)
    (λ s. record {
      rest = P;
      count = refl;
      keeps = λ y h n. or_right (same v y) (has P y) h (subst (λ (z : Word). same z y ≡ false) (sym (same_true v x s)) n);
    })
    (λ s. let r = without P x (or_right (same v x) (has P x) e s) in
    record {
      rest = v ∷ r.rest;
      count = ap suc r.count;
      keeps = λ y h n. by_cases (same v y) (λ a. rw a) (λ a. rw (r.keeps y (or_right (same v y) (has P y) h a) n, or-true (same v y)));
    })

suc-same : (i j : ℕ) → suc i ≡ suc j → i ≡ j
suc-same i j e = omega arith

tail-different : (x : Word) (K : List Word) → Different (x ∷ K) → Different K
tail-different x K d i j h k e = suc-same i j (d (suc i) (suc j) (suc-le-suc h) (suc-le-suc k) e)

head-absent : (x : Word) (K : List Word) → Different (x ∷ K) → has K x ≡ false
head-absent x K d = by_cases (has K x)
    (λ e. let p = has-place K x e in let z : 0 ≡ suc p.0 = d 0 (suc p.0) (omega arith) (suc-le-suc p.1) (sym p.2) in absurd (omega arith))
    (λ e. e)

pub different-fresh : (K : List Word) → Different K → Fresh K
unfolding Fresh
different-fresh [] d = tt
different-fresh (x ∷ K) d = (head-absent x K d, different-fresh K (tail-different x K d))

pub no-more : (K P : List Word) → Fresh K → ((x : Word) → has K x ≡ true → has P x ≡ true) → length K ≤ length P
unfolding has Fresh
no-more [] P d f = omega arith
no-more (x ∷ K) P d f =
    let r = without P x (f x (rw (same_self x))) in
    let s = no-more K r.rest d.1 (λ y h. r.keeps y (f y (rw (h, or-true (same x y)))) (by_cases (same x y)
    (λ a. absurd (true≢false (sym h ∙ subst (λ (z : Word). has K z ≡ false) (same_true x y a) d.0)))
    (λ a. a))) in
    omega (arith, r.count)

pub same_count : (K P : List Word) → Different K → Different P → ((x : Word) → has K x ≡ has P x) → length K ≡ length P
same_count K P d e f =
    let a = no-more K P (different-fresh K d) (λ x h. sym (f x) ∙ h) in
    let b = no-more P K (different-fresh P e) (λ x h. f x ∙ h) in
    omega arith

pub fresh-append : (K L : List Word) → Fresh K → Fresh L → ((x : Word) → has K x ≡ true → has L x ≡ false) → Fresh (K ++ L)
unfolding Fresh has
fresh-append [] L f g h = g
fresh-append (v ∷ K) L f g h =
    (has-append K L v ∙ rw f.0 (h v (rw (same_self v))), fresh-append K L f.1 g (λ x e. h x (rw (e, or-true (same v x)))))

pub fresh-cons : (v : Word) (K : List Word) → has K v ≡ false → Fresh K → Fresh (v ∷ K)
unfolding Fresh
fresh-cons v K e f = (e, f)
