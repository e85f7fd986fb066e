-- Laws of the lowest number above i and below n at which f is x.
use mathlib.Core.Path.{◌≡◌, refl, sym, ap, ◌∙◌}
use Prim.Native.Nat.{ℕ, zero, suc, ◌≤◌, ◌<◌, suc-le-suc}
use native.Mathlib.Omega.{arith}
use lib.Dec.{eqb, ltb}
use borrow.Author.Tests.{eqb-true, eqb-false, eq-eqb, ne_eqb, ltb-true, ltb-false, lt-ltb, le-ltb}
use Rattle.basis.proofs.Cases.{by_cases}
use Rattle.plain.specs.Table.{after}

-- the clauses as equations
pub after-old : (f : ℕ → ℕ) (n i x : ℕ) → (after f n i x ≡ 0 → ⊥) → after f (suc n) i x ≡ after f n i x
unfolding after
after-old f n i x h = rw (ne_eqb (after f n i x) 0 h)

pub after-new : (f : ℕ → ℕ) (n i x : ℕ) → after f n i x ≡ 0 → i < n → f n ≡ x → after f (suc n) i x ≡ n
unfolding after
after-new f n i x e h p = rw (e, lt-ltb i n h, p, eq-eqb x x refl)

pub after-other : (f : ℕ → ℕ) (n i x : ℕ) → (f n ≡ x → ⊥) → after f (suc n) i x ≡ after f n i x
unfolding after
after-other f n i x h = by_cases (eqb (after f n i x) 0)
    (λ e. rw (e, ne_eqb (f n) x h) (by_cases (ltb i n) (λ l. rw l (sym (eqb-true _ _ e))) (λ l. rw l (sym (eqb-true _ _ e)))))
    (λ e. rw e)

pub after-low : (f : ℕ → ℕ) (n i x : ℕ) → n ≤ suc i → after f n i x ≡ 0
unfolding after
after-low f zero i x h = refl
after-low f (suc n) i x h = rw (after-low f n i x (omega arith), le-ltb i n (omega arith))

pub after_cong : (f g : ℕ → ℕ) (n i x : ℕ) → ((j : ℕ) → j < n → f j ≡ g j) → after f n i x ≡ after g n i x
unfolding after
after_cong f g zero i x h = refl
after_cong f g (suc n) i x h = rw (after_cong f g n i x (λ j k. h j (omega arith)), h n (omega arith))

-- j is a number above i and below n at which f is x
pub record Follows (f : ℕ → ℕ) (n i x j : ℕ) : Type 0 where
  pub above : i < j
  pub below : j < n
  pub under : f j ≡ x

pub after-found : (f : ℕ → ℕ) (n i x : ℕ) → (after f n i x ≡ 0 → ⊥) → Follows f n i x (after f n i x)
after-found f zero i x h = absurd (h (unfold after in refl))
after-found f (suc n) i x h = by_cases (eqb (after f n i x) 0)
    (λ e. by_cases (ltb i n)
    (λ l. by_cases (eqb (f n) x)
    (λ p. let q : after f (suc n) i x ≡ n = after-new f n i x (eqb-true _ _ e) (ltb-true i n l) (eqb-true _ _ p) in
    rw q (record { above = ltb-true i n l; below = omega arith; under = eqb-true _ _ p }))
    (λ p. absurd (h (after-other f n i x (eqb-false _ _ p) ∙ eqb-true _ _ e))))
    (λ l. absurd (h (after-low f (suc n) i x (suc-le-suc (ltb-false i n l))))))
    (λ e. let r = after-found f n i x (eqb-false _ _ e) in
    rw (after-old f n i x (eqb-false _ _ e)) (record { above = r.above; below = omega (arith, r.below); under = r.under }))

-- what is found is the lowest
pub after-least : (f : ℕ → ℕ) (n i x j : ℕ) → Follows f n i x j → (after f n i x ≡ 0 → ⊥) × (after f n i x ≤ j)
after-least f zero i x j c = absurd (omega (arith, c.below))
after-least f (suc n) i x j c = by_cases (eqb (after f n i x) 0)
    (λ e. by_cases (eqb j n)
    (λ q. let j=n : j ≡ n = eqb-true j n q in
    let p : f n ≡ x = rw (← j=n) c.under in
    let q : after f (suc n) i x ≡ n = after-new f n i x (eqb-true _ _ e) (omega (arith, c.above)) p in
    rw q (λ z. omega (arith, c.above), omega arith))
    (λ q. let below : j < n = lower j n c.below (eqb-false j n q) in
    absurd ((after-least f n i x j (record { above = c.above; below = below; under = c.under })).0 (eqb-true _ _ e))))
    (λ e. rw (after-old f n i x (eqb-false _ _ e)) (
      eqb-false _ _ e,
      by_cases (eqb j n)
          (λ q. let j=n : j ≡ n = eqb-true j n q in
          let r = after-found f n i x (eqb-false _ _ e) in omega (arith, r.below))
          (λ q. (after-least f n i x j (record { above = c.above; below = lower j n c.below (eqb-false j n q); under = c.under })).1),
    ))
  where
    lower : (j n : ℕ) → j < suc n → (j ≡ n → ⊥) → j < n
    lower j n h k = omega arith

-- a number at which f is something else is passed over
pub after-skip : (f : ℕ → ℕ) (n i x : ℕ) → (f (suc i) ≡ x → ⊥) → after f n i x ≡ after f n (suc i) x
unfolding after
after-skip f zero i x h = refl
after-skip f (suc n) i x h = rw (after-skip f n i x h) (by_cases (eqb (f n) x)
    (λ e. by_cases (ltb i n)
    (λ l. rw (e, l, lt-ltb (suc i) n (further (ltb-true i n l) (eqb-true (f n) x e))))
    (λ l. rw (e, l, le-ltb (suc i) n (omega (arith, ltb-false i n l)))))
    (λ e. by_cases (ltb i n) (λ l. by_cases (ltb (suc i) n) (λ k. rw (e, l, k)) (λ k. rw (e, l, k))) (λ l. by_cases (ltb (suc i) n) (λ k. rw (e, l, k)) (λ k. rw (e, l, k)))))
  where
    further : i < n → f n ≡ x → suc i < n
    further l e = by_cases (eqb (suc i) n) (λ z. absurd (h (ap f (eqb-true (suc i) n z) ∙ e))) (λ z. let k : suc i ≡ n → ⊥ = eqb-false (suc i) n z in strict (suc i) n l k)
      where
        strict : (a b : ℕ) → a ≤ b → (a ≡ b → ⊥) → a < b
        strict a b l k = omega arith
