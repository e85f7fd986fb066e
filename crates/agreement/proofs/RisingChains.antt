-- Chains of numbers that rise: a chain that reaches every number of its owner lists them in order.
use Prim.Native.Nat.{ℕ, zero, suc, ◌≤◌, ◌<◌}
use mathlib.Core.Path.{◌≡◌, refl, sym, ◌∙◌, subst}
use native.Mathlib.Omega.{arith}
use lib.Dec.{eqb, ltb}
use borrow.Author.Tests.{eqb-true, eqb-false, ltb-true}
use Rattle.basis.proofs.Cases.{by_cases}
use Rattle.plain.specs.Table.{after}
use Rattle.plain.proofs.AfterLaws.{Follows, after-found, after-least}

-- i is c, or comes after it by next
pub data InChain (next : ℕ → ℕ) : ℕ → ℕ → Type 0 where
  here : {c i : ℕ} → c ≡ i → InChain next c i
  there : {c i : ℕ} → (next c ≡ 0 → ⊥) → InChain next (next c) i → InChain next c i

-- where f is x, next rises and stays so, below n
pub record Rises (f next : ℕ → ℕ) (n x : ℕ) : Type 0 where
  pub rises : (i : ℕ) → i < n → f i ≡ x → (next i ≡ 0 → ⊥) → Follows f n i x (next i)

module _ (f next : ℕ → ℕ) (n x : ℕ) (r : Rises f next n x) where
  pub chain-most : (c i : ℕ) → c < n → f c ≡ x → InChain next c i → c ≤ i
  chain-most c i h e (here q) = omega arith
  chain-most c i h e (there z q) = let a = r.rises c h e z in let b = chain-most (next c) i a.below a.under q in omega (arith, a.above)

  -- of two in a chain the higher comes after the lower
  chain-later : (c i j : ℕ) → c < n → f c ≡ x → InChain next c i → InChain next c j → i < j → (next i ≡ 0 → ⊥) × InChain next (next i) j
  chain-later c i j h e (here q) (here p) l = absurd (omega arith)
  chain-later c i j h e (here q) (there z p) l = (subst (λ (k : ℕ). next k ≡ 0 → ⊥) q z, subst (λ (k : ℕ). InChain next (next k) j) q p)
  chain-later c i j h e (there z q) (here p) l =
      let a = r.rises c h e z in let b = chain-most (next c) i a.below a.under q in absurd (omega (arith, a.above))
  chain-later c i j h e (there z q) (there y p) l = let a = r.rises c h e z in chain-later (next c) i j a.below a.under q p l

  -- the first, where the chain from it reaches all
  pub chain_first : (low c : ℕ) → ((c ≡ 0 → ⊥) → Follows f n low x c) → ((i : ℕ) → Follows f n low x i → (c ≡ 0 → ⊥) × InChain next c i) → c ≡ after f n low x
  chain_first low c own all = by_cases (eqb (after f n low x) 0)
      (λ z. by_cases (eqb c 0)
      (λ y. eqb-true c 0 y ∙ sym (eqb-true _ _ z))
      (λ y. absurd ((after-least f n low x c (own (eqb-false c 0 y))).0 (eqb-true _ _ z))))
      (λ z.
      let a = after-found f n low x (eqb-false _ _ z) in
      let b = all (after f n low x) a in
      let o = own b.0 in
      let p = chain-most c (after f n low x) o.below o.under b.1 in
      let q = (after-least f n low x c o).1 in
      omega arith)

  -- what comes next, where the chain from c reaches all that come later
  pub chain_next : (c i : ℕ) → c < n → f c ≡ x → InChain next c i → i < n → f i ≡ x → ((j : ℕ) → Follows f n i x j → InChain next c j) → next i ≡ after f n i x
  chain_next c i h e p k u all = chain_first i (next i) (λ z. r.rises i k u z) (λ j a. chain-later c i j h e p (all j a) a.above)

-- the lowest number above i reads the values above i alone
pub after-above : (f g : ℕ → ℕ) (n i x : ℕ) → ((j : ℕ) → i < j → j < n → f j ≡ g j) → after f n i x ≡ after g n i x
unfolding after
after-above f g zero i x h = refl
after-above f g (suc n) i x h = by_cases (ltb i n)
    (λ e. rw (after-above f g n i x (λ j k l. h j k (omega arith)), e, h n (ltb-true i n e) (omega arith)))
    (λ e. rw (after-above f g n i x (λ j k l. h j k (omega arith)), e))
