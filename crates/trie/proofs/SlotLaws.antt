-- A power of two has one binary digit that is set, and its remainder is a mask; how a number comes into a slot.
use Rattle.std.proofs.Common.{◌≡◌, ℕ, zero, suc, ◌+◌, ◌-◌, ◌*◌, ◌/◌, ◌%◌, ◌^◌, ◌<◌, ◌≤◌, Bool, true, false, eqb}
use Rattle.std.proofs.Common.{List, length, get_or, set, sym, refl, ap, ◌∙◌, mod-lt, mod-eq_of_lt, pow-suc, div-add-mod', arith, eqb-true, eq-eqb, ne_eqb}
use native.Mathlib.Nat.{mod_self}
use lib.Bits.{bit_and, and_mask}
use lib.Count.{ones, ones_step, ones_cat}
use borrow.Author.Tests.{eqb-false}
use Rattle.basis.proofs.Cases.{by_cases}
use Rattle.basis.specs.Choice.{pick}
use Rattle.trie.specs.Index.{power_below, power_of_two, slot_of, slot_after, insert_from}

-- n is a power of two
abbrev pub Power : ℕ → Type 0
Power n = (k : ℕ) × (n ≡ 2 ^ k)

below-is : (k n : ℕ) → power_below k n ≡ true → Power n
unfolding power_below
below-is zero n e = let z : ◌≡◌ {A = Bool} false true = e in absurd (let w : ◌≡◌ {A = ℕ} 0 1 = cc in omega arith)
below-is (suc k) n e = by_cases (eqb n (2 ^ k))
    (λ a. (k, eqb-true _ _ a))
    (λ a. below-is k n (rw a at e))

pub power-is : (n : ℕ) → power_of_two n ≡ true → Power n
power-is n e = below-is n n e

below-has : (k j n : ℕ) → j < k → n ≡ 2 ^ j → power_below k n ≡ true
unfolding power_below
below-has zero j n h e = absurd (omega arith)
below-has (suc k) j n h e = by_cases (eqb n (2 ^ k))
    (λ a. rw a)
    (λ a. rw a (below-has k j n (less (λ z. eqb-false _ _ a (e ∙ ap (λ (i : ℕ). 2 ^ i) z))) e))
  where
    less : (j ≡ k → ⊥) → j < k
    less z = omega arith

exponent-less : (j : ℕ) → j < 2 ^ j
exponent-less zero = omega arith
exponent-less (suc j) = let h = exponent-less j in rw (pow-suc 2 j) (omega arith)

pub power-true : (n : ℕ) → Power n → power_of_two n ≡ true
power-true n (j, e) = below-has n j n (rw e (exponent-less j)) e

-- ---- by the digits that are set

half-least : (n : ℕ) → (n / 2 * 2 + n % 2 ≡ n) × (n % 2 < 2)
half-least n = (div-add-mod' n 2, mod-lt n (omega arith))

digits-none : ones 0 ≡ 0
unfolding ones
digits-none = refl

digits-one : ones 1 ≡ 1
unfolding ones
digits-one = refl

no-digits : (k n : ℕ) → n ≤ k → ones n ≡ 0 → n ≡ 0
no-digits zero n h e = omega arith
no-digits (suc k) n h e =
    let a = half-least n in
    let b : n % 2 + ones (n / 2) ≡ 0 = sym (ones_step n) ∙ e in
    by_cases (eqb n 0) (λ z. eqb-true _ _ z) (λ z.
    let y : n ≡ 0 → ⊥ = eqb-false _ _ z in
    let c : n / 2 ≡ 0 = no-digits k (n / 2) (omega arith) (omega arith) in
    omega arith)

one-digit : (k n : ℕ) → n ≤ k → ones n ≡ 1 → Power n
one-digit zero n h e = let f : ones n ≡ 0 = ap ones (none n h) ∙ digits-none in absurd (omega arith)
  where
    none : (i : ℕ) → i ≤ 0 → i ≡ 0
    none i l = omega arith
one-digit (suc k) n h e =
    let a = half-least n in
    let b : n % 2 + ones (n / 2) ≡ 1 = sym (ones_step n) ∙ e in
    by_cases (eqb (n % 2) 0)
    (λ z. let y : n % 2 ≡ 0 = eqb-true _ _ z in
    let nz : n / 2 < n = smaller a y b in
    let p = one-digit k (n / 2) (omega arith) (omega arith) in
    let q = p.1 in
    (suc p.0, rw (pow-suc 2 p.0) (omega arith)))
    (λ z. let y : n % 2 ≡ 0 → ⊥ = eqb-false _ _ z in
    let c : n / 2 ≡ 0 = no-digits (n / 2) (n / 2) (omega arith) (omega arith) in
    (0, omega arith))
  where
    smaller : (n / 2 * 2 + n % 2 ≡ n) × (n % 2 < 2) → n % 2 ≡ 0 → n % 2 + ones (n / 2) ≡ 1 → n / 2 < n
    smaller a y b = by_cases (eqb (n / 2) 0)
        (λ z. let w = eqb-true _ _ z in let f : ones (n / 2) ≡ 0 = ap ones w ∙ digits-none in absurd (omega arith))
        (λ z. let w : n / 2 ≡ 0 → ⊥ = eqb-false _ _ z in omega arith)

power-digit : (n : ℕ) → Power n → ones n ≡ 1
power-digit n (j, e) =
    let a : ones (1 * 2 ^ j + 0) ≡ ones 1 + ones 0 = ones_cat j 1 0 (let h = exponent-less j in omega arith) in
    let b : n ≡ 1 * 2 ^ j + 0 = omega arith in
    ap ones b ∙ a ∙ rw (digits-one, digits-none)

pub digit-power : (n : ℕ) → eqb (ones n) 1 ≡ power_of_two n
digit-power n = by_cases (eqb (ones n) 1)
    (λ a. a ∙ sym (power-true n (one-digit n n (omega arith) (eqb-true _ _ a))))
    (λ a. by_cases (power_of_two n)
    (λ b. absurd (eqb-false _ _ a (power-digit n (power-is n b))))
    (λ b. a ∙ sym b))

-- ---- slots

module _ (size parent token : ℕ) (p : power_of_two size ≡ true) where
  pub some-slot : 1 ≤ size
  some-slot = let k = power-is size p in let e = k.1 in let h = exponent-less k.0 in omega arith

  masked : bit_and ((parent + token) % 2 ^ 32) (size - 1) ≡ slot_of size parent token
  unfolding slot_of
  masked = let k = power-is size p in rw k.1 (and_mask ((parent + token) % 2 ^ 32) k.0)

  pub slot-within : slot_of size parent token < size
  unfolding slot_of
  slot-within = mod-lt _ some-slot

  pub slot-masked : (x : ℕ) → x ≡ (parent + token) % 2 ^ 32 → (bit_and x (size - 1) ≡ slot_of size parent token) × (bit_and x (size - 1) < size)
  slot-masked x e = let m = ap (λ (y : ℕ). bit_and y (size - 1)) e ∙ masked in (m, rw m slot-within)

-- the next slot is a remainder too
pub after-masked : (size slot : ℕ) → power_of_two size ≡ true → slot < size → (bit_and (slot + 1) (size - 1) ≡ slot_after size slot) × (bit_and (slot + 1) (size - 1) < size)
unfolding slot_after
after-masked size slot p h =
    let k = power-is size p in
    let m : bit_and (slot + 1) (size - 1) ≡ (slot + 1) % size = rw k.1 (and_mask (slot + 1) k.0) in
    by_cases (eqb (suc slot) size)
    (λ e. let z : slot + 1 ≡ size = let y : suc slot ≡ size = eqb-true _ _ e in omega arith in
    let r : (slot + 1) % size ≡ 0 = ap (λ (x : ℕ). x % size) z ∙ mod_self size in
    rw e (m ∙ r, rw (m ∙ r) (omega arith)))
    (λ e. let y : suc slot ≡ size → ⊥ = eqb-false _ _ e in
    let l : slot + 1 < size = omega arith in
    let r : (slot + 1) % size ≡ suc slot = mod-eq_of_lt l ∙ omega arith in
    rw e (m ∙ r, rw (m ∙ r) (omega arith)))

-- ---- a number put in the first free slot

-- nothing is put yet; so many slots were looked at, and the next is `slot`
pub record Probing (before : List ℕ) (first x : ℕ) (index : List ℕ) (slot looked : ℕ) : Type 0 where
  pub same : index ≡ before
  pub inside : slot < length before
  pub rest : insert_from (length before) before first x ≡ insert_from (length before - looked) before slot x

module _ (before : List ℕ) (first x : ℕ) where
  step_is : (k slot : ℕ) → insert_from (suc k) before slot x ≡ pick (eqb (get_or before slot 0) 0) (set before slot x) (insert_from k before (slot_after (length before) slot) x)
  unfolding insert_from
  step_is k slot = refl

  end_is : (slot : ℕ) → insert_from 0 before slot x ≡ before
  unfolding insert_from
  end_is slot = refl

  pub probing-begin : first < length before → Probing before first x before first 0
  probing-begin l = record { same = refl; inside = l; rest = ap (λ (k : ℕ). insert_from k before first x) none_looked }
    where
      none_looked : length before ≡ length before - 0
      none_looked = omega arith

  module _ {index : List ℕ} {slot looked : ℕ} (p : Probing before first x index slot looked) where
    pub probing-ended : length before ≤ looked → index ≡ insert_from (length before) before first x
    probing-ended l =
        let z : length before - looked ≡ 0 = omega arith in
        p.same ∙ sym (p.rest ∙ ap (λ (k : ℕ). insert_from k before slot x) z ∙ end_is slot)

    module _ (l : looked < length before) where
      here : insert_from (length before) before first x
          ≡ pick (eqb (get_or index slot 0) 0) (set index slot x) (insert_from (length before - (looked + 1)) before (slot_after (length before) slot) x)
      here =
          let one : length before - looked ≡ suc (length before - (looked + 1)) = omega arith in
          p.rest ∙ ap (λ (k : ℕ). insert_from k before slot x) one ∙ step_is (length before - (looked + 1)) slot ∙ rw p.same

      pub probing-free : get_or index slot 0 ≡ 0 → set index slot x ≡ insert_from (length before) before first x
      probing-free z = sym (here ∙ rw (eq-eqb (get_or index slot 0) 0 z))

      pub probing-on : (get_or index slot 0 ≡ 0 → ⊥) → (next : ℕ) → (next ≡ slot_after (length before) slot) × (next < length before)
          → Probing before first x index next (looked + 1)
      probing-on z next e = record {
        same = p.same;
        inside = e.1;
        rest = here ∙ rw (ne_eqb (get_or index slot 0) 0 z, ← e.0);
      }
