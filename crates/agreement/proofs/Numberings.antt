-- The keys of the nodes in the order of their numbers: the distinct prefixes of the entries, each once, in some order.
use mathlib.Core.Path.{◌≡◌, refl, sym, ap, ◌∙◌, subst}
use mathlib.Core.List.{List, [], ◌∷◌, ◌++◌}
use Prim.Native.Nat.{ℕ, ◌+◌, ◌-◌, ◌≤◌, ◌<◌}
use native.Mathlib.Omega.{arith}
use lib.Dec.{ltb}
use lib.ListN.{length, length-append, get_or-append}
use lib.Seq.{get_or-append-add}
use borrow.Author.Tests.{ltb-true, ltb-false}
use Rattle.basis.proofs.Cases.{by_cases}
use Rattle.plain.specs.Words.{Word, has, prefixes}
use Rattle.plain.proofs.WordLaws.{has-append}
use Rattle.plain.proofs.PrefixLaws.{shared}
use Rattle.plain.proofs.Keys.{key, has-place, place-has, Different, prefixes-different}

pub record Numbering (es K : List Word) : Type 0 where
  pub members : (x : Word) → has K x ≡ has (prefixes es) x
  pub count : length K ≡ length (prefixes es)
  pub different : Different K

-- as the calls number them
pub numbering-made : (es : List Word) → Numbering es (prefixes es)
numbering-made es = record { members = λ x. refl; count = refl; different = prefixes-different es }

pub shared-members : (K P : List Word) → ((x : Word) → has K x ≡ has P x) → (p w : Word) → shared K p w ≡ shared P p w
unfolding shared
shared-members K P h p [] = refl
shared-members K P h p (t ∷ w) = rw (h (p ++ (t ∷ [])), shared-members K P h (p ++ (t ∷ [])) w)

-- ---- keys more, at the end

module _ (es es' K L : List Word) (r : Numbering es K) (e : prefixes es' ≡ prefixes es ++ L) where
  abbrev P : List Word
  P = prefixes es

  abbrev n : ℕ
  n = length K

  behind : (i : ℕ) → n ≤ i → key (K ++ L) i ≡ key (P ++ L) i
  behind i h =
      let k : ℕ = i - n in
      let a : n + k ≡ i = omega arith in
      let b : length P + k ≡ i = omega (arith, r.count) in
      ap (λ (j : ℕ). key (K ++ L) j) (sym a) ∙ get_or-append-add K L k [] ∙ sym (get_or-append-add P L k []) ∙ ap (λ (j : ℕ). key (P ++ L) j) b

  both : length (K ++ L) ≡ length (P ++ L)
  both = length-append K L ∙ ap (λ (j : ℕ). j + length L) r.count ∙ sym (length-append P L)

  made : Different (P ++ L)
  made = subst Different e (prefixes-different es')

  -- an old key is no new one
  apart : (i j : ℕ) → i < n → n ≤ j → j < length (K ++ L) → key (K ++ L) i ≡ key (K ++ L) j → ⊥
  apart i j h k l q =
      let x : Word = key K i in
      let p = has-place P x (sym (r.members x) ∙ place-has K x i h refl) in
      let f : key (P ++ L) p.0 ≡ key (P ++ L) j =
      get_or-append P L [] p.0 p.1 ∙ p.2 ∙ sym (get_or-append K L [] i h) ∙ q ∙ behind j k in
      let z : p.0 ≡ j = made p.0 j (omega (arith, p.1, length-append P L)) (omega (arith, both)) f in
      omega (arith, p.1, r.count)

  all-different : Different (K ++ L)
  all-different i j h k q = by_cases (ltb i n)
      (λ a. by_cases (ltb j n)
      (λ b. r.different i j (ltb-true _ _ a) (ltb-true _ _ b) (sym (get_or-append K L [] i (ltb-true _ _ a)) ∙ q ∙ get_or-append K L [] j (ltb-true _ _ b)))
      (λ b. absurd (apart i j (ltb-true _ _ a) (ltb-false _ _ b) k q)))
      (λ a. by_cases (ltb j n)
      (λ b. absurd (apart j i (ltb-true _ _ b) (ltb-false _ _ a) h (sym q)))
      (λ b. made i j (omega (arith, both)) (omega (arith, both)) (sym (behind i (ltb-false _ _ a)) ∙ q ∙ behind j (ltb-false _ _ b))))

  pub numbering-more : Numbering es' (K ++ L)
  numbering-more = record {
    members = λ x. has-append K L x ∙ rw (r.members x, e) (sym (has-append P L x));
    count = both ∙ ap length (sym e);
    different = all-different;
  }

-- the same keys for more entries
pub numbering-kept : (es es' K : List Word) → Numbering es K → prefixes es' ≡ prefixes es → Numbering es' K
numbering-kept es es' K r e = record { members = λ x. r.members x ∙ ap (λ (l : List Word). has l x) (sym e); count = r.count ∙ ap length (sym e); different = r.different }
