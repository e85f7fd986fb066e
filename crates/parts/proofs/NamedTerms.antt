-- What pairs and copies name, two cells at a time.
use Prim.Native.Nat.{ℕ, suc, ◌+◌, ◌*◌, ◌<◌}
use mathlib.Core.Bool.{Bool, true, false, false≢true}
use mathlib.Core.List.{List, [], ◌∷◌}
use mathlib.Core.Path.{◌≡◌, refl, sym, ap, ◌∙◌}
use native.Mathlib.Omega.{arith}
use native.Mathlib.Numerals.{add-one}
use lib.Dec.{eqb, ltb}
use lib.ListN.{length, drop, get_or, drop_of_length-le}
use lib.Seq.{drop-cons}
use borrow.Author.Tests.{ltb-true, ltb-false}
use Rattle.basis.specs.Choice.{pick}
use Rattle.basis.proofs.Cases.{by_cases}
use Rattle.plain.specs.Joins.{pairs_named, copies_named}
use Rattle.parts.proofs.JoinedForms.{both}

-- two cells stand from a place on, where a test passes no single one
pub record Two (cs : List ℕ) (i : ℕ) : Type 0 where
  pub inside : i + 1 < length cs
  pub cells : drop i cs ≡ get_or cs i 0 ∷ get_or cs (i + 1) 0 ∷ drop (i + 2) cs

two : (test : List ℕ → Bool) → ((x : ℕ) → test (x ∷ []) ≡ true → ⊥) → (cs : List ℕ) (i : ℕ) → i < length cs → test (drop i cs) ≡ true → Two cs i
two test never cs i h e = by_cases (ltb (suc i) (length cs))
    (λ p.
    let k : suc i < length cs = ltb-true (suc i) (length cs) p in
    let j : suc (suc i) ≡ i + 2 = omega arith in
    record {
      inside = omega arith;
      cells = drop-cons cs i 0 h ∙ ap (λ (l : List ℕ). get_or cs i 0 ∷ l) (drop-cons cs (suc i) 0 k
          ∙ ap (λ (n : ℕ). get_or cs n 0 ∷ drop (suc (suc i)) cs) (sym (add-one i)) ∙ ap (λ (n : ℕ). get_or cs (i + 1) 0 ∷ drop n cs) j);
    })
    (λ p.
    let short : drop (suc i) cs ≡ [] = drop_of_length-le cs (ltb-false (suc i) (length cs) p) in
    absurd (never (get_or cs i 0) (ap test (ap (λ (l : List ℕ). get_or cs i 0 ∷ l) (sym short) ∙ sym (drop-cons cs i 0 h)) ∙ e)))

module _ (m n : ℕ) (cs : List ℕ) (i : ℕ) (h : i < length cs) where
  pub record NamedPair : Type 0 where
    pub pair : Two cs i
    pub first : get_or cs i 0 < m
    pub second : get_or cs (i + 1) 0 < n
    pub more : pairs_named m n (drop (i + 2) cs) ≡ true

  pub named-pair : pairs_named m n (drop i cs) ≡ true → NamedPair
  unfolding pairs_named
  named-pair e =
      let t = two (pairs_named m n) (λ x f. false≢true f) cs i h e in
      let f : pairs_named m n (get_or cs i 0 ∷ get_or cs (i + 1) 0 ∷ drop (i + 2) cs) ≡ true = ap (pairs_named m n) (sym t.cells) ∙ e in
      let p = both (ltb (get_or cs i 0) m) (pick (ltb (get_or cs (i + 1) 0) n) (pairs_named m n (drop (i + 2) cs)) false) f in
      let q = both (ltb (get_or cs (i + 1) 0) n) (pairs_named m n (drop (i + 2) cs)) p.1 in
      record { pair = t; first = ltb-true _ _ p.0; second = ltb-true _ _ q.0; more = q.1 }

  pub record NamedCopy : Type 0 where
    pub pair : Two cs i
    pub first : eqb (get_or cs i 0) 0 ≡ true → get_or cs (i + 1) 0 < m
    pub second : eqb (get_or cs i 0) 0 ≡ false → get_or cs (i + 1) 0 < n
    pub more : copies_named m n (drop (i + 2) cs) ≡ true

  copy-named : (side x : ℕ) (rest : List ℕ) → copies_named m n (side ∷ x ∷ rest) ≡ true
      → (eqb side 0 ≡ true → x < m) × (eqb side 0 ≡ false → x < n) × (copies_named m n rest ≡ true)
  unfolding copies_named
  copy-named side x rest e = by_cases (eqb side 0)
      (λ p. let q = both (ltb x m) (copies_named m n rest) (rw p at e) in
      ((λ _. ltb-true x m q.0), (λ r. absurd (false≢true (sym r ∙ p))), q.1))
      (λ p. let z = both (eqb side 1) (pick (ltb x n) (copies_named m n rest) false) (rw p at e) in
      let q = both (ltb x n) (copies_named m n rest) z.1 in
      ((λ r. absurd (false≢true (sym p ∙ r))), (λ _. ltb-true x n q.0), q.1))

  pub named-copy : copies_named m n (drop i cs) ≡ true → NamedCopy
  named-copy e =
      let t = two (copies_named m n) (λ x f. unfold copies_named in false≢true f) cs i h e in
      let q = copy-named (get_or cs i 0) (get_or cs (i + 1) 0) (drop (i + 2) cs) (ap (copies_named m n) (sym t.cells) ∙ e) in
      record { pair = t; first = q.0; second = q.1; more = q.2 }

-- copies are so many pairs of cells
pub copies-even : (m n : ℕ) (cs : List ℕ) → copies_named m n cs ≡ true → (k : ℕ) × (length cs ≡ 2 * k)
copies-even m n [] e = (0, refl)
copies-even m n (side ∷ []) e = absurd (unfold copies_named in false≢true e)
copies-even m n (side ∷ x ∷ cs) e =
    let r = copies-even m n cs (copy-named m n (side ∷ x ∷ cs) 0 (omega arith) side x cs e).2 in
    (suc r.0, omega (arith, r.1))
