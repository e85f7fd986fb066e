-- Ground terms of stored forms, put together: they are terms again, and hold no variable.
use Prim.Native.Nat.{ℕ, zero, suc, ◌≤◌, ◌<◌}
use mathlib.Core.Bool.{true}
use mathlib.Core.List.{List, [], ◌∷◌, ◌++◌, map}
use mathlib.Core.Path.{◌≡◌, refl, sym, ap, ◌∙◌, subst}
use native.Mathlib.Omega.{arith}
use lib.Dec.{leb}
use lib.ListN.{length, get_or, length-append}
use Rattle.basis.proofs.Cases.{by_cases}
use Rattle.forms.specs.Cells.{variable, shape_of}
use Rattle.forms.specs.Terms.{Term, pairs, every, are_terms}
use Rattle.forms.specs.Numbering.{rank, seen, met}
use Rattle.forms.specs.Stored.{StoredForm}
use Rattle.forms.proofs.ReadLaws.{WellFormed, AllWellFormed}
use Rattle.forms.proofs.NumberingLaws.{met-append}
use Rattle.forms.proofs.ExactLaws.{pairs-terms}
use Rattle.forms.proofs.StoredLaws.{ExactTerms, StoredLaws}
use Rattle.plain.specs.Coding.{coded_as}
use Rattle.plain.specs.CodingLaws.{GroundTerm, GroundTerms, none, one}

-- ---- cells without variables

seen-grows : (vs : List ℕ) (c : ℕ) → length vs ≤ length (seen vs c)
unfolding seen
seen-grows vs c = by_cases (variable c)
    (λ e. by_cases (leb (length vs) (rank vs c)) (λ f. rw (e, f) (omega (arith, length-append vs (c ∷ [])))) (λ f. rw (e, f) (omega arith)))
    (λ e. rw e (omega arith))

met-grows : (cs vs : List ℕ) → length vs ≤ length (met vs cs)
unfolding met
met-grows [] vs = omega arith
met-grows (c ∷ cs) vs = omega (arith, seen-grows vs c, met-grows cs (seen vs c))

empty : (xs : List ℕ) → length xs ≡ 0 → xs ≡ []
empty [] e = refl
empty (x ∷ xs) e = absurd (omega arith)

-- both parts hold none, and two such parts together
ground-parts : (xs ys : List ℕ) → length (met [] (xs ++ ys)) ≡ 0 → (length (met [] xs) ≡ 0) × (length (met [] ys) ≡ 0)
ground-parts xs ys e =
    let f : length (met (met [] xs) ys) ≡ 0 = sym (ap length (met-append xs ys [])) ∙ e in
    let g : length (met [] xs) ≡ 0 = omega (arith, met-grows ys (met [] xs)) in
    (g, subst (λ (vs : List ℕ). length (met vs ys) ≡ 0) (empty (met [] xs) g) f)

ground-both : (xs ys : List ℕ) → length (met [] xs) ≡ 0 → length (met [] ys) ≡ 0 → length (met [] (xs ++ ys)) ≡ 0
ground-both xs ys e f = ap length (met-append xs ys []) ∙ subst (λ (vs : List ℕ). length (met vs ys) ≡ 0) (sym (empty (met [] xs) e)) f

-- ---- terms

module _ (arity : ℕ → ℕ) (s : StoredForm) (laws : StoredLaws arity s) where
  -- a term without variables whose pair form these cells are
  abbrev TermOf : List ℕ → Type 0
  TermOf ks = (t : Term) × WellFormed (shape_of arity) t 0 × (length (met [] ks) ≡ 0) × (ks ≡ pairs t)

  term-at : (ts : List Term) (i : ℕ) → AllWellFormed (shape_of arity) ts → length (met [] (every pairs ts)) ≡ 0 → i < length ts → TermOf (get_or (map pairs ts) i [])
  unfolding every
  term-at [] i a g h = absurd (omega arith)
  term-at (t ∷ ts) zero a g h = (t, a.0, (ground-parts (pairs t) (every pairs ts) g).0, refl)
  term-at (t ∷ ts) (suc i) a g h = term-at ts i a.1 (ground-parts (pairs t) (every pairs ts) g).1 (omega arith)

  term_of : {ks : List ℕ} → GroundTerm (coded_as arity s) ks → TermOf ks
  term_of g =
      let x : ExactTerms arity s g.m g.form = laws.exact-terms g.m g.form (laws.legal-exact g.m g.form g.legal) in
      rw g.is (term-at (s.terms g.form) g.place x.well-formed
      (ap (λ (l : List ℕ). length (met [] l)) (sym x.cells) ∙ ap length x.variables ∙ g.ground) (omega (arith, g.inside, x.count)))

  -- several
  abbrev ReadTerms : ℕ → List ℕ → Type 0
  ReadTerms m ks = (ts : List Term) × AllWellFormed (shape_of arity) ts × (length ts ≡ m) × (length (met [] ks) ≡ 0) × (ks ≡ every pairs ts)

  terms-of : {m : ℕ} {ks : List ℕ} → GroundTerms (coded_as arity s) m ks → ReadTerms m ks
  unfolding every met
  terms-of none = ([], tt, refl, refl, refl)
  terms-of (one {ks = ks} {rest = rest} g more) =
      let t = term_of g in
      let r = terms-of more in
      (t.0 ∷ r.0, (t.1, r.1), ap suc r.2, ground-both ks rest t.2 r.3, ap (λ (x : List ℕ). x ++ rest) t.3 ∙ ap (λ (x : List ℕ). pairs t.0 ++ x) r.4)

  pub ground-read : {m : ℕ} {ks : List ℕ} → GroundTerms (coded_as arity s) m ks → (are_terms arity m ks ≡ true) × (length (met [] ks) ≡ 0)
  ground-read {m} g = let r = terms-of g in (rw r.4 (pairs-terms arity m r.0 r.1 r.2), r.3)
