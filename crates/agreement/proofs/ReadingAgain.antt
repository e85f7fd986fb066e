-- A called form begins as its term does, and a legal form can be read again from its terms, in each stored form.
use Prim.Native.Nat.{ℕ}
use mathlib.Core.Path.{◌≡◌, refl, sym, ap, ◌∙◌}
use mathlib.Core.Bool.{true, false, false≢true}
use mathlib.Core.List.{List, [], ◌∷◌}
use native.Mathlib.Omega.{arith}
use lib.Dec.{eqb}
use lib.ListN.{length, get_or}
use borrow.Author.Tests.{eqb-true, ne_eqb, le-ltb}
use Rattle.basis.proofs.Cases.{by_cases}
use Rattle.forms.specs.Cells.{kind, variable, callable, arity_of}
use Rattle.forms.specs.Numbering.{met, renamed, numbered}
use Rattle.forms.specs.Stored.{StoredForm, stored_of}
use Rattle.forms.specs.Converting.{reading}
use Rattle.forms.specs.Promises.{Legal, Demand2}
use Rattle.forms.proofs.StoredLaws.{ExactTerms, StoredLaws, stored_of_lem}
use Rattle.plain.specs.Words.{Word}
use Rattle.plain.specs.Coding.{Reading, accepted, judged, naming, handed_on, predicate, taken, coded_as, coding_of}
use Rattle.plain.proofs.StoredCoding.{called-form}
use Rattle.agreement.specs.Whole.{ReadingAgain}

predicate-first : (cs : List ℕ) → predicate cs ≡ callable (get_or cs 0 0)
unfolding predicate callable
predicate-first [] = refl
predicate-first (c ∷ cs) = refl

callable-constant : (c : ℕ) → callable c ≡ true → variable c ≡ false
unfolding callable
callable-constant c e = by_cases (eqb (kind c) 2)
    (λ p. let z : kind c ≡ 2 = eqb-true _ _ p in ne_eqb (kind c) 1 (λ q. omega arith))
    (λ p. let f : eqb (kind c) 4 ≡ true = rw p at e in let z : kind c ≡ 4 = eqb-true _ _ f in ne_eqb (kind c) 1 (λ q. omega arith))

numbered_begins : (cs : List ℕ) → predicate cs ≡ true → predicate (numbered cs) ≡ true
unfolding predicate numbered renamed
numbered_begins [] e = absurd (false≢true e)
numbered_begins (c ∷ cs) e = rw (callable-constant c e) e

module _ (arity : ℕ → ℕ) (s : StoredForm) (laws : StoredLaws arity s) where
  abbrev demand : Demand2 arity s
  demand = laws.demand

  -- a legal form of one term begins as its cells do
  form-begins : (w : Word) → s.legal 1 w ≡ true → predicate w ≡ predicate (s.cells w)
  form-begins w h = predicate-first w ∙ laws.exact-begins w (laws.legal-exact 1 w h) ∙ sym (predicate-first (s.cells w))

  begins-called : (ks : List ℕ) (w : Word) (m : ℕ) → (coded_as arity s).called ks ≡ accepted w m → predicate w ≡ true
  begins-called ks w m e =
      let f = called-form arity s laws ks w m e in
      let d = demand.stored 1 ks f.0 in
      ap predicate (sym f.2) ∙ form-begins (s.form ks) d.0 ∙ ap predicate d.1 ∙ numbered_begins ks f.1

  -- cells that are legal are not refused by the reader
  judged-passes : (m : ℕ) (cs : List ℕ) (r : Reading) → Legal arity m cs → judged arity s m cs r ≡ r
  unfolding judged naming handed_on reading
  judged-passes m cs r l = rw (le-ltb 256 (length cs) l.cells, l.terms, le-ltb 32 (length (met [] cs)) l.variables)

  taken-again : (m : ℕ) (w : Word) → s.legal m w ≡ true → taken s (s.cells w) ≡ accepted w (length (met [] w))
  unfolding taken
  taken-again m w h =
      let x : ExactTerms arity s m w = laws.exact-terms m w (laws.legal-exact m w h) in
      rw ((demand.loaded m w h).2, x.variables)

  called-again : (w : Word) → s.legal 1 w ≡ true → predicate w ≡ true → (coded_as arity s).called (s.cells w) ≡ accepted w (length (met [] w))
  called-again w h b =
      let p : predicate (s.cells w) ≡ true = sym (form-begins w h) ∙ b in
      judged-passes 1 (s.cells w) _ (demand.loaded 1 w h).0 ∙ rw p (taken-again 1 w h)

  pub stored-again : ReadingAgain (coded_as arity s)
  stored-again = record {
    called-begins = begins-called;
    legal-called = called-again;
    legal-answered = λ m w h. (length (met [] w), judged-passes m (s.cells w) _ (demand.loaded m w h).0 ∙ taken-again m w h);
  }

-- of each edition
pub coding-again : (e : ℕ) → ReadingAgain (coding_of e)
coding-again e = stored-again (arity_of e) (stored_of e) (stored_of_lem e)
