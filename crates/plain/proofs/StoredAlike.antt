-- The codings of any two stored forms under one arity rule read alike, and so answer alike.
use mathlib.Core.Path.{◌≡◌, refl, sym, ap, ◌∙◌, subst}
use mathlib.Core.Bool.{true}
use mathlib.Core.List.{List, [], map}
use Prim.Native.Nat.{ℕ}
use native.Mathlib.Omega.{arith}
use lib.Dec.{ltb}
use lib.ListN.{length}
use borrow.Author.Tests.{ltb-false}
use Rattle.basis.specs.Choice.{pick}
use Rattle.basis.proofs.Cases.{by_cases}
use Rattle.forms.specs.Cells.{shape_of}
use Rattle.forms.specs.Terms.{Term, pairs, every, reads, are_terms}
use Rattle.forms.specs.Numbering.{met, numbered}
use Rattle.forms.specs.Stored.{StoredForm, compact_stored, pair_stored}
use Rattle.forms.specs.Converting.{reading}
use Rattle.forms.specs.Promises.{Legal}
use Rattle.forms.proofs.NumberingLaws.{numbered-again}
use Rattle.forms.proofs.ExactLaws.{reads-every}
use Rattle.forms.proofs.StoredLaws.{ExactTerms, StoredLaws, compact-stored, pair-stored}
use Rattle.plain.specs.Words.{Word}
use Rattle.plain.specs.Coding.{Reading, refused, accepted, judged, handed_on, predicate, taken, substituted, coded_as, compact_coding, pair_coding}
use Rattle.plain.specs.Alike.{AnswerAlike, read_as, ReadAlike}
use Rattle.plain.proofs.StoredCoding.{form-variables, form-terms, stored-laws}
use Rattle.plain.proofs.Alike.{answer-alike}

module _ (arity : ℕ → ℕ) (s s' : StoredForm) (laws : StoredLaws arity s) (laws' : StoredLaws arity s') where
  -- the second's form of what a form of the first stores
  abbrev other : Word → Word
  other w = s'.form (s.cells w)

  -- ---- reading

  numbered-legal : (m : ℕ) (cs : List ℕ) → Legal arity m cs → Legal arity m (numbered cs)
  numbered-legal m cs l = let f = laws.demand.stored m cs l in subst (Legal arity m) f.1 (laws.demand.loaded m (s.form cs) f.0).0

  form-other : (m : ℕ) (cs : List ℕ) → Legal arity m cs → other (s.form cs) ≡ s'.form cs
  form-other m cs l =
      ap (λ (x : List ℕ). s'.form x) (laws.demand.stored m cs l).1
      ∙ (laws'.demand.variants m m (numbered cs) cs (numbered-legal m cs l) l).1 (numbered-again cs (omega (arith, l.cells)))

  taken_as : (m : ℕ) (cs : List ℕ) → Legal arity m cs → taken s' cs ≡ read_as other (taken s cs)
  unfolding taken read_as
  taken_as m cs l = ap (λ (w : Word). accepted w (length (met [] cs))) (sym (form-other m cs l))

  judged-as : (m : ℕ) (cs : List ℕ) (x y : Reading) → (Legal arity m cs → y ≡ read_as other x) → judged arity s' m cs y ≡ read_as other (judged arity s m cs x)
  unfolding judged handed_on reading read_as
  judged-as m cs x y h = by_cases (ltb 256 (length cs))
      (λ a. rw a refl)
      (λ a. by_cases (are_terms arity m cs)
      (λ b. by_cases (ltb 32 (length (met [] cs)))
      (λ d. rw (a, b, d) refl)
      (λ d. rw (a, b, d) (h (record { terms = b; cells = ltb-false _ _ a; variables = ltb-false _ _ d }))))
      (λ b. rw (a, b) refl))

  predicate-as : (cs : List ℕ) → Legal arity 1 cs → pick (predicate cs) (taken s' cs) (refused 6) ≡ read_as other (pick (predicate cs) (taken s cs) (refused 6))
  predicate-as cs l = by_cases (predicate cs) (λ e. rw e (taken_as 1 cs l)) (λ e. rw e (unfold read_as in refl))

  -- ---- legal forms

  module _ (m : ℕ) (w : Word) (h : s.legal m w ≡ true) where
    exact : ExactTerms arity s m w
    exact = laws.exact-terms m w (laws.legal-exact m w h)

    cells-legal : Legal arity m (s.cells w)
    cells-legal = (laws.demand.loaded m w h).0

    cells-numbered : numbered (s.cells w) ≡ s.cells w
    cells-numbered = (laws.demand.loaded m w h).1

    other-cells : s'.cells (other w) ≡ s.cells w
    other-cells = (laws'.demand.stored m (s.cells w) cells-legal).1 ∙ cells-numbered

    other-terms : s'.terms (other w) ≡ s.terms w
    other-terms =
        form-terms arity s' laws' m (s.cells w) cells-legal
        ∙ ap (reads (shape_of arity)) (cells-numbered ∙ exact.cells) ∙ reads-every arity (s.terms w) exact.well-formed

    other-variables : length (met [] (other w)) ≡ length (met [] w)
    other-variables = form-variables arity s' laws' m (s.cells w) cells-legal ∙ ap length exact.variables

  other-apart : (m n : ℕ) (w v : Word) → s.legal m w ≡ true → s.legal n v ≡ true → other w ≡ other v → w ≡ v
  other-apart m n w v h k e =
      let x : numbered (s.cells w) ≡ numbered (s.cells v) = (laws'.demand.variants m n (s.cells w) (s.cells v) (cells-legal m w h) (cells-legal n v k)).0 e in
      let y : s.cells w ≡ s.cells v = sym (cells-numbered m w h) ∙ x ∙ cells-numbered n v k in
      sym (laws.demand.loaded m w h).2 ∙ ap (λ (l : List ℕ). s.form l) y ∙ (laws.demand.loaded n v k).2

  -- ---- no terms

  no-terms : Legal arity 0 []
  no-terms = record { terms = unfold are_terms reads every in refl; cells = omega arith; variables = unfold met in omega arith }

  none-form : s.form [] ≡ []
  none-form = (stored-laws arity s laws).legal-empty (s.form []) (laws.demand.stored 0 [] no-terms).0

  none-legal : s.legal 0 [] ≡ true
  none-legal = subst (λ (w : Word). s.legal 0 w ≡ true) none-form (laws.demand.stored 0 [] no-terms).0

  none_other : other [] ≡ []
  none_other =
      let e : other [] ≡ s'.form [] = ap other (sym none-form) ∙ form-other 0 [] no-terms in
      e ∙ (stored-laws arity s' laws').legal-empty (s'.form []) (laws'.demand.stored 0 [] no-terms).0

  pub read_alike : ReadAlike (coded_as arity s) (coded_as arity s')
  read_alike = record {
    other = other;
    called = λ ks. judged-as 1 ks _ _ (predicate-as ks);
    answered = λ m ks. judged-as m ks _ _ (taken_as m ks);
    apart = other-apart;
    expands = λ m w h. other-cells m w h;
    terms = λ m w h. ap (λ (ts : List Term). map pairs ts) (other-terms m w h);
    variables = λ m w h. other-variables m w h;
    instances = λ m n w v h k.
        ap (λ (ts : List Term). every pairs (map (substituted (s'.terms (other v))) ts)) (other-terms m w h)
        ∙ ap (λ (us : List Term). every pairs (map (substituted us) (s.terms w))) (other-terms n v k);
    none = none-legal;
    other_none = none_other;
  }

  pub stored-alike : AnswerAlike (coded_as arity s) (coded_as arity s')
  stored-alike = answer-alike (coded_as arity s) (coded_as arity s') (stored-laws arity s laws) read_alike

-- compact form and numbered pair form
pub forms-alike : (arity : ℕ → ℕ) → AnswerAlike (compact_coding arity) (pair_coding arity)
forms-alike arity = stored-alike arity (compact_stored arity) (pair_stored arity) (compact-stored arity) (pair-stored arity)
