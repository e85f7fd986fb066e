-- Each stored form gives a coding that meets the laws, under any arity rule: one argument for all editions.
use Prim.Native.Nat.{ℕ, suc, ◌≤◌, ◌<◌}
use mathlib.Core.Bool.{true, false}
use mathlib.Core.List.{List, [], ◌∷◌, ◌++◌}
use mathlib.Core.Path.{◌≡◌, refl, sym, ap, ◌∙◌}
use native.Mathlib.Omega.{arith}
use lib.Dec.{ltb}
use lib.ListN.{length}
use borrow.Author.Tests.{ltb-false}
use Rattle.basis.specs.Choice.{pick}
use Rattle.basis.proofs.Cases.{by_cases}
use Rattle.forms.specs.Cells.{shape_of, arity_of}
use Rattle.forms.specs.Terms.{are_terms, reads}
use Rattle.forms.specs.Numbering.{met, numbered}
use Rattle.forms.specs.Stored.{StoredForm, compact_stored, pair_stored, stored_of}
use Rattle.forms.specs.Converting.{reading}
use Rattle.forms.specs.Promises.{Legal, Demand2}
use Rattle.forms.proofs.NumberingLaws.{numbered-met}
use Rattle.forms.proofs.ExactLaws.{reads-every}
use Rattle.forms.proofs.StoredLaws.{ExactTerms, StoredLaws, compact-stored, pair-stored, stored_of_lem}
use Rattle.plain.specs.Words.{Word}
use Rattle.plain.specs.Coding.{Reading, refused, accepted, judged, handed_on, predicate, taken, coded_as, compact_coding, pair_coding, coding_of}
use Rattle.plain.specs.CodingLaws.{CodingLaws}
use Rattle.plain.proofs.Instances.{instance-numbers}
use Rattle.plain.proofs.GroundTerms.{ground-read}

module _ (arity : ℕ → ℕ) (s : StoredForm) (laws : StoredLaws arity s) where
  abbrev demand : Demand2 arity s
  demand = laws.demand

  -- ---- what is read

  -- what is accepted passed the three tests
  judged-legal : (m : ℕ) (cs : List ℕ) (legal : Reading) (w : Word) (n : ℕ) → judged arity s m cs legal ≡ accepted w n → Legal arity m cs × (legal ≡ accepted w n)
  unfolding judged handed_on reading
  judged-legal m cs legal w n e = by_cases (ltb 256 (length cs))
      (λ a. refuses (rw a at e))
      (λ a. by_cases (are_terms arity m cs)
      (λ b. by_cases (ltb 32 (length (met [] cs)))
      (λ d. refuses (rw (a, b, d) at e))
      (λ d. (record { terms = b; cells = ltb-false _ _ a; variables = ltb-false _ _ d }, rw (a, b, d) at e)))
      (λ b. refuses (rw (a, b) at e)))
    where
      refuses : {r : ℕ} → refused r ≡ accepted w n → Legal arity m cs × (legal ≡ accepted w n)
      refuses h = let z : ◌≡◌ {A = ℕ} 0 1 = cc in absurd (omega arith)

  -- what is refused was refused by one of them, or the terms were
  judged-refused : (m : ℕ) (cs : List ℕ) (legal : Reading) (r b : ℕ) → 5 ≤ b → judged arity s m cs legal ≡ refused r → (legal ≡ refused r → (3 ≤ r) × (r ≤ b)) → (3 ≤ r) × (r ≤ b)
  unfolding judged handed_on reading
  judged-refused m cs legal r b h e f = by_cases (ltb 256 (length cs))
      (λ x. within 4 (omega arith) (omega arith) (rw x at e))
      (λ x. by_cases (are_terms arity m cs)
      (λ y. by_cases (ltb 32 (length (met [] cs))) (λ z. within 5 (omega arith) (omega arith) (rw (x, y, z) at e)) (λ z. f (rw (x, y, z) at e)))
      (λ y. within 3 (omega arith) (omega arith) (rw (x, y) at e)))
    where
      within : (n : ℕ) → 3 ≤ n → n ≤ 5 → refused n ≡ refused r → (3 ≤ r) × (r ≤ b)
      within n low high q = let z : n ≡ r = cc in (omega arith, omega arith)

  taken-accepts : (cs : List ℕ) (r : ℕ) → taken s cs ≡ refused r → ⊥
  unfolding taken
  taken-accepts cs r e = let z : ◌≡◌ {A = ℕ} 0 1 = cc in omega arith

  predicate-refused : (cs : List ℕ) (r : ℕ) → pick (predicate cs) (taken s cs) (refused 6) ≡ refused r → (3 ≤ r) × (r ≤ 6)
  predicate-refused cs r e = by_cases (predicate cs)
      (λ p. absurd (taken-accepts cs r (rw p at e)))
      (λ p. let q : refused 6 ≡ refused r = rw p at e in let z : 6 ≡ r = cc in (omega arith, omega arith))

  -- what is accepted is the stored form, with the number of variables
  taken-form : (cs : List ℕ) (w : Word) (n : ℕ) → taken s cs ≡ accepted w n → (s.form cs ≡ w) × (length (met [] cs) ≡ n)
  unfolding taken
  taken-form cs w n e = (cc, cc)

  pub answered-form : (m : ℕ) (cs : List ℕ) (w : Word) (n : ℕ) → (coded_as arity s).answered m cs ≡ accepted w n → Legal arity m cs × (s.form cs ≡ w) × (length (met [] cs) ≡ n)
  answered-form m cs w n e =
      let j = judged-legal m cs (taken s cs) w n e in
      let f = taken-form cs w n j.1 in
      (j.0, f.0, f.1)

  pub called-form : (cs : List ℕ) (w : Word) (n : ℕ) → (coded_as arity s).called cs ≡ accepted w n
      → Legal arity 1 cs × (predicate cs ≡ true) × (s.form cs ≡ w) × (length (met [] cs) ≡ n)
  called-form cs w n e =
      let j = judged-legal 1 cs (pick (predicate cs) (taken s cs) (refused 6)) w n e in
      by_cases (predicate cs)
      (λ p. let f = taken-form cs w n (rw p at j.1) in (j.0, p, f.0, f.1))
      (λ p. let h : refused 6 ≡ accepted w n = rw p at j.1 in let z : ◌≡◌ {A = ℕ} 0 1 = cc in absurd (omega arith))

  -- it meets as many variables as the cells
  pub form-variables : (m : ℕ) (cs : List ℕ) → Legal arity m cs → length (met [] (s.form cs)) ≡ length (met [] cs)
  form-variables m cs l =
      let f = demand.stored m cs l in
      let x : ExactTerms arity s m (s.form cs) = laws.exact-terms m (s.form cs) (laws.legal-exact m (s.form cs) f.0) in
      ap length (sym x.variables) ∙ ap (λ (l : List ℕ). length (met [] l)) f.1 ∙ numbered-met cs (omega (arith, l.cells))

  -- and its terms are those of the numbered cells
  pub form-terms : (m : ℕ) (cs : List ℕ) → Legal arity m cs → s.terms (s.form cs) ≡ reads (shape_of arity) (numbered cs)
  form-terms m cs l =
      let f = demand.stored m cs l in
      let x : ExactTerms arity s m (s.form cs) = laws.exact-terms m (s.form cs) (laws.legal-exact m (s.form cs) f.0) in
      sym (reads-every arity (s.terms (s.form cs)) x.well-formed) ∙ ap (reads (shape_of arity)) (sym x.cells ∙ f.1)

  -- ---- legal forms

  form-some : (m : ℕ) (w : Word) → s.legal (suc m) w ≡ true → 0 < length w
  form-some m [] h = absurd (laws.exact-some m (laws.legal-exact (suc m) [] h))
  form-some m (t ∷ w) h = omega arith

  form-empty : (w : Word) → s.legal 0 w ≡ true → w ≡ []
  form-empty w h = demand.prefix-free 0 [] w laws.exact_none (laws.legal-exact 0 w h)

  instance-legal : (w v : Word) → s.legal 1 w ≡ true → s.legal (length (met [] w)) v ≡ true
      → numbered ((coded_as arity s).instance_of w v) ≡ (coded_as arity s).instance_of w v
  instance-legal w v h k =
      let m : ℕ = length (met [] w) in
      let p = demand.loaded 1 w h in
      let q = demand.loaded m v k in
      let x : ExactTerms arity s 1 w = laws.exact-terms 1 w (laws.legal-exact 1 w h) in
      let y : ExactTerms arity s m v = laws.exact-terms m v (laws.legal-exact m v k) in
      let few : m ≤ 32 = omega (arith, p.0.variables, ap length x.variables) in
      instance-numbers (s.terms w) (s.terms v) (omega (arith, y.count))
      (ap (λ (l : List ℕ). length (met [] l)) (sym x.cells) ∙ ap length x.variables ∙ sym y.count)
      (ap numbered (sym x.cells) ∙ p.1 ∙ x.cells)
      (ap numbered (sym y.cells) ∙ q.1 ∙ y.cells)

  -- ground terms together pass the tests for 3 and 5
  ground-four : (m : ℕ) (ks : List ℕ) (r : ℕ) → are_terms arity m ks ≡ true → length (met [] ks) ≡ 0 → judged arity s m ks (taken s ks) ≡ refused r → r ≡ 4
  unfolding judged handed_on reading
  ground-four m ks r a g e = by_cases (ltb 256 (length ks))
      (λ x. let q : refused 4 ≡ refused r = rw x at e in cc)
      (λ x. let y : ltb 32 (length (met [] ks)) ≡ false = rw g refl in absurd (taken-accepts ks r (rw (x, a, y) at e)))

  pub stored-laws : CodingLaws (coded_as arity s)
  stored-laws = record {
    called-refused = λ ks r e. judged-refused 1 ks _ r 6 (omega arith) e (predicate-refused ks r);
    answered-refused = λ m ks r e. judged-refused m ks _ r 5 (omega arith) e (λ h. absurd (taken-accepts ks r h));
    called-legal = λ ks w m e. let f = called-form ks w m e in rw f.2 at (demand.stored 1 ks f.0).0;
    called-variables = λ ks w m e.
        let f = called-form ks w m e in
        let l = f.0 in
        (ap (λ (x : Word). length (met [] x)) (sym f.2) ∙ form-variables 1 ks l ∙ f.3, omega (arith, f.3, l.variables));
    answered-legal = λ m ks w n e. let f = answered-form m ks w n e in rw f.1 at (demand.stored m ks f.0).0;
    called-expands = λ ks w m e. let f = called-form ks w m e in rw f.2 at (demand.stored 1 ks f.0).1;
    answered-expands = λ m ks w n e. let f = answered-form m ks w n e in rw f.1 at (demand.stored m ks f.0).1;
    called-variants = λ ks ls w v m n e f h.
        let x = called-form ks w m e in
        let y = called-form ls v n f in
        sym x.2 ∙ (demand.variants 1 1 ks ls x.0 y.0).1 h ∙ y.2;
    answered-variants = λ k ks ls w v m n e f h.
        let x = answered-form k ks w m e in
        let y = answered-form k ls v n f in
        sym x.1 ∙ (demand.variants k k ks ls x.0 y.0).1 h ∙ y.1;
    legal-free = λ m w rest h k. demand.prefix-free m w rest (laws.legal-exact m w h) (laws.legal-exact m (w ++ rest) k);
    legal-short = λ m w h. let l = demand.loaded m w h in omega (arith, (demand.bounded m (s.cells w) l.0).1, ap length l.2, laws.within);
    legal-some = λ m w h. form-some m w h;
    legal-empty = λ w h. form-empty w h;
    ground-refused = λ m ks r g e. let t = ground-read arity s laws g in ground-four m ks r t.0 t.1 e;
    instance-numbered = λ w v h k. instance-legal w v h k;
  }

pub compact-laws : (arity : ℕ → ℕ) → CodingLaws (compact_coding arity)
compact-laws arity = stored-laws arity (compact_stored arity) (compact-stored arity)

pub pair-laws : (arity : ℕ → ℕ) → CodingLaws (pair_coding arity)
pair-laws arity = stored-laws arity (pair_stored arity) (pair-stored arity)

-- of each edition
pub coding-laws : (e : ℕ) → CodingLaws (coding_of e)
coding-laws e = stored-laws (arity_of e) (stored_of e) (stored_of_lem e)
