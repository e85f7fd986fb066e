-- The rule of a join on terms in pair form is its rule on their tokens.
use Prim.Native.Nat.{ℕ, zero, suc, ◌*◌, ◌≤◌, ◌<◌}
use mathlib.Core.Bool.{Bool, true, false, false≢true}
use mathlib.Core.List.{List, [], ◌∷◌, ◌++◌, map}
use mathlib.Core.Path.{◌≡◌, refl, sym, ap, ◌∙◌}
use native.Mathlib.Omega.{arith}
use lib.Dec.{eqb, leb, ltb}
use lib.ListN.{length, get_or}
use borrow.Author.Tests.{eqb-true, ltb-true, lt-ltb, le-ltb, leb-true, leb-false}
use Rattle.basis.specs.Choice.{pick}
use Rattle.basis.proofs.Cases.{by_cases}
use Rattle.forms.specs.Cells.{shape_of}
use Rattle.forms.specs.Terms.{Term, pairs, every, reads, are_terms}
use Rattle.forms.specs.Numbering.{met, numbered}
use Rattle.forms.specs.Stored.{StoredForm}
use Rattle.forms.specs.Converting.{reading}
use Rattle.forms.specs.Promises.{Legal}
use Rattle.forms.proofs.ExactLaws.{reads-every, pairs-terms}
use Rattle.forms.proofs.LongestForms.{Constant, constant-append, constant-met, constant-numbered}
use Rattle.plain.specs.Words.{Word}
use Rattle.plain.specs.Coding.{coded_as, refused, accepted, handed_on, judged, taken}
use Rattle.plain.specs.Joins.{Terms, pairs_named, copies_named, named, matching, copied, along, combined, before, all_read}
use Rattle.plain.proofs.StoredCoding.{form-terms}
use Rattle.parts.specs.Parts.{parts, GroundForm, AllGround, all_fit, fitted, JoinedForms}
use Rattle.parts.proofs.Rules.{Rule}
use Rattle.parts.proofs.GroundForms.{GroundTerms, all-well, form-ground, same-either, TermAt, term-at}

pub both : (a b : Bool) → pick a b false ≡ true → (a ≡ true) × (b ≡ true)
both true b e = (refl, e)
both false b e = absurd (false≢true e)

module _ (rule : Rule) where
  abbrev form : StoredForm
  form = rule.stored

  -- ---- which pairs of answers match

  module _ (ts us : List Term) (g : GroundTerms rule ts) (h : GroundTerms rule us) where
    pub matching-either : (ps : List ℕ) → pairs_named (length ts) (length us) ps ≡ true
        → matching ps (map pairs ts) (map pairs us) ≡ matching ps (map form.tokens ts) (map form.tokens us)
    unfolding matching pairs_named
    matching-either [] e = refl
    matching-either (x ∷ []) e = refl
    matching-either (x ∷ y ∷ ps) e =
        let p = both (ltb x (length ts)) (pick (ltb y (length us)) (pairs_named (length ts) (length us) ps) false) e in
        let q = both (ltb y (length us)) (pairs_named (length ts) (length us) ps) p.1 in
        let t = term-at rule ts x g (ltb-true _ _ p.0) in
        let u = term-at rule us y h (ltb-true _ _ q.0) in
        rw (t.cells, u.cells, t.tokens, u.tokens, same-either rule t.this u.this t.ground u.ground, matching-either ps q.1)

  -- ---- what they give: the same terms, in pair form and in tokens

  pub record Both (k : ℕ) (ks : List ℕ) (w : Word) : Type 0 where
    pub these : List Term
    pub ground : GroundTerms rule these
    pub count : length these ≡ k
    pub cells : ks ≡ every pairs these
    pub tokens : w ≡ every form.tokens these

  abbrev AllBoth : ℕ → List (List ℕ) → List Word → Type 0
  AllBoth k [] [] = Unit {0}
  AllBoth k [] (w ∷ ws) = ⊥
  AllBoth k (ks ∷ kss) [] = ⊥
  AllBoth k (ks ∷ kss) (w ∷ ws) = Both k ks w × AllBoth k kss ws

  both-append : (k : ℕ) (kss lss : List (List ℕ)) (ws vs : List Word) → AllBoth k kss ws → AllBoth k lss vs → AllBoth k (kss ++ lss) (ws ++ vs)
  both-append k [] lss [] vs a b = b
  both-append k [] lss (w ∷ ws) vs a b = absurd a
  both-append k (ks ∷ kss) lss [] vs a b = absurd a
  both-append k (ks ∷ kss) lss (w ∷ ws) vs a b = (a.0, both-append k kss lss ws vs a.1 b)

  both-more : (k : ℕ) (ts : List Term) (i : ℕ) (ks : List ℕ) (w : Word) → TermAt rule ts i → Both k ks w
      → Both (suc k) (get_or (map pairs ts) i [] ++ ks) (get_or (map form.tokens ts) i [] ++ w)
  unfolding every
  both-more k ts i ks w t b = record {
    these = t.this ∷ b.these;
    ground = (t.ground, b.ground);
    count = ap suc b.count;
    cells = ap (λ (x : List ℕ). x ++ ks) t.cells ∙ ap (λ (x : List ℕ). pairs t.this ++ x) b.cells;
    tokens = ap (λ (x : List ℕ). x ++ w) t.tokens ∙ ap (λ (x : List ℕ). form.tokens t.this ++ x) b.tokens;
  }

  module _ (ts us : List Term) (g : GroundTerms rule ts) (h : GroundTerms rule us) where
    abbrev Copied : ℕ → List ℕ → Type 0
    Copied k cs = Both k (copied cs (map pairs ts) (map pairs us)) (copied cs (map form.tokens ts) (map form.tokens us))

    copied-step : (k side x : ℕ) (cs : List ℕ) → copies_named (length ts) (length us) (side ∷ x ∷ cs) ≡ true
        → (copies_named (length ts) (length us) cs ≡ true → Copied k cs) → Copied (suc k) (side ∷ x ∷ cs)
    unfolding copied copies_named
    copied-step k side x cs e more = by_cases (eqb side 0)
        (λ p. let q = both (ltb x (length ts)) (copies_named (length ts) (length us) cs) (rw p at e) in
        rw p (both-more k ts x _ _ (term-at rule ts x g (ltb-true _ _ q.0)) (more q.1)))
        (λ p. let z = both (eqb side 1) (pick (ltb x (length us)) (copies_named (length ts) (length us) cs) false) (rw p at e) in
        let q = both (ltb x (length us)) (copies_named (length ts) (length us) cs) z.1 in
        rw p (both-more k us x _ _ (term-at rule us x h (ltb-true _ _ q.0)) (more q.1)))

    pub copied-both : (k : ℕ) (cs : List ℕ) → copies_named (length ts) (length us) cs ≡ true → length cs ≡ 2 * k
        → Both k (copied cs (map pairs ts) (map pairs us)) (copied cs (map form.tokens ts) (map form.tokens us))
    unfolding copied copies_named every
    copied-both zero [] e l = record { these = []; ground = tt; count = refl; cells = refl; tokens = refl }
    copied-both (suc k) [] e l = absurd (omega arith)
    copied-both k (side ∷ []) e l = absurd (false≢true e)
    copied-both zero (side ∷ x ∷ cs) e l = absurd (omega arith)
    copied-both (suc k) (side ∷ x ∷ cs) e l = copied-step k side x cs e (λ q. copied-both k cs q (omega arith))

  -- ---- reading them

  every-plain : (ts : List Term) → GroundTerms rule ts → Constant (every pairs ts)
  unfolding every
  every-plain [] g = tt
  every-plain (t ∷ ts) g = constant-append (pairs t) (every pairs ts) g.0.plain (every-plain ts g.1)

  module _ (k : ℕ) (ks : List ℕ) (w : Word) (b : Both k ks w) where
    pub pair-cells : form.cells w ≡ ks
    pair-cells = rw b.tokens (rule.tokens.cells b.these (all-well rule b.these b.ground) ∙ sym b.cells)

    too_long : 256 < length ks → (coded_as rule.arity form).answered k ks ≡ refused 4
    unfolding judged handed_on reading
    too_long l = rw (lt-ltb _ _ l)

    fits : length ks ≤ 256 → (coded_as rule.arity form).answered k ks ≡ accepted w (length (met [] ks))
    unfolding judged handed_on reading taken
    fits l =
        let ts : List Term = b.these in
        let plain : Constant (every pairs ts) = every-plain ts b.ground in
        let none : met [] ks ≡ [] = rw b.cells (constant-met (every pairs ts) [] plain) in
        let are : are_terms rule.arity k ks ≡ true = rw b.cells (pairs-terms rule.arity k ts (all-well rule ts b.ground) b.count) in
        let numbers : numbered ks ≡ ks = rw b.cells (constant-numbered (every pairs ts) plain) in
        let legal : Legal rule.arity k ks = record { terms = are; cells = l; variables = rw none (omega arith) } in
        let read : form.terms (form.form ks) ≡ ts =
        form-terms rule.arity form rule.laws k ks legal ∙ ap (reads (shape_of rule.arity)) (numbers ∙ b.cells) ∙ reads-every rule.arity ts (all-well rule ts b.ground) in
        let x = rule.laws.exact-terms k (form.form ks) (rule.laws.legal-exact k (form.form ks) (rule.laws.demand.stored k ks legal).0) in
        let stored : form.form ks ≡ w = x.tokens ∙ ap (every form.tokens) read ∙ sym b.tokens in
        rw (le-ltb _ _ l, are, none, stored)

  read-both : (k : ℕ) (kss : List (List ℕ)) (ws : List Word) → AllBoth k kss ws → all_read (coded_as rule.arity form) k kss ≡ fitted form ws
  unfolding all_read before all_fit
  read-both k [] [] a = refl
  read-both k [] (w ∷ ws) a = absurd a
  read-both k (ks ∷ kss) [] a = absurd a
  read-both k (ks ∷ kss) (w ∷ ws) a =
      let rest : all_read (coded_as rule.arity form) k kss ≡ fitted form ws = read-both k kss ws a.1 in
      by_cases (leb (length ks) 256)
      (λ e. rw (pair-cells k ks w a.0, e, fits k ks w a.0 (leb-true _ _ e), rest)
      (by_cases (all_fit form ws) (λ f. rw f) (λ f. rw f)))
      (λ e. rw (pair-cells k ks w a.0, e, too_long k ks w a.0 (leb-false _ _ e)))

  -- ---- all answers of both

  module _ (m n k : ℕ) (ps cs : List ℕ) (pairing : pairs_named m n ps ≡ true) (copying : copies_named m n cs ≡ true) (size : length cs ≡ 2 * k) where
    along-both : (u : Word) (vs : List Word) → GroundForm form m u → AllGround form n vs
        → AllBoth k (along ps cs (map pairs (form.terms u)) (map (λ w. (coded_as rule.arity form).terms w) vs)) (along ps cs (parts form u) (map (parts form) vs))
    unfolding along
    along-both u [] g a = tt
    along-both u (v ∷ vs) g a =
        let ts : List Term = form.terms u in
        let us : List Term = form.terms v in
        let p : pairs_named (length ts) (length us) ps ≡ true = rw (g.count, a.0.count) pairing in
        let q : copies_named (length ts) (length us) cs ≡ true = rw (g.count, a.0.count) copying in
        let x = form-ground rule m u g in
        let y = form-ground rule n v a.0 in
        let later = along-both u vs g a.1 in
        rw (matching-either ts us x y ps p)
        (by_cases (matching ps (map form.tokens ts) (map form.tokens us))
        (λ e. rw e (copied-both ts us x y k cs q size, later))
        (λ e. rw e later))

    combined-both : (us vs : List Word) → AllGround form m us → AllGround form n vs
        → AllBoth k (combined ps cs (map (λ w. (coded_as rule.arity form).terms w) us) (map (λ w. (coded_as rule.arity form).terms w) vs)) (combined ps cs (map (parts form) us) (map (parts form) vs))
    unfolding combined
    combined-both [] vs a b = tt
    combined-both (u ∷ us) vs a b =
        let cells : Word → Terms = λ w. (coded_as rule.arity form).terms w in
        both-append k (along ps cs (cells u) (map cells vs)) (combined ps cs (map cells us) (map cells vs))
        (along ps cs (parts form u) (map (parts form) vs)) (combined ps cs (map (parts form) us) (map (parts form) vs))
        (along-both u vs a.0 b) (combined-both us vs a.1 b)

  pub joined-forms : JoinedForms rule.arity form
  unfolding named
  joined-forms m n k ps cs us vs a b e =
      let x = both (leb (length ps) 64) (pick (eqb (length cs) (2 * k)) (pick (pairs_named m n ps) (copies_named m n cs) false) false) e in
      let y = both (eqb (length cs) (2 * k)) (pick (pairs_named m n ps) (copies_named m n cs) false) x.1 in
      let z = both (pairs_named m n ps) (copies_named m n cs) y.1 in
      read-both k _ _ (combined-both m n k ps cs z.0 z.1 (eqb-true _ _ y.0) us vs a b)
