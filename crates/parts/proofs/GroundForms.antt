-- Forms without variables: what holds of their terms, in pair form and in tokens.
use Prim.Native.Nat.{ℕ, zero, suc, ◌<◌}
use mathlib.Core.Bool.{Bool, true, false}
use mathlib.Core.List.{List, [], ◌∷◌, ◌++◌, map}
use mathlib.Core.Path.{◌≡◌, refl, sym, ap, ◌∙◌}
use native.Mathlib.Omega.{arith}
use lib.ListN.{length, get_or}
use Rattle.basis.proofs.Cases.{by_cases}
use Rattle.forms.specs.Cells.{variable, shape_of}
use Rattle.forms.specs.Terms.{Term, pairs, every}
use Rattle.forms.specs.Numbering.{met}
use Rattle.forms.specs.Compact.{same}
use Rattle.forms.proofs.ReadLaws.{WellFormed, AllWellFormed}
use Rattle.forms.proofs.NumberingLaws.{Each, each-met}
use Rattle.forms.proofs.RoundTrip.{same_self, same_true}
use Rattle.forms.proofs.LongestForms.{Constant}
use Rattle.plain.specs.Words.{Word}
use Rattle.parts.specs.Parts.{GroundForm}
use Rattle.parts.proofs.Rules.{Rule, pairs-only}

-- ---- cells without variables

each_none : (vs cs : List ℕ) → length vs ≡ 0 → Each vs cs → Constant cs
each_none vs [] e a = tt
each_none vs (c ∷ cs) e a = (by_cases (variable c) (λ p. let h = a.0 p in absurd (omega arith)) (λ p. p), each_none vs cs e a.1)

pub ground-constant : (cs : List ℕ) → length (met [] cs) ≡ 0 → Constant cs
ground-constant cs e = each_none (met [] cs) cs e (each-met cs [])

pub constant-parts : (xs ys : List ℕ) → Constant (xs ++ ys) → Constant xs × Constant ys
constant-parts [] ys h = (tt, h)
constant-parts (x ∷ xs) ys h = let r = constant-parts xs ys h.1 in ((h.0, r.0), r.1)

-- ---- the terms of a form

-- one that holds no variable
pub record GroundTerm (rule : Rule) (t : Term) : Type 0 where
  pub well : WellFormed (shape_of rule.arity) t 0
  pub plain : Constant (pairs t)

abbrev pub GroundTerms : Rule → List Term → Type 0
GroundTerms rule [] = Unit {0}
GroundTerms rule (t ∷ ts) = GroundTerm rule t × GroundTerms rule ts

module _ (rule : Rule) where
  pub all-well : (ts : List Term) → GroundTerms rule ts → AllWellFormed (shape_of rule.arity) ts
  all-well [] g = tt
  all-well (t ∷ ts) g = (g.0.well, all-well ts g.1)

  each-ground : (ts : List Term) → AllWellFormed (shape_of rule.arity) ts → Constant (every pairs ts) → GroundTerms rule ts
  unfolding every
  each-ground [] a h = tt
  each-ground (t ∷ ts) a h = let p = constant-parts (pairs t) (every pairs ts) h in (record { well = a.0; plain = p.0 }, each-ground ts a.1 p.1)

  module _ (m : ℕ) (w : Word) (g : GroundForm rule.stored m w) where
    pub form-ground : GroundTerms rule (rule.stored.terms w)
    form-ground =
        let x = rule.laws.exact-terms m w (rule.laws.legal-exact m w g.legal) in
        each-ground (rule.stored.terms w) x.well-formed
        (ground-constant (every pairs (rule.stored.terms w)) (ap (λ (l : List ℕ). length (met [] l)) (sym x.cells) ∙ ap length x.variables ∙ g.ground))

  -- ---- equal in pair form, and in tokens

  alike : (a b : Bool) → (a ≡ true → b ≡ true) → (b ≡ true → a ≡ true) → a ≡ b
  alike true b f g = sym (f refl)
  alike false true f g = g refl
  alike false false f g = refl

  pub same-either : (t u : Term) → GroundTerm rule t → GroundTerm rule u → same (pairs t) (pairs u) ≡ same (rule.stored.tokens t) (rule.stored.tokens u)
  same-either t u g h = alike (same (pairs t) (pairs u)) (same (rule.stored.tokens t) (rule.stored.tokens u))
      (λ e. rw (pairs-only rule.arity t u g.well h.well (same_true (pairs t) (pairs u) e)) (same_self (rule.stored.tokens u)))
      (λ e. rw (rule.tokens.only t u g.well h.well (same_true (rule.stored.tokens t) (rule.stored.tokens u) e)) (same_self (pairs u)))

  -- ---- term i

  -- the term that stands at a place of both lists
  pub record TermAt (ts : List Term) (i : ℕ) : Type 0 where
    pub this : Term
    pub ground : GroundTerm rule this
    pub cells : get_or (map pairs ts) i [] ≡ pairs this
    pub tokens : get_or (map rule.stored.tokens ts) i [] ≡ rule.stored.tokens this

  pub term-at : (ts : List Term) (i : ℕ) → GroundTerms rule ts → i < length ts → TermAt ts i
  term-at [] i g h = absurd (omega arith)
  term-at (t ∷ ts) zero g h = record { this = t; ground = g.0; cells = refl; tokens = refl }
  term-at (t ∷ ts) (suc i) g h =
      let r = term-at ts i g.1 (omega arith) in
      record { this = r.this; ground = r.ground; cells = r.cells; tokens = r.tokens }
