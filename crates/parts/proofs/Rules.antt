-- What is asked of the tokens of terms, so that answers in hand can be taken apart and put together in a stored form; each
-- edition has it.
use Prim.Native.Nat.{ℕ, ◌+◌, ◌*◌, ◌≤◌}
use mathlib.Core.Bool.{true}
use mathlib.Core.List.{List, [], ◌∷◌, append-nil}
use mathlib.Core.Path.{◌≡◌, refl, sym, ap, ◌∙◌}
use native.Mathlib.Omega.{arith}
use lib.ListN.{length, length-append}
use Rattle.basis.proofs.Cases.{by_cases}
use Rattle.forms.specs.Cells.{shape_of, token_of, arity_of}
use Rattle.forms.specs.Terms.{Term, pairs, every, reads}
use Rattle.forms.specs.Numbering.{met}
use Rattle.forms.specs.Compact.{compact, pair_form}
use Rattle.forms.specs.Stored.{StoredForm, compact_stored, pair_stored, stores_pairs, stored_of}
use Rattle.forms.proofs.ShapeLaws.{marks}
use Rattle.forms.proofs.ReadLaws.{WellFormed, AllWellFormed, compact-size}
use Rattle.forms.proofs.CompactLaws.{prefix-free}
use Rattle.forms.proofs.FormLaws.{pairs-size}
use Rattle.forms.proofs.ExactLaws.{reads-every, forms-every}
use Rattle.forms.proofs.StoredLaws.{StoredLaws, stored_of_lem}
use Rattle.parts.specs.Parts.{GroundForm}
use Rattle.parts.specs.Segments.{weights, all_take}
use Rattle.parts.proofs.Scanning.{Passes, Keeps, passes-term, keeps-term, passes-cells, keeps-cells}
use Rattle.parts.proofs.Counting.{Counted, counted, counted-cells, every-counted}

pub record TokenLaws (arity : ℕ → ℕ) (s : StoredForm) : Type 0 where
  -- a pass over them, and over the lists among them, comes to the end of the term
  pub passes : (t : Term) (k : ℕ) → WellFormed (shape_of arity) t k → Passes arity (s.tokens t) k
  pub keeps : (t : Term) (k : ℕ) → WellFormed (shape_of arity) t k → Keeps (s.tokens t)
  -- they tell how many cells the term has, and are neither many more nor many less
  pub counts : (t : Term) → WellFormed (shape_of arity) t 0 → Counted arity (s.tokens t) 0 (length (pairs t))
  pub above : (t : Term) → 2 * length (s.tokens t) + 1 ≤ 3 * length (pairs t)
  pub below : (t : Term) → length (pairs t) + 1 ≤ 2 * length (s.tokens t)
  -- they tell the term
  pub only : (t u : Term) → WellFormed (shape_of arity) t 0 → WellFormed (shape_of arity) u 0 → s.tokens t ≡ s.tokens u → t ≡ u
  pub cells : (ts : List Term) → AllWellFormed (shape_of arity) ts → s.cells (every s.tokens ts) ≡ every pairs ts

module _ (arity : ℕ → ℕ) where
  one : (t : Term) → every pairs (t ∷ []) ≡ pairs t
  unfolding every
  one t = append-nil (pairs t)

  pub pairs-only : (t u : Term) → WellFormed (shape_of arity) t 0 → WellFormed (shape_of arity) u 0 → pairs t ≡ pairs u → t ≡ u
  pairs-only t u h k e =
      let a : reads (shape_of arity) (pairs t) ≡ t ∷ [] = ap (reads (shape_of arity)) (sym (one t)) ∙ reads-every arity (t ∷ []) (h, tt) in
      let b : reads (shape_of arity) (pairs u) ≡ u ∷ [] = ap (reads (shape_of arity)) (sym (one u)) ∙ reads-every arity (u ∷ []) (k, tt) in
      let d : t ∷ [] ≡ u ∷ [] = sym a ∙ ap (reads (shape_of arity)) e ∙ b in
      cc

  compact-cells : (ts : List Term) → AllWellFormed (shape_of arity) ts → pair_form arity (every compact ts) ≡ every pairs ts
  unfolding pair_form
  compact-cells ts h = ap (every pairs) (forms-every arity ts h)

  compact-tokens : TokenLaws arity (compact_stored arity)
  compact-tokens = record {
    passes = passes-term arity;
    keeps = keeps-term arity;
    counts = λ t h. counted arity t 0 h;
    above = compact-size;
    below = pairs-size;
    only = λ t u h k e. (prefix-free (shape_of arity) (token_of arity) (marks arity) t u [] h k (append-nil (compact t) ∙ e)).0;
    cells = compact-cells;
  }

  pair-tokens : TokenLaws arity (pair_stored arity)
  pair-tokens = record {
    passes = passes-cells arity;
    keeps = keeps-cells arity;
    counts = λ t h. counted-cells arity t 0 h;
    above = λ t. omega (arith, compact-size t);
    below = λ t. omega (arith, compact-size t);
    only = pairs-only;
    cells = λ ts h. refl;
  }

pub tokens-of : (e : ℕ) → TokenLaws (arity_of e) (stored_of e)
unfolding stored_of
tokens-of e = by_cases (stores_pairs e) (λ x. rw x (pair-tokens (arity_of e))) (λ x. rw x (compact-tokens (arity_of e)))

-- an arity rule and a stored form, with what holds of them
pub record Rule : Type 0 where
  pub arity : ℕ → ℕ
  pub stored : StoredForm
  pub laws : StoredLaws arity stored
  pub tokens : TokenLaws arity stored

abbrev pub rule_of : ℕ → Rule
rule_of e = record { arity = arity_of e; stored = stored_of e; laws = stored_of_lem e; tokens = tokens-of e }

-- a legal form without variables
pub ground-form : (rule : Rule) (m : ℕ) (w : List ℕ) → rule.stored.legal m w ≡ true → length (met [] w) ≡ 0 → GroundForm rule.stored m w
ground-form rule m w h g =
    let x = rule.laws.exact-terms m w (rule.laws.legal-exact m w h) in
    record { legal = h; ground = g; count = x.count; tokens = x.tokens }

-- ---- the tokens of several terms

module _ (rule : Rule) where
  abbrev tokens : Term → List ℕ
  tokens = rule.stored.tokens

  every-above : (ts : List Term) → 2 * length (every tokens ts) + length ts ≤ 3 * length (every pairs ts)
  unfolding every
  every-above [] = omega arith
  every-above (t ∷ ts) = omega (arith, length-append (tokens t) (every tokens ts), length-append (pairs t) (every pairs ts), rule.tokens.above t, every-above ts)

  pub every-short : (ts : List Term) → length (every pairs ts) ≤ 256 → length (every tokens ts) ≤ 383
  every-short [] h = unfold every in omega arith
  every-short (t ∷ ts) h = omega (arith, every-above (t ∷ ts))

  pub every-below : (ts : List Term) → length (every pairs ts) + length ts ≤ 2 * length (every tokens ts)
  unfolding every
  every-below [] = omega arith
  every-below (t ∷ ts) = omega (arith, length-append (tokens t) (every tokens ts), length-append (pairs t) (every pairs ts), rule.tokens.below t, every-below ts)

  pub every-least : (ts : List Term) → length ts ≤ length (every tokens ts)
  unfolding every
  every-least [] = omega arith
  every-least (t ∷ ts) = omega (arith, length-append (tokens t) (every tokens ts), rule.tokens.below t, every-least ts)

  pub every-counts : (ts : List Term) → AllWellFormed (shape_of rule.arity) ts
      → length (every pairs ts) + (all_take rule.arity (every tokens ts) + length ts) ≡ weights rule.arity (every tokens ts)
  every-counts ts h = every-counted rule.arity tokens rule.tokens.counts ts h
