-- From pair form to compact form and back: what is kept on each way, and what makes a form legal.
use Prim.Native.Nat.{ℕ, ◌+◌, ◌*◌, ◌^◌, ◌≤◌, ◌<◌}
use mathlib.Core.List.{List, [], ◌∷◌, map}
use mathlib.Core.Bool.{Bool, true, false}
use mathlib.Core.Path.{◌≡◌, refl, sym, ap, ◌∙◌}
use native.Mathlib.Omega.{arith}
use lib.ListN.{length, length-map}
use lib.Dec.{eqb, leb}
use borrow.Author.Tests.{eqb-true, eq-eqb, le-leb, leb-true}
use Rattle.basis.specs.Choice.{pick}
use Rattle.forms.specs.Cells.{shape_of}
use Rattle.forms.specs.Terms.{Term, pairs, every, reads, are_terms}
use Rattle.forms.specs.Numbering.{met, renamed, numbered}
use Rattle.forms.specs.Compact.{compact, compact_form, form_terms, pair_form, same, are_forms, legal_form}
use Rattle.forms.proofs.ReadLaws.{AllWellFormed, reads-well-formed}
use Rattle.forms.proofs.NumberingLaws.{mapped, every-size, met-length, numbered-reads, numbered-length, numbered-again, numbered-met}
use Rattle.forms.proofs.FormLaws.{met_every, every-mapped, every-compact-size, every-compact-short, renamed_keeps}
use Rattle.forms.proofs.ExactLaws.{reads-every, terms-pairs, pairs-terms, forms-every, forms-well-formed, forms-compact, compact-forms}

module _ (arity : ℕ → ℕ) where
  -- numbering makes no term of what is none
  pub numbered-terms : (m : ℕ) (cs : List ℕ) → length cs ≤ 256 → are_terms arity m (numbered cs) ≡ are_terms arity m cs
  unfolding are_terms
  numbered-terms m cs h =
      let ρ : ℕ → ℕ = renamed (met [] cs) in
      let ts : List Term = reads (shape_of arity) cs in
      rw (numbered-reads arity cs h, length-map ts (mapped ρ), every-size ρ ts, numbered-length cs)

  -- ---- to compact form

  module _ (m : ℕ) (cs : List ℕ) (terms : are_terms arity m cs ≡ true) (cells : length cs ≤ 256) where
    -- the terms as they stand
    abbrev ts : List Term
    ts = reads (shape_of arity) cs

    -- the terms of the numbered form, which are compacted
    pub form-terms : (us : List Term) × AllWellFormed (shape_of arity) us × (length us ≡ m) × (numbered cs ≡ every pairs us) × (compact_form arity cs ≡ every compact us)
    unfolding compact_form
    form-terms =
        let w = terms-pairs arity m (numbered cs) (numbered-terms m cs cells ∙ terms) in
        (reads (shape_of arity) (numbered cs), reads-well-formed (shape_of arity) (numbered cs), w.0, w.1, refl)

    -- numbering and compacting commute
    pub form-numbered : compact_form arity cs ≡ numbered (every compact (reads (shape_of arity) cs))
    unfolding compact_form numbered
    form-numbered =
        let vs : List ℕ = met [] cs in
        let g : length (met [] cs) < 2 ^ 28 = omega (arith, met-length cs []) in
        let e : met [] cs ≡ met [] (every compact ts) = ap (met []) (terms-pairs arity m cs terms).1 ∙ sym (met_every ts []) in
        ap (every compact) (numbered-reads arity cs cells) ∙ every-mapped (renamed vs) (renamed_keeps vs g) ts ∙ ap (λ (l : List ℕ). map (renamed l) (every compact ts)) e

    -- m terms of s cells have a form of at most (3s - m) / 2 tokens, which is at most 383 (no terms have none)
    pub form-size : (2 * length (compact_form arity cs) + m ≤ 3 * length cs) × (length (compact_form arity cs) ≤ 383)
    form-size =
        let w = form-terms in
        let a : length (compact_form arity cs) ≡ length (every compact w.0) = ap length w.4 in
        let b : length (every pairs w.0) ≡ length cs = sym (ap length w.3) ∙ numbered-length cs in
        (omega (arith, every-compact-size w.0, w.2), rw a (every-compact-short w.0 (omega arith)))

    compact-short : length (every compact ts) ≤ 4096
    compact-short = omega (arith, every-compact-size ts, ap length (terms-pairs arity m cs terms).1)

    -- the form is numbered, and has as many variables as the cells
    pub form-again : numbered (compact_form arity cs) ≡ compact_form arity cs
    form-again = rw form-numbered (numbered-again (every compact ts) compact-short)

    pub form-variables : length (met [] (compact_form arity cs)) ≡ length (met [] cs)
    form-variables =
        ap (λ (l : List ℕ). length (met [] l)) form-numbered ∙ numbered-met (every compact ts) compact-short ∙ ap length (met_every ts [] ∙ ap (met []) (sym (terms-pairs arity m cs terms).1))

    pub form-forms : are_forms arity m (compact_form arity cs) ≡ true
    form-forms = let w = form-terms in rw w.4 (compact-forms arity m w.0 w.1 w.2)

    pub form-back : pair_form arity (compact_form arity cs) ≡ numbered cs
    unfolding pair_form
    form-back = let w = form-terms in rw (w.4, forms-every arity w.0 w.1) (sym w.3)

  -- the form of terms that are numbered as they stand, of any length
  pub form-every : (ts : List Term) → AllWellFormed (shape_of arity) ts → numbered (every pairs ts) ≡ every pairs ts → compact_form arity (every pairs ts) ≡ every compact ts
  unfolding compact_form
  form-every ts h n = rw (n, reads-every arity ts h)

  -- ---- to pair form

  module _ (m : ℕ) (fs : List ℕ) (are : are_forms arity m fs ≡ true) where
    pub pair-terms : are_terms arity m (pair_form arity fs) ≡ true
    unfolding pair_form
    pair-terms = pairs-terms arity m (form_terms arity fs) (forms-well-formed arity fs) (forms-compact arity m fs are).0

    pub pair-variables : met [] (pair_form arity fs) ≡ met [] fs
    unfolding pair_form
    pair-variables = sym (met_every (form_terms arity fs) []) ∙ ap (met []) (sym (forms-compact arity m fs are).1)

    pub pair-back : length (pair_form arity fs) ≤ 256 → compact_form arity (pair_form arity fs) ≡ numbered fs
    unfolding pair_form
    pair-back l =
        let us : List Term = form_terms arity fs in
        form-numbered m (every pairs us) pair-terms l ∙ ap numbered (ap (every compact) (reads-every arity us (forms-well-formed arity fs)) ∙ sym (forms-compact arity m fs are).1)

-- ---- legal forms

pub same_self : (xs : List ℕ) → same xs xs ≡ true
unfolding same
same_self [] = refl
same_self (x ∷ xs) = rw (eq-eqb x x refl) (same_self xs)

pub same_true : (xs ys : List ℕ) → same xs ys ≡ true → xs ≡ ys
unfolding same
same_true [] [] e = refl
same_true [] (y ∷ ys) e = let z : ◌≡◌ {A = ℕ} 0 1 = cc in absurd (omega arith)
same_true (x ∷ xs) [] e = let z : ◌≡◌ {A = ℕ} 0 1 = cc in absurd (omega arith)
same_true (x ∷ xs) (y ∷ ys) e = go (eqb x y) refl e (λ p. same_true xs ys p)
  where
    go : (b : Bool) → eqb x y ≡ b → pick b (same xs ys) false ≡ true → (same xs ys ≡ true → xs ≡ ys) → x ∷ xs ≡ y ∷ ys
    go true p q f = let a : x ≡ y = eqb-true x y p in let b : xs ≡ ys = f q in cc
    go false p q f = let z : ◌≡◌ {A = ℕ} 0 1 = cc in absurd (omega arith)

-- what makes a form legal
pub record LegalParts (arity : ℕ → ℕ) (m : ℕ) (fs : List ℕ) : Type 0 where
  pub numbers : fs ≡ numbered fs
  pub variables : length (met [] fs) ≤ 32
  pub forms : are_forms arity m fs ≡ true
  pub cells : length (pair_form arity fs) ≤ 256

pub four-tests : (x y z w : Bool) → pick x (pick y (pick z w false) false) false ≡ true → (x ≡ true) × (y ≡ true) × (z ≡ true) × (w ≡ true)
four-tests true true true w e = (refl, refl, refl, e)
four-tests true true false w e = let z : ◌≡◌ {A = ℕ} 0 1 = cc in absurd (omega arith)
four-tests true false z w e = let z : ◌≡◌ {A = ℕ} 0 1 = cc in absurd (omega arith)
four-tests false y z w e = let z : ◌≡◌ {A = ℕ} 0 1 = cc in absurd (omega arith)

module _ (arity : ℕ → ℕ) (m : ℕ) (fs : List ℕ) where
  pub parts-legal : LegalParts arity m fs → legal_form arity m fs ≡ true
  unfolding legal_form
  parts-legal p =
      let q : same fs (numbered fs) ≡ true = rw (← p.numbers) (same_self fs) in
      rw (q, le-leb (length (met [] fs)) 32 p.variables, p.forms, le-leb (length (pair_form arity fs)) 256 p.cells)

  pub legal-parts : legal_form arity m fs ≡ true → LegalParts arity m fs
  unfolding legal_form
  legal-parts h =
      let w = four-tests (same fs (numbered fs)) (leb (length (met [] fs)) 32) (are_forms arity m fs) (leb (length (pair_form arity fs)) 256) h in
      record { numbers = same_true fs (numbered fs) w.0; variables = leb-true _ _ w.1; forms = w.2; cells = leb-true _ _ w.3 }
