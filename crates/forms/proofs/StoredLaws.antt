-- What the theorems on codings ask of a stored form beside demand 2; both forms have it.
use Prim.Native.Nat.{ℕ, suc, ◌≤◌}
use mathlib.Core.List.{List, [], ◌∷◌, ◌++◌, append_assoc}
use mathlib.Core.Bool.{true, false}
use mathlib.Core.Path.{◌≡◌, refl, ap, ◌∙◌}
use native.Mathlib.Omega.{arith}
use lib.ListN.{length, get_or}
use lib.Dec.{eqb}
use borrow.Author.Tests.{eqb-true}
use Rattle.basis.proofs.Cases.{by_cases}
use Rattle.forms.specs.Cells.{callable, shape_of, arity_of}
use Rattle.forms.specs.Terms.{Term, cell, arg, pair, pairs, every, reads, are_terms}
use Rattle.forms.specs.Numbering.{met}
use Rattle.forms.specs.Compact.{compact, items, front, form_terms, pair_form, are_forms}
use Rattle.forms.specs.Stored.{StoredForm, compact_stored, pair_stored, stores_pairs, stored_of}
use Rattle.forms.specs.Converting.{converter_edition}
use Rattle.forms.specs.Promises.{Demand2}
use Rattle.forms.proofs.ReadLaws.{AllWellFormed, reads-well-formed}
use Rattle.forms.proofs.ExactLaws.{terms-pairs, forms-compact, forms-well-formed}
use Rattle.forms.proofs.RoundTrip.{pair-variables, legal-parts}
use Rattle.forms.proofs.Theorems.{compact-demand}
use Rattle.forms.proofs.PairForms.{pair-demand, legal-pairs}

-- the terms of m forms: so many, well formed, the tokens theirs, the cells their pair form, which meets the variables that the forms meet
pub record ExactTerms (arity : ℕ → ℕ) (s : StoredForm) (m : ℕ) (fs : List ℕ) : Type 0 where
  pub count : length (s.terms fs) ≡ m
  pub well-formed : AllWellFormed (shape_of arity) (s.terms fs)
  pub tokens : fs ≡ every s.tokens (s.terms fs)
  pub cells : s.cells fs ≡ every pairs (s.terms fs)
  pub variables : met [] (s.cells fs) ≡ met [] fs

pub record StoredLaws (arity : ℕ → ℕ) (s : StoredForm) : Type 0 where
  pub demand : Demand2 arity s
  pub legal-exact : (m : ℕ) (fs : List ℕ) → s.legal m fs ≡ true → s.exact m fs ≡ true
  pub exact-terms : (m : ℕ) (fs : List ℕ) → s.exact m fs ≡ true → ExactTerms arity s m fs
  -- a term begins with an atom or a functor in its form and in pair form, or in neither
  pub exact-begins : (fs : List ℕ) → s.exact 1 fs ≡ true → callable (get_or fs 0 0) ≡ callable (get_or (s.cells fs) 0 0)
  -- no terms have no tokens, and a term has one
  pub exact_none : s.exact 0 [] ≡ true
  pub exact-some : (m : ℕ) → s.exact (suc m) [] ≡ true → ⊥
  pub within : s.longest ≤ 383

module _ (arity : ℕ → ℕ) where
  -- ---- compact form

  compact-none : are_forms arity 0 [] ≡ true
  unfolding are_forms form_terms front items every
  compact-none = refl

  compact-some : (m : ℕ) → are_forms arity (suc m) [] ≡ true → ⊥
  compact-some m h = let z : 0 ≡ suc m = unfold form_terms front items in (forms-compact arity (suc m) [] h).0 in omega arith

  first_cell : (t : Term) (r q : List ℕ) → callable (get_or (compact t ++ r) 0 0) ≡ callable (get_or (pairs t ++ q) 0 0)
  unfolding compact pairs callable
  first_cell (cell c) r q = refl
  first_cell (arg f a) r q = rw (append_assoc (compact f) (compact a) r, append_assoc (pairs f) (pairs a) q) (first_cell f (compact a ++ r) (pairs a ++ q))
  first_cell (pair h t) r q = refl

  first-of-one : (ts : List Term) → length ts ≡ 1 → callable (get_or (every compact ts) 0 0) ≡ callable (get_or (every pairs ts) 0 0)
  unfolding every
  first-of-one [] e = absurd (omega arith)
  first-of-one (t ∷ ts) e = first_cell t (every compact ts) (every pairs ts)

  compact-begins : (fs : List ℕ) → are_forms arity 1 fs ≡ true → callable (get_or fs 0 0) ≡ callable (get_or (pair_form arity fs) 0 0)
  unfolding pair_form
  compact-begins fs h =
      let f = forms-compact arity 1 fs h in
      ap (λ (l : List ℕ). callable (get_or l 0 0)) f.1 ∙ first-of-one (form_terms arity fs) f.0

  pub compact-stored : StoredLaws arity (compact_stored arity)
  compact-stored = record {
    demand = compact-demand arity;
    legal-exact = λ m fs h. (legal-parts arity m fs h).forms;
    exact-terms = λ m fs h. record {
      count = (forms-compact arity m fs h).0;
      well-formed = forms-well-formed arity fs;
      tokens = (forms-compact arity m fs h).1;
      cells = unfold pair_form in refl;
      variables = pair-variables arity m fs h;
    };
    exact-begins = compact-begins;
    exact_none = compact-none;
    exact-some = compact-some;
    within = omega arith;
  }

  -- ---- numbered pair form

  pairs-none : are_terms arity 0 [] ≡ true
  unfolding are_terms reads every
  pairs-none = refl

  pairs-some : (m : ℕ) → are_terms arity (suc m) [] ≡ true → ⊥
  pairs-some m h = let z : 0 ≡ suc m = unfold reads in (terms-pairs arity (suc m) [] h).0 in omega arith

  pub pair-stored : StoredLaws arity (pair_stored arity)
  pair-stored = record {
    demand = pair-demand arity;
    legal-exact = λ m fs h. (legal-pairs arity m fs h).0.terms;
    exact-terms = λ m fs h. record {
      count = (terms-pairs arity m fs h).0;
      well-formed = reads-well-formed (shape_of arity) fs;
      tokens = (terms-pairs arity m fs h).1;
      cells = (terms-pairs arity m fs h).1;
      variables = refl;
    };
    exact-begins = λ fs h. refl;
    exact_none = pairs-none;
    exact-some = pairs-some;
    within = omega arith;
  }

-- of each edition
pub stored_of_lem : (e : ℕ) → StoredLaws (arity_of e) (stored_of e)
unfolding stored_of
stored_of_lem e = by_cases (stores_pairs e) (λ x. rw x (pair-stored (arity_of e))) (λ x. rw x (compact-stored (arity_of e)))

-- which of the two
pub pairs-stored : (e : ℕ) → stores_pairs e ≡ true → stored_of e ≡ pair_stored (arity_of e)
unfolding stored_of
pairs-stored e x = rw x

pub lists-stored : (e : ℕ) → stores_pairs e ≡ false → stored_of e ≡ compact_stored (arity_of e)
unfolding stored_of
lists-stored e x = rw x

-- what a converter takes stores lists
pub converter-stored : (e : ℕ) → converter_edition e ≡ true → stored_of e ≡ compact_stored (arity_of e)
unfolding converter_edition
converter-stored e x = by_cases (eqb e 1)
    (λ y. lists-stored e (rw (eqb-true e 1 y)))
    (λ y. lists-stored e (rw (eqb-true e 2 (rw y at x))))
