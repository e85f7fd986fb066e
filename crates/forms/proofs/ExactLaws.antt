-- Cells that are exactly m terms of pair form, or exactly m of compact form, and the terms that stand there.
use Prim.Native.Nat.{ℕ}
use mathlib.Core.List.{List, [], ◌∷◌, ◌++◌, append_assoc, append-nil}
use mathlib.Core.Bool.{Bool, true, false}
use mathlib.Core.Path.{◌≡◌, refl, sym, ap, ◌∙◌}
use native.Mathlib.Omega.{arith}
use lib.ListN.{length}
use lib.Seq.{take-length}
use lib.Dec.{eqb}
use borrow.Author.Tests.{eqb-true, eq-eqb}
use Rattle.basis.specs.Choice.{pick}
use Rattle.forms.specs.declared.Shape.TheVariants.{Pair}
use Rattle.forms.specs.Cells.{PAIR, shape_of, token_of}
use Rattle.forms.specs.Terms.{Term, pairs, every, applied, reads, are_terms}
use Rattle.forms.specs.Compact.{compact, Item, term, last, tail, filled, items, front, form_terms, are_forms}
use Rattle.forms.proofs.ShapeLaws.{marks, pair-cell-of}
use Rattle.forms.proofs.ReadLaws.{AllWellFormed, reads-pairs, split}
use Rattle.forms.proofs.CompactLaws.{items-compact, items_back, items-well-formed, same-length-empty, All, forms, form_of}

pub both_equal : (a b c d : ℕ) → pick (eqb a b) (eqb c d) false ≡ true → (a ≡ b) × (c ≡ d)
both_equal a b c d e = go (eqb a b) refl e
  where
    go : (t : Bool) → eqb a b ≡ t → pick t (eqb c d) false ≡ true → (a ≡ b) × (c ≡ d)
    go true p q = (eqb-true a b p, eqb-true c d q)
    go false p q = let z : ◌≡◌ {A = ℕ} 0 1 = cc in omega arith

-- cells that begin with a form and are no longer than it are the form
pub whole-form : (f rest cs : List ℕ) → cs ≡ f ++ rest → length f ≡ length cs → cs ≡ f
whole-form f rest cs e l = e ∙ rw (same-length-empty f rest (sym (ap length e) ∙ sym l), append-nil)

pub pair-shape : (arity : ℕ → ℕ) → shape_of arity PAIR ≡ Pair
unfolding shape_of
pair-shape arity = refl

-- the forms of what is read begin with those of the terms that stand first
front-forms : (is : List Item) → (rest : List ℕ) × (forms is ≡ every compact (front is) ++ rest)
unfolding forms form_of front every
front-forms [] = ([], refl)
front-forms (term t ∷ is) = let w = front-forms is in (w.0, rw w.1 (sym (append_assoc (compact t) (every compact (front is)) w.0)))
front-forms (last t ∷ is) = (forms (last t ∷ is), refl)
front-forms (tail t ∷ is) = (forms (tail t ∷ is), refl)

module _ (arity : ℕ → ℕ) where
  -- ---- pair form

  pub reads-every : (ts : List Term) → AllWellFormed (shape_of arity) ts → reads (shape_of arity) (every pairs ts) ≡ ts
  unfolding every reads applied
  reads-every [] h = refl
  reads-every (t ∷ ts) h = rw (reads-pairs (shape_of arity) (pair-shape arity) t 0 (every pairs ts) h.0, reads-every ts h.1)

  pub terms-pairs : (m : ℕ) (cs : List ℕ) → are_terms arity m cs ≡ true → (length (reads (shape_of arity) cs) ≡ m) × (cs ≡ every pairs (reads (shape_of arity) cs))
  unfolding are_terms
  terms-pairs m cs h =
      let ts : List Term = reads (shape_of arity) cs in
      let w = both_equal (length ts) m (length (every pairs ts)) (length cs) h in
      let s = split (shape_of arity) (pair-cell-of arity) cs (length ts) (omega arith) in
      (w.0, whole-form (every pairs ts) s.0 cs (s.1 ∙ rw (take-length ts)) w.1)

  pub pairs-terms : (m : ℕ) (ts : List Term) → AllWellFormed (shape_of arity) ts → length ts ≡ m → are_terms arity m (every pairs ts) ≡ true
  unfolding are_terms
  pairs-terms m ts h e = rw (reads-every ts h, eq-eqb (length ts) m e, eq-eqb (length (every pairs ts)) (length (every pairs ts)) refl)

  -- ---- compact form

  -- reading goes on behind the forms of terms
  pub front-every : (ts : List Term) (rest : List ℕ) → AllWellFormed (shape_of arity) ts
      → front (items (token_of arity) (every compact ts ++ rest)) ≡ ts ++ front (items (token_of arity) rest)
  unfolding every front filled
  front-every [] rest h = refl
  front-every (t ∷ ts) rest h =
      rw (append_assoc (compact t) (every compact ts) rest, items-compact (shape_of arity) (token_of arity) (marks arity) t 0 (every compact ts ++ rest) h.0, front-every ts rest h.1)

  pub forms-every : (ts : List Term) → AllWellFormed (shape_of arity) ts → form_terms arity (every compact ts) ≡ ts
  unfolding form_terms items front
  forms-every ts h = ap (λ (l : List ℕ). front (items (token_of arity) l)) (sym (append-nil (every compact ts))) ∙ front-every ts [] h ∙ append-nil ts

  front-well-formed : (is : List Item) → All (shape_of arity) (token_of arity) (marks arity) is → AllWellFormed (shape_of arity) (front is)
  unfolding front
  front-well-formed [] a = tt
  front-well-formed (term t ∷ is) a = (a.0, front-well-formed is a.1)
  front-well-formed (last t ∷ is) a = tt
  front-well-formed (tail t ∷ is) a = tt

  pub forms-well-formed : (fs : List ℕ) → AllWellFormed (shape_of arity) (form_terms arity fs)
  unfolding form_terms
  forms-well-formed fs = front-well-formed (items (token_of arity) fs) (items-well-formed (shape_of arity) (token_of arity) (marks arity) fs)

  pub forms-compact : (m : ℕ) (fs : List ℕ) → are_forms arity m fs ≡ true → (length (form_terms arity fs) ≡ m) × (fs ≡ every compact (form_terms arity fs))
  unfolding are_forms form_terms
  forms-compact m fs h =
      let is : List Item = items (token_of arity) fs in
      let w = both_equal (length (front is)) m (length (every compact (front is))) (length fs) h in
      let b = items_back (shape_of arity) (token_of arity) (marks arity) fs in
      let f = front-forms is in
      (w.0, whole-form (every compact (front is)) (f.0 ++ b.0) fs (b.1 ∙ rw f.1 (append_assoc (every compact (front is)) f.0 b.0)) w.1)

  pub compact-forms : (m : ℕ) (ts : List Term) → AllWellFormed (shape_of arity) ts → length ts ≡ m → are_forms arity m (every compact ts) ≡ true
  unfolding are_forms
  compact-forms m ts h e = rw (forms-every ts h, eq-eqb (length ts) m e, eq-eqb (length (every compact ts)) (length (every compact ts)) refl)
