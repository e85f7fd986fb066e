-- Stored forms of an atom and an integer: the terms of such a form, and that it is legal. So it is in every edition, whatever its stored form.
use Prim.Native.Nat.{ℕ, ◌+◌, ◌*◌, ◌≤◌}
use mathlib.Core.Path.{◌≡◌, refl, sym, ap, ◌∙◌}
use mathlib.Core.Bool.{Bool, true, false, ◌&&◌, false≢true}
use mathlib.Core.List.{List, [], ◌∷◌, ◌++◌, map, append-nil}
use mathlib.Core.Logic.{◌⊎◌, inl, inr}
use native.Mathlib.Omega.{arith}
use lib.ListN.{length, length-append}
use lib.Dec.{eqb}
use Rattle.basis.proofs.Cases.{by_cases}
use Rattle.forms.specs.Cells.{kind, payload, constant, atomic, integral, shape_of, arity_of}
use Rattle.forms.specs.Terms.{Term, cell, arg, pair, pairs, every}
use Rattle.forms.specs.Compact.{compact, compact_form}
use Rattle.forms.specs.Stored.{stores_pairs, stored_of}
use Rattle.forms.specs.Promises.{Legal}
use Rattle.forms.proofs.ShapeLaws.{constant-shape}
use Rattle.forms.proofs.ReadLaws.{AllWellFormed, compact-size}
use Rattle.forms.proofs.FormLaws.{pairs-size}
use Rattle.forms.proofs.ExactLaws.{pairs-terms}
use Rattle.forms.proofs.LongestForms.{Constant, constant-met, constant-numbered}
use Rattle.forms.proofs.RoundTrip.{form-every}
use Rattle.forms.proofs.StoredLaws.{ExactTerms, stored_of_lem, pairs-stored, lists-stored}
use Rattle.plain.specs.Words.{Word}
use Rattle.plain.specs.Coding.{coding_of}
use Rattle.plain.specs.Detours.{one_cell, offers, option_of}
use Rattle.detours.specs.Judging.{offer_form}

-- ---- terms of one cell

pairs-some : (t : Term) → 1 ≤ length (pairs t)
pairs-some t = omega (arith, compact-size t)

-- a term is one cell, or has two or more
single : (t : Term) → ((c : ℕ) × (t ≡ cell c)) ⊎ (2 ≤ length (pairs t))
unfolding pairs
single (cell c) = inl (c, refl)
single (arg f a) = inr (omega (arith, length-append (pairs f) (pairs a), pairs-some f, pairs-some a))
single (pair h t) = inr (omega (arith, length-append (pairs h) (pairs t), pairs-some h))

module _ (e : ℕ) where
  tokens-cell : (c : ℕ) → (stored_of e).tokens (cell c) ≡ c ∷ []
  unfolding pairs compact
  tokens-cell c = by_cases (stores_pairs e) (λ p. rw (pairs-stored e p) refl) (λ p. rw (lists-stored e p) refl)

  -- no term has more cells than its tokens allow
  tokens-size : (t : Term) → length (pairs t) + 1 ≤ 2 * length ((stored_of e).tokens t)
  tokens-size t = by_cases (stores_pairs e)
      (λ p. rw (pairs-stored e p) (omega (arith, pairs-some t)))
      (λ p. rw (lists-stored e p) (pairs-size t))

-- ---- the terms of a form

one-long : (test : ℕ → Bool) (ks : List ℕ) → 2 ≤ length ks → one_cell test ks ≡ false
unfolding one_cell
one-long test [] l = refl
one-long test (x ∷ []) l = absurd (omega arith)
one-long test (x ∷ y ∷ ks) l = refl

pub form-long : (w : Word) → 3 ≤ length w → offer_form w ≡ false
unfolding offer_form
form-long [] l = refl
form-long (x ∷ []) l = absurd (omega arith)
form-long (x ∷ y ∷ []) l = absurd (omega arith)
form-long (x ∷ y ∷ z ∷ w) l = refl

two-terms : (ts : List Term) → length ts ≡ 2 → (t : Term) × (u : Term) × (ts ≡ t ∷ u ∷ [])
two-terms [] e = absurd (omega arith)
two-terms (t ∷ []) e = absurd (omega arith)
two-terms (t ∷ u ∷ []) e = (t, u, refl)
two-terms (t ∷ u ∷ v ∷ ts) e = absurd (omega arith)

and-false : (a : Bool) → (a && false) ≡ false
and-false true = refl
and-false false = refl

every_two : (f : Term → List ℕ) (t u : Term) → every f (t ∷ u ∷ []) ≡ f t ++ f u
unfolding every
every_two f t u = ap (λ (xs : List ℕ). f t ++ xs) (append-nil (f u))

module _ (e : ℕ) (w : Word) (t u : Term) (is : w ≡ (stored_of e).tokens t ++ (stored_of e).tokens u) where
  size : length w ≡ length ((stored_of e).tokens t) + length ((stored_of e).tokens u)
  size = ap length is ∙ length-append ((stored_of e).tokens t) ((stored_of e).tokens u)

  offers-second : (c : ℕ) → t ≡ cell c → ((d : ℕ) × (u ≡ cell d)) ⊎ (2 ≤ length (pairs u)) → offers (pairs t ∷ pairs u ∷ []) ≡ offer_form w
  unfolding offers one_cell offer_form pairs
  offers-second c p (inl (d, q)) = rw (is, p, q, tokens-cell e c, tokens-cell e d) refl
  offers-second c p (inr l) =
      rw (one-long integral (pairs u) l) (and-false (one_cell atomic (pairs t)))
      ∙ sym (form-long w (omega (arith, size, tokens-size e u, tokens-size e t, pairs-some t)))

  offers-first : ((c : ℕ) × (t ≡ cell c)) ⊎ (2 ≤ length (pairs t)) → offers (pairs t ∷ pairs u ∷ []) ≡ offer_form w
  unfolding offers
  offers-first (inl (c, p)) = offers-second c p (single u)
  offers-first (inr l) =
      rw (one-long atomic (pairs t) l) refl
      ∙ sym (form-long w (omega (arith, size, tokens-size e t, tokens-size e u, pairs-some u)))

  pub offers-terms : offers (pairs t ∷ pairs u ∷ []) ≡ offer_form w
  offers-terms = offers-first (single t)

-- of a form of two legal terms
module _ (e : ℕ) (w : Word) (legal : (stored_of e).legal 2 w ≡ true) where
  exactly : ExactTerms (arity_of e) (stored_of e) 2 w
  exactly = (stored_of_lem e).exact-terms 2 w ((stored_of_lem e).legal-exact 2 w legal)

  pub offers-form : offers ((coding_of e).terms w) ≡ offer_form w
  offers-form =
      let v = two-terms ((stored_of e).terms w) exactly.count in
      let f : w ≡ (stored_of e).tokens v.0 ++ (stored_of e).tokens v.1 =
      exactly.tokens ∙ ap (every (stored_of e).tokens) v.2 ∙ every_two (stored_of e).tokens v.0 v.1 in
      ap (λ (ts : List Term). offers (map pairs ts)) v.2 ∙ offers-terms e w v.0 v.1 f

-- ---- a form of two cells

and_parts : (a b : Bool) → (a && b) ≡ true → (a ≡ true) × (b ≡ true)
and_parts true b e = (refl, e)
and_parts false b e = absurd (false≢true e)

-- a form that is offered
pub record Offered (w : Word) : Type 0 where
  pub diverter : ℕ
  pub minutes : ℕ
  pub is : w ≡ diverter ∷ minutes ∷ []
  pub atom : atomic diverter ≡ true
  pub integer : integral minutes ≡ true

pub offered : (w : Word) → offer_form w ≡ true → Offered w
unfolding offer_form
offered [] e = absurd (false≢true e)
offered (x ∷ []) e = absurd (false≢true e)
offered (x ∷ y ∷ []) e = let p = and_parts (atomic x) (integral y) e in record { diverter = x; minutes = y; is = refl; atom = p.0; integer = p.1 }
offered (x ∷ y ∷ z ∷ w) e = absurd (false≢true e)

atom-constant : (x : ℕ) → atomic x ≡ true → constant x ≡ true
unfolding constant
atom-constant x a = rw a refl

integer-constant : (x : ℕ) → integral x ≡ true → constant x ≡ true
unfolding constant
integer-constant x i = by_cases (eqb (kind x) 2) (λ p. rw p refl) (λ p. rw (p, i) refl)

module _ (e x y : ℕ) (a : atomic x ≡ true) (i : integral y ≡ true) where
  abbrev terms : List Term
  terms = cell x ∷ cell y ∷ []

  well : AllWellFormed (shape_of (arity_of e)) terms
  well = ((constant-shape (arity_of e) x (atom-constant x a)).0, ((constant-shape (arity_of e) y (integer-constant y i)).0, tt))

  plain : Constant (x ∷ y ∷ [])
  plain = ((constant-shape (arity_of e) x (atom-constant x a)).1, ((constant-shape (arity_of e) y (integer-constant y i)).1, tt))

  cells_are : every pairs terms ≡ x ∷ y ∷ []
  unfolding every pairs
  cells_are = refl

  tokens-are : every compact terms ≡ x ∷ y ∷ []
  unfolding every compact
  tokens-are = refl

  legal-cells : Legal (arity_of e) 2 (x ∷ y ∷ [])
  legal-cells = record {
    terms = rw cells_are at (pairs-terms (arity_of e) 2 terms well refl);
    cells = omega arith;
    variables = rw (constant-met (x ∷ y ∷ []) [] plain) (omega arith);
  }

  compact-are : compact_form (arity_of e) (x ∷ y ∷ []) ≡ x ∷ y ∷ []
  compact-are =
      ap (compact_form (arity_of e)) (sym cells_are)
      ∙ form-every (arity_of e) terms well (rw cells_are (constant-numbered (x ∷ y ∷ []) plain)) ∙ tokens-are

  form-are : (stored_of e).form (x ∷ y ∷ []) ≡ x ∷ y ∷ []
  form-are = by_cases (stores_pairs e)
      (λ p. rw (pairs-stored e p) (constant-numbered (x ∷ y ∷ []) plain))
      (λ p. rw (lists-stored e p) compact-are)

  -- an atom and an integer are a legal form
  pub offer-legal : (stored_of e).legal 2 (x ∷ y ∷ []) ≡ true
  offer-legal = ap ((stored_of e).legal 2) (sym form-are) ∙ ((stored_of_lem e).demand.stored 2 (x ∷ y ∷ []) legal-cells).0

heads : {a b : ℕ} {xs ys : List ℕ} → a ∷ xs ≡ b ∷ ys → (a ≡ b) × (xs ≡ ys)
heads p = (cc, cc)

-- two tokens of two terms are their cells
both-cells : (e : ℕ) (t u : Term) (x y : ℕ) → (stored_of e).tokens t ++ (stored_of e).tokens u ≡ x ∷ y ∷ []
    → ((c : ℕ) × (t ≡ cell c)) ⊎ (2 ≤ length (pairs t)) → ((c : ℕ) × (u ≡ cell c)) ⊎ (2 ≤ length (pairs u))
    → map pairs (t ∷ u ∷ []) ≡ (x ∷ []) ∷ (y ∷ []) ∷ []
unfolding pairs
both-cells e t u x y f (inl (c, p)) (inl (d, q)) =
    let g : c ∷ d ∷ [] ≡ x ∷ y ∷ [] = rw (p, q, tokens-cell e c, tokens-cell e d) at f in
    rw (p, q) (ap (λ (k : ℕ). (k ∷ []) ∷ (d ∷ []) ∷ []) (heads g).0 ∙ ap (λ (k : ℕ). (x ∷ []) ∷ (k ∷ []) ∷ []) (heads (heads g).1).0)
both-cells e t u x y f (inl c) (inr l) =
    absurd (omega (arith, ap length f, length-append ((stored_of e).tokens t) ((stored_of e).tokens u), tokens-size e t, tokens-size e u, pairs-some t))
both-cells e t u x y f (inr l) r =
    absurd (omega (arith, ap length f, length-append ((stored_of e).tokens t) ((stored_of e).tokens u), tokens-size e t, tokens-size e u, pairs-some u))

-- what an answer of such a form offers
module _ (e a : ℕ) (w : Word) (o : Offered w) where
  option-terms : (coding_of e).terms w ≡ (o.diverter ∷ []) ∷ (o.minutes ∷ []) ∷ [] → option_of (coding_of e) (record { number = a; form = w })
      ≡ record { number = a; diverter = o.diverter; minutes = payload o.minutes }
  option-terms f = rw f refl

  -- the two terms are cells
  terms-cells : (stored_of e).legal 2 w ≡ true → (coding_of e).terms w ≡ (o.diverter ∷ []) ∷ (o.minutes ∷ []) ∷ []
  terms-cells l =
      let x = (stored_of_lem e).exact-terms 2 w ((stored_of_lem e).legal-exact 2 w l) in
      let v = two-terms ((stored_of e).terms w) x.count in
      let f : (stored_of e).tokens v.0 ++ (stored_of e).tokens v.1 ≡ o.diverter ∷ o.minutes ∷ [] =
      sym (x.tokens ∙ ap (every (stored_of e).tokens) v.2 ∙ every_two (stored_of e).tokens v.0 v.1) ∙ o.is in
      ap (map pairs) v.2 ∙ both-cells e v.0 v.1 o.diverter o.minutes f (single v.0) (single v.1)

  pub option_is : (stored_of e).legal 2 w ≡ true → option_of (coding_of e) (record { number = a; form = w })
      ≡ record { number = a; diverter = o.diverter; minutes = payload o.minutes }
  option_is l = option-terms (terms-cells l)
