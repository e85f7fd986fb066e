-- One pass over the tokens of a form finds where its terms begin: by the arguments still due and the lists still open.
use Prim.Native.Nat.{ℕ, zero, suc, ◌+◌, ◌<◌}
use mathlib.Core.Bool.{Bool, true, false, false≢true}
use mathlib.Core.List.{List, [], ◌∷◌, ◌++◌, append_assoc}
use mathlib.Core.Path.{◌≡◌, refl, sym, ap, ◌∙◌}
use native.Mathlib.Omega.{arith}
use native.Mathlib.Nat.{add-suc, suc-add, zero-add, add-zero, add_assoc}
use lib.Dec.{eqb}
use lib.ListN.{length, length-append}
use borrow.Author.Tests.{eqb-true}
use Rattle.basis.specs.Choice.{pick}
use Rattle.basis.proofs.Cases.{by_cases}
use Rattle.forms.specs.declared.Shape.TheVariants.{Symbol, Illegal}
use Rattle.forms.specs.Cells.{nil, PAIR, BLIST, ELIST, EPAIR, shape_of}
use Rattle.forms.specs.Due.{arguments, due_after}
use Rattle.forms.specs.Terms.{Term, cell, arg, pair, pairs}
use Rattle.forms.specs.Compact.{compact, elements}
use Rattle.forms.proofs.ReadLaws.{WellFormed}
use Rattle.parts.specs.Segments.{closing, takes}

-- ---- the pass

abbrev pub is_none : ℕ → Bool
is_none zero = true
is_none (suc n) = false

-- one less
abbrev pub less : ℕ → ℕ
less zero = zero
less (suc n) = n

-- the lists open after a token
unfoldable pub depth_after : ℕ → ℕ → ℕ
depth_after c depth = pick (eqb c BLIST) (suc depth) (pick (closing c) (less depth) depth)

-- no list is closed that was not opened
unfoldable pub Sound : List ℕ → ℕ → Type 0
Sound [] depth = Unit {0}
Sound (c ∷ cs) depth = (closing c ≡ true → 0 < depth) × Sound cs (depth_after c depth)

module _ (arity : ℕ → ℕ) where
  -- the arguments due after a token, where one was due at least; within a list none is taken
  unfoldable pub due_after_token : ℕ → ℕ → ℕ → ℕ
  due_after_token c due depth = pick (eqb c BLIST) due (pick (closing c) due (pick (is_none depth) (due_after due (takes arity c)) due))

  -- the places at which a term begins: those where nothing is due
  unfoldable pub begins : List ℕ → ℕ → ℕ → ℕ → List ℕ
  begins [] at due depth = []
  begins (c ∷ cs) at due depth =
      pick (is_none due) (at ∷ begins cs (suc at) (due_after_token c 1 depth) (depth_after c depth))
      (begins cs (suc at) (due_after_token c due depth) (depth_after c depth))

  -- ---- one token

  -- what is due after one term that waited for k arguments, where it and `due` more were
  abbrev pub passed : ℕ → ℕ → ℕ → ℕ
  passed k due zero = k + due
  passed k due (suc depth) = suc due

  symbol-closing : (c k : ℕ) → shape_of arity c ≡ Symbol k → (eqb c BLIST ≡ false) × (closing c ≡ false)
  unfolding closing shape_of
  symbol-closing c k e = (
    by_cases (eqb c BLIST) (λ p. absurd (never BLIST (eqb-true c BLIST p) refl)) (λ p. p),
    by_cases (eqb c ELIST) (λ p. absurd (never ELIST (eqb-true c ELIST p) refl)) (λ p. rw p
        (by_cases (eqb c EPAIR) (λ q. absurd (never EPAIR (eqb-true c EPAIR q) refl)) (λ q. q))),
  )
    where
      never : (x : ℕ) → c ≡ x → shape_of arity x ≡ Illegal → ⊥
      never x p q = let d : shape_of arity c ≡ Illegal = ap (shape_of arity) p ∙ q in let z : ◌≡◌ {A = ℕ} 0 1 = cc in omega arith

  symbol-due : (c k due depth : ℕ) → shape_of arity c ≡ Symbol k → due_after_token c (suc due) depth ≡ passed k due depth
  unfolding due_after_token arguments
  symbol-due c k due zero e = let s = symbol-closing c k e in rw (s.0, s.1, e) (omega arith)
  symbol-due c k due (suc depth) e = let s = symbol-closing c k e in rw (s.0, s.1)

  symbol-depth : (c k depth : ℕ) → shape_of arity c ≡ Symbol k → depth_after c depth ≡ depth
  unfolding depth_after
  symbol-depth c k depth e = let s = symbol-closing c k e in rw (s.0, s.1)

  -- ---- a term

  -- the pass over the tokens of a term that waits for k arguments
  abbrev pub Passes : List ℕ → ℕ → Type 0
  Passes w k = (at due depth : ℕ) (r : List ℕ)
      → begins (w ++ r) at (suc due) depth ≡ begins r (at + length w) (passed k due depth) depth

  passes-cell : (c k : ℕ) → shape_of arity c ≡ Symbol k → Passes (c ∷ []) k
  unfolding begins
  passes-cell c k e at due depth r = rw (symbol-due c k due depth e, symbol-depth c k depth e, add-suc, add-zero)

  -- between a term and the argument behind it, something is due
  between : (k due depth : ℕ) → (x : ℕ) × (passed (suc k) due depth ≡ suc x) × (passed 0 x depth ≡ passed k due depth)
  between k due zero = (k + due, suc-add k due, zero-add (k + due))
  between k due (suc depth) = (due, refl, refl)

  passes-both : (x y : List ℕ) (k : ℕ) → Passes x (suc k) → Passes y 0 → Passes (x ++ y) k
  passes-both x y k p q at due depth r =
      let b = between k due depth in
      rw (append_assoc x y r, p at due depth (y ++ r), b.1, q (at + length x) b.0 depth r, b.2, length-append x y, add_assoc)

  -- the pass over the elements of an open list, of which the first has the form e
  abbrev Closes : List ℕ → Type 0
  Closes w = (at due depth : ℕ) (r : List ℕ)
      → begins (w ++ r) at (suc due) (suc depth) ≡ begins r (at + length w) (passed 0 due depth) depth

  closes-last : (e : List ℕ) → Passes e 0 → Closes (ELIST ∷ e)
  unfolding begins due_after_token depth_after closing
  closes-last e p at due depth r = p (suc at) due depth r ∙ rw (suc-add, add-suc)

  closes-tail : (e w : List ℕ) → Passes e 0 → Passes w 0 → Closes (e ++ (EPAIR ∷ w))
  unfolding begins due_after_token depth_after closing
  closes-tail e w p q at due depth r =
      rw (append_assoc e (EPAIR ∷ w) r, p at due (suc depth) ((EPAIR ∷ w) ++ r), q (suc (at + length e)) due depth r, length-append e (EPAIR ∷ w), suc-add)
      (ap (λ (i : ℕ). begins r i (passed 0 due depth) depth) (omega arith))

  closes-more : (e w : List ℕ) → Passes e 0 → Closes w → Closes (e ++ w)
  closes-more e w p q at due depth r =
      rw (append_assoc e w r, p at due (suc depth) (w ++ r), q (at + length e) due depth r, length-append e w, add_assoc)

  closes-cell : (c : ℕ) (e : List ℕ) (b : Bool) → shape_of arity c ≡ Symbol 0 → Passes e 0 → Closes (pick b (ELIST ∷ e) (e ++ (EPAIR ∷ c ∷ [])))
  closes-cell c e true s p = closes-last e p
  closes-cell c e false s p = closes-tail e (c ∷ []) p (passes-cell c 0 s)

  passes-list : (w : List ℕ) (k : ℕ) → k ≡ 0 → Closes w → Passes (BLIST ∷ w) k
  unfolding begins due_after_token depth_after
  passes-list w k z q at due depth r = rw z (q (suc at) due depth r ∙ rw (suc-add, add-suc))

  mutual
    unfolding compact

    pub passes-term : (t : Term) (k : ℕ) → WellFormed (shape_of arity) t k → Passes (compact t) k
    passes-term (cell c) k h = passes-cell c k h
    passes-term (arg f a) k h = passes-both (compact f) (compact a) k (passes-term f (suc k) h.0) (passes-term a 0 h.1)
    passes-term (pair h t) k l = passes-list (elements (compact h) t) k l.0 (closes-elements t (compact h) l.2 (passes-term h 0 l.1))

    closes-elements : (t : Term) (e : List ℕ) → WellFormed (shape_of arity) t 0 → Passes e 0 → Closes (elements e t)
    closes-elements (cell c) e h p = closes-cell c e (eqb c nil) h p
    closes-elements (arg f a) e h p = closes-tail e (compact f ++ compact a) p (passes-both (compact f) (compact a) 0 (passes-term f 1 h.0) (passes-term a 0 h.1))
    closes-elements (pair h t) e l p = closes-more e (elements (compact h) t) p (closes-elements t (compact h) l.2 (passes-term h 0 l.1))

  -- a term begins where nothing is due
  pub begins-here : (w : List ℕ) (at depth : ℕ) → 0 < length w → begins w at 0 depth ≡ at ∷ begins w at 1 depth
  unfolding begins
  begins-here [] at depth h = absurd (omega arith)
  begins-here (c ∷ w) at depth h = refl

  -- ---- pair form

  pair-due : (due : ℕ) → due_after_token PAIR (suc due) 0 ≡ suc (suc due)
  unfolding due_after_token closing arguments shape_of
  pair-due due = omega arith

  pair-within : (due depth : ℕ) → due_after_token PAIR (suc due) (suc depth) ≡ suc due
  unfolding due_after_token closing
  pair-within due depth = refl

  pair-depth : (depth : ℕ) → depth_after PAIR depth ≡ depth
  unfolding depth_after closing
  pair-depth depth = refl

  passes-pair : (x y : List ℕ) (k : ℕ) → k ≡ 0 → Passes x 0 → Passes y 0 → Passes (PAIR ∷ (x ++ y)) k
  unfolding begins
  passes-pair x y k z p q at due zero r =
      rw (z, pair-due due, pair-depth 0, append_assoc x y r, p (suc at) (suc due) 0 (y ++ r), zero-add (suc due), q (suc at + length x) due 0 r, length-append x y)
      (ap (λ (i : ℕ). begins r i (0 + due) 0) (omega arith))
  passes-pair x y k z p q at due (suc depth) r =
      rw (pair-within due depth, pair-depth (suc depth), append_assoc x y r, p (suc at) due (suc depth) (y ++ r), q (suc at + length x) due (suc depth) r, length-append x y)
      (ap (λ (i : ℕ). begins r i (suc due) (suc depth)) (omega arith))

  pub passes-cells : (t : Term) (k : ℕ) → WellFormed (shape_of arity) t k → Passes (pairs t) k
  unfolding pairs
  passes-cells (cell c) k h = passes-cell c k h
  passes-cells (arg f a) k h = passes-both (pairs f) (pairs a) k (passes-cells f (suc k) h.0) (passes-cells a 0 h.1)
  passes-cells (pair h t) k l = passes-pair (pairs h) (pairs t) k l.0 (passes-cells h 0 l.1) (passes-cells t 0 l.2)

-- ---- lists are closed where they are open

abbrev pub Keeps : List ℕ → Type 0
Keeps w = (depth : ℕ) (r : List ℕ) → Sound r depth → Sound (w ++ r) depth

abbrev Shuts : List ℕ → Type 0
Shuts w = (depth : ℕ) (r : List ℕ) → Sound r depth → Sound (w ++ r) (suc depth)

keeps-both : (x y : List ℕ) → Keeps x → Keeps y → Keeps (x ++ y)
keeps-both x y p q depth r s = rw (append_assoc x y r) (p depth (y ++ r) (q depth r s))

shuts-last : (e : List ℕ) → Keeps e → Shuts (ELIST ∷ e)
unfolding Sound depth_after closing
shuts-last e p depth r s = ((λ _. omega arith), p depth r s)

shuts-tail : (e w : List ℕ) → Keeps e → Keeps w → Shuts (e ++ (EPAIR ∷ w))
unfolding Sound depth_after closing
shuts-tail e w p q depth r s = rw (append_assoc e (EPAIR ∷ w) r) (p (suc depth) ((EPAIR ∷ w) ++ r) ((λ _. omega arith), q depth r s))

shuts-more : (e w : List ℕ) → Keeps e → Shuts w → Shuts (e ++ w)
shuts-more e w p q depth r s = rw (append_assoc e w r) (p (suc depth) (w ++ r) (q depth r s))

keeps-list : (w : List ℕ) → Shuts w → Keeps (BLIST ∷ w)
unfolding Sound depth_after closing
keeps-list w q depth r s = ((λ e. absurd (false≢true e)), q depth r s)

module _ (arity : ℕ → ℕ) where
  keeps-cell : (c k : ℕ) → shape_of arity c ≡ Symbol k → Keeps (c ∷ [])
  unfolding Sound
  keeps-cell c k e depth r s =
      ((λ p. absurd (false≢true (sym (symbol-closing arity c k e).1 ∙ p))), rw (symbol-depth arity c k depth e) s)

  shuts_cell : (c : ℕ) (e : List ℕ) (b : Bool) → shape_of arity c ≡ Symbol 0 → Keeps e → Shuts (pick b (ELIST ∷ e) (e ++ (EPAIR ∷ c ∷ [])))
  shuts_cell c e true s p = shuts-last e p
  shuts_cell c e false s p = shuts-tail e (c ∷ []) p (keeps-cell c 0 s)

  mutual
    unfolding compact

    pub keeps-term : (t : Term) (k : ℕ) → WellFormed (shape_of arity) t k → Keeps (compact t)
    keeps-term (cell c) k h = keeps-cell c k h
    keeps-term (arg f a) k h = keeps-both (compact f) (compact a) (keeps-term f (suc k) h.0) (keeps-term a 0 h.1)
    keeps-term (pair h t) k l = keeps-list (elements (compact h) t) (shuts-elements t (compact h) l.2 (keeps-term h 0 l.1))

    shuts-elements : (t : Term) (e : List ℕ) → WellFormed (shape_of arity) t 0 → Keeps e → Shuts (elements e t)
    shuts-elements (cell c) e h p = shuts_cell c e (eqb c nil) h p
    shuts-elements (arg f a) e h p = shuts-tail e (compact f ++ compact a) p (keeps-both (compact f) (compact a) (keeps-term f 1 h.0) (keeps-term a 0 h.1))
    shuts-elements (pair h t) e l p = shuts-more e (elements (compact h) t) p (shuts-elements t (compact h) l.2 (keeps-term h 0 l.1))

  keeps-pair : (x y : List ℕ) → Keeps x → Keeps y → Keeps (PAIR ∷ (x ++ y))
  unfolding Sound depth_after closing
  keeps-pair x y p q depth r s = ((λ e. absurd (false≢true e)), rw (append_assoc x y r) (p depth (y ++ r) (q depth r s)))

  pub keeps-cells : (t : Term) (k : ℕ) → WellFormed (shape_of arity) t k → Keeps (pairs t)
  unfolding pairs
  keeps-cells (cell c) k h = keeps-cell c k h
  keeps-cells (arg f a) k h = keeps-both (pairs f) (pairs a) (keeps-cells f (suc k) h.0) (keeps-cells a 0 h.1)
  keeps-cells (pair h t) k l = keeps-pair (pairs h) (pairs t) (keeps-cells h 0 l.1) (keeps-cells t 0 l.2)
