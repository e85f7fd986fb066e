-- One law for each branch of the readers of compact form.
use Rattle.forms.specs.Places.{placed}
use Rattle.forms.specs.declared.Place.{Place}
use Rattle.std.specs.Prelude.{None, Option, Some}
use Prim.Native.Nat.{ℕ, suc, zero, ◌+◌, ◌-◌, ◌≤◌, ◌<◌}
use mathlib.Core.List.{List, [], ◌∷◌, ◌++◌, append_assoc, append-nil}
use mathlib.Core.Bool.{Bool, true, false}
use mathlib.Core.Logic.{◌⊎◌, inl, inr}
use mathlib.Core.Path.{◌≡◌, refl, sym, ap, ◌∙◌, subst}
use native.Mathlib.Omega.{arith}
use native.Mathlib.Nat.{not-suc-le-zero}
use native.Mathlib.Numerals.{add-one}
use lib.ListN.{length, take, drop, get_or, set, length-append, length-drop, drop_of_length-le}
use lib.Seq.{drop-cons, length-take-le}
use lib.Dec.{eqb, leb}
use borrow.Author.Tests.{leb-true, leb-false, ne_eqb, lt-leb, le-leb}
use Rattle.basis.specs.Choice.{pick}
use Rattle.forms.specs.declared.Shape.TheVariants.{Symbol}
use Rattle.forms.specs.declared.Token.{Token}
use Rattle.forms.specs.declared.Token.TheVariants.{Sym, Begin, Last, Tail, Other}
use Rattle.forms.specs.Cells.{payload, variable, constant, nil, PAIR, BLIST, ELIST, EPAIR, shape_of, token_of}
use Rattle.forms.specs.Terms.{Term, cell, arg, pair, pairs, every, applied}
use Rattle.forms.specs.Due.{due_after}
use Rattle.forms.specs.Compact.{compact, elements, Item, term, last, tail, filled, last_of, tail_of, inside, into, collected, whole, entered, items, front}
use Rattle.forms.proofs.ShapeLaws.{Marks, marks, constant-shape}
use Rattle.forms.proofs.ReadLaws.{WellFormed, AllWellFormed, applied-short, applied-length, applied-every, applied-well-formed, compact-size, pairs-joins, compact-joins}
use Rattle.forms.proofs.DueLaws.{due-after}
use Rattle.forms.proofs.CompactLaws.{items-compact, Good, collected-good, forms}
use Rattle.forms.proofs.FormLaws.{pairs-size, every-pairs-least}
use Rattle.form_reader.specs.Loading.{in_order, met_after, ordered, met_in, items_at, Span, Unfit, FormsRan, Rest, NoRest, RestRan}
use Rattle.basis.proofs.SetsLaws.{sets-append}

-- ---- variables in order

pub ordered-append : (xs ys : List ℕ) (k : ℕ) → ordered k xs ≡ true → ordered k (xs ++ ys) ≡ ordered (met_in k xs) ys
unfolding ordered met_in
ordered-append [] ys k h = refl
ordered-append (x ∷ xs) ys k h = go (in_order k x) h (λ q. ordered-append xs ys (met_after k x) q)
  where
    go : (b : Bool) → pick b (ordered (met_after k x) xs) false ≡ true → (ordered (met_after k x) xs ≡ true → ordered (met_after k x) (xs ++ ys) ≡ ordered (met_in (met_after k x) xs) ys)
        → pick b (ordered (met_after k x) (xs ++ ys)) false ≡ ordered (met_in (met_after k x) xs) ys
    go true q f = f q
    go false q f = let z : ◌≡◌ {A = ℕ} 0 1 = cc in absurd (omega arith)

pub met-in-append : (xs ys : List ℕ) (k : ℕ) → met_in k (xs ++ ys) ≡ met_in (met_in k xs) ys
unfolding met_in
met-in-append [] ys k = refl
met-in-append (x ∷ xs) ys k = met-in-append xs ys (met_after k x)

-- a variable in order, and a cell that is no variable
pub ordered-variable : (k c : ℕ) → variable c ≡ true → payload c ≤ k → ordered k (c ∷ []) ≡ true
unfolding ordered in_order
ordered-variable k c e h = rw (e, le-leb (payload c) k h)

pub ordered-cell : (k c : ℕ) → variable c ≡ false → (ordered k (c ∷ []) ≡ true) × (met_after k c ≡ k)
unfolding ordered in_order met_after
ordered-cell k c e = (rw e, rw e)

-- at most one variable more is met
pub met-after-most : (k c : ℕ) → met_after k c ≤ k + 1
unfolding met_after
met-after-most k c = go (variable c) (eqb (payload c) k)
  where
    go : (b d : Bool) → pick b (pick d (k + 1) k) k ≤ k + 1
    go true true = omega arith
    go true false = omega arith
    go false d = omega arith

pub met-in-most : (xs : List ℕ) (k : ℕ) → met_in k xs ≤ k + length xs
unfolding met_in
met-in-most [] k = omega arith
met-in-most (x ∷ xs) k = omega (arith, met-in-most xs (met_after k x), met-after-most k x)

-- ---- terms and items

applied-whole : (form : Term → List ℕ) → ((f a : Term) → form (arg f a) ≡ form f ++ form a) → (k : ℕ) (f : Term) (ts : List Term) → k ≤ length ts
    → every form (applied k f ts) ≡ form f ++ every form ts
unfolding applied every
applied-whole form joins zero f ts h = refl
applied-whole form joins (suc k) f [] h = absurd (not-suc-le-zero h)
applied-whole form joins (suc k) f (t ∷ ts) h = rw (applied-whole form joins k (arg f t) ts (omega arith), joins, append_assoc)

front-filled : (k : ℕ) (f : Term) (is : List Item) → front (filled k f is) ≡ applied k f (front is)
unfolding front filled applied
front-filled zero f is = refl
front-filled (suc k) f [] = refl
front-filled (suc k) f (term t ∷ is) = front-filled k (arg f t) is
front-filled (suc k) f (last t ∷ is) = refl
front-filled (suc k) f (tail t ∷ is) = refl

-- ---- what does not fit

unfit-none : (limit to n : ℕ) (ts : List Term) → ts ≡ [] → 0 < n → Unfit limit to n ts
unfit-none limit to n ts e h = λ q. absurd (omega (arith, ap length e))

-- n terms have at least n cells
unfit-many : (limit to n : ℕ) (ts : List Term) → limit < to + n → Unfit limit to n ts
unfit-many limit to n ts h = λ q. omega (arith, every-pairs-least (take n ts), length-take-le n ts q)

-- a symbol before terms that do not fit as its arguments and those after it
unfit-symbol : (limit to k m c : ℕ) (ts : List Term) (b : Bool) → leb k (length ts) ≡ b → Unfit limit (to + 1) (k + m) ts
    → Unfit limit to (suc m) (applied k (cell c) ts)
unfolding pairs
unfit-symbol limit to k m c ts true q w = λ g.
    let l : k ≤ length ts = leb-true _ _ q in
    let e : every pairs (take (suc m) (applied k (cell c) ts)) ≡ (c ∷ []) ++ every pairs (take (k + m) ts) = applied-every pairs pairs-joins k m (cell c) ts l in
    let z : limit < to + 1 + length (every pairs (take (k + m) ts)) = w (omega (arith, applied-length k (cell c) ts l)) in
    omega (arith, ap length e)
unfit-symbol limit to k m c ts false q w = λ g. absurd (omega (arith, ap length (applied-short k (cell c) ts (leb-false _ _ q))))

-- a term before terms that do not fit behind it
unfit-behind : (limit to m : ℕ) (u : Term) (ts : List Term) → Unfit limit (to + length (pairs u)) m ts → Unfit limit to (suc m) (u ∷ ts)
unfolding every
unfit-behind limit to m u ts w = λ g. omega (arith, w (omega arith), length-append (pairs u) (every pairs (take m ts)))

-- a term that does not fit, where each term behind it is to have a cell
unfit-first : (limit to m : ℕ) (u : Term) (ts : List Term) → limit - m < to + length (pairs u) → Unfit limit to (suc m) (u ∷ ts)
unfolding every
unfit-first limit to m u ts w = λ g.
    omega (arith, length-append (pairs u) (every pairs (take m ts)), every-pairs-least (take m ts), length-take-le m ts (omega arith))

-- a cell that begins no term
no_front : (q : Token) (c : ℕ) (is : List Item) → ((k : ℕ) → q ≡ Sym k → ⊥) → (q ≡ Begin → ⊥) → front (entered q c is) ≡ []
unfolding front entered last_of tail_of
no_front (Sym k) c is f g = absurd (f k refl)
no_front Begin c is f g = absurd (g refl)
no_front Last c [] f g = refl
no_front Last c (term t ∷ is) f g = refl
no_front Last c (last t ∷ is) f g = refl
no_front Last c (tail t ∷ is) f g = refl
no_front Tail c [] f g = refl
no_front Tail c (term t ∷ is) f g = refl
no_front Tail c (last t ∷ is) f g = refl
no_front Tail c (tail t ∷ is) f g = refl
no_front Other c is f g = refl

-- the first of them alone does not
unfit-one : (limit to : ℕ) (t : Term) (ts : List Term) → Unfit limit to 1 (t ∷ ts) → limit < to + length (pairs t)
unfolding every
unfit-one limit to t ts w = omega (arith, w (omega arith), length-append (pairs t) [])

-- ---- the rest of a list

elements-pair : (e : List ℕ) (t u : Term) (form : List ℕ) → elements (compact t) u ≡ form → elements e (pair t u) ≡ e ++ form
unfolding elements
elements-pair e t u form q = ap (λ (z : List ℕ). e ++ z) q

compact-pair : (t u : Term) (form : List ℕ) → elements (compact t) u ≡ form → compact (pair t u) ≡ BLIST ∷ form
unfolding elements
compact-pair t u form q = ap (λ (z : List ℕ). BLIST ∷ z) q

-- nothing that could be the rest of a list, however long
abbrev Nothing : Bool → List Item → Type 0
Nothing true is = (e : Term) → into e (collected is) ≡ []
Nothing false is = whole (collected is) ≡ []

no-rest : (limit to : ℕ) (b : Bool) (is : List Item) → Nothing b is → NoRest limit to b is
no-rest limit to true is f = λ e u js q. let z : ◌≡◌ {A = ℕ} 0 1 = cc (f e) in absurd (omega arith)
no-rest limit to false is f = λ u js q. let z : ◌≡◌ {A = ℕ} 0 1 = cc f in absurd (omega arith)

no_items : (limit to : ℕ) (b : Bool) (is : List Item) → is ≡ [] → NoRest limit to b is
unfolding collected into whole
no_items limit to true is p = no-rest limit to true is (λ e. rw p)
no_items limit to false is p = no-rest limit to false is (rw p)

-- the items begin with a term, if there are any
abbrev Begins : List Item → Type 0
Begins is = (is ≡ []) ⊎ ((t : Term) × (js : List Item) × (is ≡ term t ∷ js))

-- an element with its list behind it, if there is one
abbrev Lists : Term → List Item → Type 0
Lists t is = (is ≡ []) ⊎ ((u : Term) × (js : List Item) × (is ≡ term (pair t u) ∷ js))

into-lists : (t : Term) (is : List Item) → Lists t (into t is)
unfolding into
into-lists t [] = inl refl
into-lists t (term u ∷ is) = inr (u, is, refl)
into-lists t (last u ∷ is) = inl refl
into-lists t (tail u ∷ is) = go (inside u)
  where
    go : (b : Bool) → Lists t (pick b [] (term (pair t u) ∷ is))
    go true = inl refl
    go false = inr (u, is, refl)

pair_size : (h t : Term) → length (pairs (pair h t)) ≡ 1 + length (pairs h) + length (pairs t)
unfolding pairs
pair_size h t = omega (arith, length-append (pairs h) (pairs t))

-- the list that begins with element t, if there is one, does not fit
no-list : (limit to : ℕ) (b : Bool) (t : Term) (is : List Item) → Lists t (collected is)
    → ((u : Term) (js : List Item) → collected is ≡ term (pair t u) ∷ js → limit < to + length (pairs (pair t u))) → NoRest limit to b is
unfolding into whole
no-list limit to true t is (inl p) f = no-rest limit to true is (λ e. rw p)
no-list limit to true t is (inr w) f = λ e u js q.
    let q' : term (pair e (pair t w.0)) ∷ w.1 ≡ term (pair e u) ∷ js = rw w.2 at q in
    let z : pair t w.0 ≡ u = cc in
    subst (λ (y : Term). limit < to + length (pairs y)) z (f w.0 w.1 w.2)
no-list limit to false t is (inl p) f = no-rest limit to false is (rw p)
no-list limit to false t is (inr w) f = λ u js q.
    let q' : term (pair t w.0) ∷ w.1 ≡ term u ∷ js = rw w.2 at q in
    let z : pair t w.0 ≡ u = cc in
    subst (λ (y : Term). limit < to + length (pairs y)) z (f w.0 w.1 w.2)

-- a last element that does not fit; an element; the term that a list ends in
last-unfit : (limit to : ℕ) (b : Bool) (is : List Item) → Unfit (limit - 1) (to + 1) 1 (front is) → NoRest limit to b (last_of is)
unfolding front last_of collected
last-unfit limit to b [] w = no_items limit to b [] refl
last-unfit limit to b (term t ∷ is) w =
    no-list limit to b t (last t ∷ is) (inr (cell nil, is, refl)) (λ u js q. omega (arith, unfit-one (limit - 1) (to + 1) t (front is) w, pair_size t u, compact-size u))
last-unfit limit to b (last t ∷ is) w = no_items limit to b [] refl
last-unfit limit to b (tail t ∷ is) w = no_items limit to b [] refl

element-unfit : (limit to : ℕ) (b : Bool) (is : List Item) → Begins is → Unfit (limit - 1) (to + 1) 1 (front is) → NoRest limit to b is
unfolding front collected
element-unfit limit to b is (inl p) w = no_items limit to b is p
element-unfit limit to b is (inr v) w =
    let w' : Unfit (limit - 1) (to + 1) 1 (v.0 ∷ front v.1) = subst (λ (l : List Item). Unfit (limit - 1) (to + 1) 1 (front l)) v.2 w in
    subst (λ (l : List Item). NoRest limit to b l) (sym v.2)
    (no-list limit to b v.0 (term v.0 ∷ v.1) (into-lists v.0 (collected v.1)) (λ u js q. omega (arith, unfit-one (limit - 1) (to + 1) v.0 (front v.1) w', pair_size v.0 u, compact-size u)))

tail-unfit : (limit to : ℕ) (is : List Item) → Unfit limit to 1 (front is) → NoRest limit to true (tail_of is)
unfolding front tail_of collected into
tail-unfit limit to [] w = no_items limit to true [] refl
tail-unfit limit to (term t ∷ is) w = λ e u js q. go e u js (inside t) q
  where
    go : (e u : Term) (js : List Item) (b : Bool) → pick b [] (term (pair e t) ∷ is) ≡ term (pair e u) ∷ js → limit < to + length (pairs u)
    go e u js true q = let z : ◌≡◌ {A = ℕ} 0 1 = cc in absurd (omega arith)
    go e u js false q = let z : t ≡ u = cc in subst (λ (y : Term). limit < to + length (pairs y)) z (unfit-one limit to t (front is) w)
tail-unfit limit to (last t ∷ is) w = no_items limit to true [] refl
tail-unfit limit to (tail t ∷ is) w = no_items limit to true [] refl

-- a list of which an element is left has three cells more
list_full : (limit to : ℕ) (b : Bool) (is : List Item) → limit < to + 3 → ((t : Term) (js : List Item) → is ≡ tail t ∷ js → ⊥) → NoRest limit to b is
unfolding collected
list_full limit to b [] h f = no_items limit to b [] refl
list_full limit to b (term t ∷ is) h f =
    no-list limit to b t (term t ∷ is) (into-lists t (collected is)) (λ u js q. omega (arith, pair_size t u, compact-size t, compact-size u))
list_full limit to b (last t ∷ is) h f =
    no-list limit to b t (last t ∷ is) (inr (cell nil, is, refl)) (λ u js q. omega (arith, pair_size t u, compact-size t, compact-size u))
list_full limit to b (tail t ∷ is) h f = absurd (f t is refl)

-- a list that does not fit as the first of n terms
begin-unfit : (limit to m : ℕ) (is : List Item) → Begins (whole (collected is)) → NoRest (limit - m) to false is → Unfit limit to (suc m) (front (whole (collected is)))
unfolding front
begin-unfit limit to m is (inl p) w = rw p (unfit-none limit to (suc m) [] refl (omega arith))
begin-unfit limit to m is (inr v) w = rw v.2 (unfit-first limit to m v.0 (front v.1) (w v.0 v.1 v.2))

only-tail : (is : List Item) → whole (collected (tail_of is)) ≡ []
unfolding whole collected tail_of
only-tail [] = refl
only-tail (term t ∷ is) = refl
only-tail (last t ∷ is) = refl
only-tail (tail t ∷ is) = refl

inside-tail : (is : List Item) (e : Term) → ((t : Term) (js : List Item) → is ≡ term t ∷ js → inside t ≡ true) → into e (collected (tail_of is)) ≡ []
unfolding into collected tail_of
inside-tail [] e f = refl
inside-tail (term t ∷ is) e f = rw (f t is refl)
inside-tail (last t ∷ is) e f = refl
inside-tail (tail t ∷ is) e f = refl

whole-inside : (js : List Item) (cells : List ℕ) → Good cells js → (t : Term) (is : List Item) → whole js ≡ term t ∷ is → inside t ≡ true
unfolding whole inside
whole-inside [] cells g t is e = let z : ◌≡◌ {A = ℕ} 0 1 = cc in absurd (omega arith)
whole-inside (term (cell c) ∷ js) cells g t is e = absurd g
whole-inside (term (arg f a) ∷ js) cells g t is e = absurd g
whole-inside (term (pair x y) ∷ js) cells g t is e = let z : pair x y ≡ t = cc in rw (← z)
whole-inside (last x ∷ js) cells g t is e = absurd g
whole-inside (tail x ∷ js) cells g t is e = let z : ◌≡◌ {A = ℕ} 0 1 = cc in absurd (omega arith)

-- symbols and lists begin a term or nothing
filled-begins : (k : ℕ) (f : Term) (is : List Item) → Begins (filled k f is)
unfolding filled
filled-begins zero f is = inr (f, is, refl)
filled-begins (suc k) f [] = inl refl
filled-begins (suc k) f (term t ∷ is) = filled-begins k (arg f t) is
filled-begins (suc k) f (last t ∷ is) = inl refl
filled-begins (suc k) f (tail t ∷ is) = inl refl

whole-begins : (is : List Item) → Begins (whole is)
unfolding whole
whole-begins [] = inl refl
whole-begins (term t ∷ is) = inr (t, is, refl)
whole-begins (last t ∷ is) = inl refl
whole-begins (tail t ∷ is) = inl refl

entered-begins : (q : Token) (c : ℕ) (is : List Item) → (q ≡ Last → ⊥) → (q ≡ Tail → ⊥) → Begins (entered q c is)
unfolding entered
entered-begins (Sym k) c is f g = filled-begins k (cell c) is
entered-begins Begin c is f g = whole-begins (collected is)
entered-begins Last c is f g = absurd (f refl)
entered-begins Tail c is f g = absurd (g refl)
entered-begins Other c is f g = inl refl

pub constant-no-tail : (c : ℕ) → constant c ≡ true → c ≡ EPAIR → ⊥
unfolding constant
constant-no-tail c h e = let g : constant EPAIR ≡ true = subst (λ (x : ℕ). constant x ≡ true) e h in let z : ◌≡◌ {A = ℕ} 0 1 = cc in omega arith

-- nothing but EPAIR gives the term that a list ends in
no-tail : (is : List Item) → Begins is → (t : Term) (js : List Item) → is ≡ tail t ∷ js → ⊥
no-tail is (inl p) t js q = let z : ◌≡◌ {A = ℕ} 0 1 = cc in omega arith
no-tail is (inr v) t js q = let z : ◌≡◌ {A = ℕ} 0 1 = cc v.2 in omega arith

last-no-tail : (is : List Item) (t : Term) (js : List Item) → last_of is ≡ tail t ∷ js → ⊥
unfolding last_of
last-no-tail [] t js q = let z : ◌≡◌ {A = ℕ} 0 1 = cc in omega arith
last-no-tail (term u ∷ is) t js q = let z : ◌≡◌ {A = ℕ} 0 1 = cc in omega arith
last-no-tail (last u ∷ is) t js q = let z : ◌≡◌ {A = ℕ} 0 1 = cc in omega arith
last-no-tail (tail u ∷ is) t js q = let z : ◌≡◌ {A = ℕ} 0 1 = cc in omega arith

entered-no-tail : (q : Token) (c : ℕ) (is : List Item) → (q ≡ Tail → ⊥) → (t : Term) (js : List Item) → entered q c is ≡ tail t ∷ js → ⊥
unfolding entered
entered-no-tail (Sym k) c is g = no-tail (filled k (cell c) is) (filled-begins k (cell c) is)
entered-no-tail Begin c is g = no-tail (whole (collected is)) (whole-begins (collected is))
entered-no-tail Last c is g = last-no-tail is
entered-no-tail Tail c is g = absurd (g refl)
entered-no-tail Other c is g = no-tail [] (inl refl)

single : (ts : List Term) → length ts ≡ 1 → (t : Term) × (ts ≡ t ∷ [])
single [] e = absurd (omega arith)
single (t ∷ []) e = (t, refl)
single (t ∷ u ∷ ts) e = absurd (omega arith)

-- a term whose form begins with neither [] nor BLIST ends a list behind EPAIR
ending-term : (t : Term) (d : ℕ) (x y : List ℕ) → compact t ++ x ≡ d ∷ y → (d ≡ nil → ⊥) → (d ≡ BLIST → ⊥) → (e : List ℕ) → elements e t ≡ e ++ (EPAIR ∷ compact t)
unfolding elements
ending-term (cell c) d x y p f g e = let z : c ≡ d = cc in rw (ne_eqb c nil (λ q. f (sym z ∙ q)))
ending-term (arg a b) d x y p f g e = refl
ending-term (pair a b) d x y p f g e = let z : BLIST ≡ d = cc in absurd (g (sym z))

-- an element before no rest that fits
none_left : (limit to end : ℕ) (b : Bool) (t : Term) (is js : List Item) → is ≡ filled 0 t js → end ≡ to + 1 + length (pairs t)
    → NoRest limit end true js → NoRest limit to b is
unfolding collected filled
none_left limit to end b t is js p e f =
    subst (λ (l : List Item). NoRest limit to b l) (sym p)
    (no-list limit to b t (term t ∷ js) (into-lists t (collected js)) (λ u ks q. omega (arith, f t u ks q, pair_size t u)))

rest_both : (b : Bool) (u : Term) (form : List ℕ) → ((e : List ℕ) → elements e u ≡ e ++ form) → compact u ≡ BLIST ∷ form → Rest b u form
rest_both true u form p q = p
rest_both false u form p q = (p, q)

-- ---- spans

module _ (s : List ℕ) where
  cells-cons : (at : ℕ) → at < length s → drop at s ≡ get_or s at 0 ∷ drop (at + 1) s
  cells-cons at h = rw (drop-cons s at 0, add-one)

  -- nothing is read, and one cell written
  span-write : (at count : ℕ) (out : List ℕ) (to p : ℕ) → Span s at [] count out to (p ∷ []) (set out to p) at (to + 1) count
  unfolding ordered met_in
  span-write at count out to p = record { cells = refl; next-at = omega arith; end-at = omega arith; wrote = refl; numbers = refl; known = refl }

  -- a mark is read, and nothing written
  span-mark : (at count : ℕ) (out : List ℕ) (to c : ℕ) → at < length s → get_or s at 0 ≡ c → variable c ≡ false → Span s at (c ∷ []) count out to [] out (at + 1) to count
  unfolding met_in
  span-mark at count out to c h e v =
      record { cells = rw e at (cells-cons at h); next-at = omega arith; end-at = omega arith; wrote = refl; numbers = (ordered-cell count c v).0; known = sym (ordered-cell count c v).1 }

  -- a symbol is read and written
  span-symbol : (at count : ℕ) (out : List ℕ) (to : ℕ) → at < length s → ordered count (get_or s at 0 ∷ []) ≡ true → Span s at (get_or s at 0 ∷ []) count out to (get_or s at 0 ∷ []) (set out to (get_or s at 0)) (at + 1) (to + 1) (met_after count (get_or s at 0))
  unfolding met_in
  span-symbol at count out to h o = record { cells = cells-cons at h; next-at = omega arith; end-at = omega arith; wrote = refl; numbers = o; known = refl }

  -- one span behind another
  pub span-append : (at : ℕ) (f : List ℕ) (count : ℕ) (out : List ℕ) (to : ℕ) (p out₁ : List ℕ) (next end count₁ : ℕ) (g q out₂ : List ℕ) (next₂ end₂ count₂ : ℕ)
      → Span s at f count out to p out₁ next end count₁ → Span s next g count₁ out₁ end q out₂ next₂ end₂ count₂ → Span s at (f ++ g) count out to (p ++ q) out₂ next₂ end₂ count₂
  span-append at f count out to p out₁ next end count₁ g q out₂ next₂ end₂ count₂ v w =
      record {
        cells = v.cells ∙ rw w.cells (sym (append_assoc f g (drop next₂ s)));
        next-at = simp length-append (omega (arith, v.next-at, w.next-at));
        end-at = simp length-append (omega (arith, v.end-at, w.end-at));
        wrote = w.wrote ∙ rw (v.wrote, v.end-at, sets-append p q out to);
        numbers = ordered-append f g count v.numbers ∙ rw v.known at w.numbers;
        known = w.known ∙ rw (v.known, met-in-append f g count);
      }

  -- variables out of order behind a span
  span-unordered : (at : ℕ) (f : List ℕ) (count : ℕ) (out : List ℕ) (to : ℕ) (p out₁ : List ℕ) (next end count₁ : ℕ)
      → Span s at f count out to p out₁ next end count₁ → ordered count₁ (drop next s) ≡ false → ordered count (drop at s) ≡ false
  span-unordered at f count out to p out₁ next end count₁ v w = rw (v.cells, ordered-append f (drop next s) count v.numbers) (rw v.known at w)

  -- a span lies within the cells
  span-within : (at : ℕ) (f : List ℕ) (count : ℕ) (out : List ℕ) (to : ℕ) (p out₁ : List ℕ) (next end count₁ : ℕ) → Span s at f count out to p out₁ next end count₁ → at ≤ length s → next ≤ length s
  span-within at f count out to p out₁ next end count₁ v h = omega (arith, v.next-at, simp (length-append, length-drop) at (ap length v.cells))

-- ---- the term reader

module _ (arity : ℕ → ℕ) (s : List ℕ) (limit : ℕ) where
  items-cons : (at : ℕ) → at < length s → items_at arity s at ≡ entered (token_of arity (get_or s at 0)) (get_or s at 0) (items_at arity s (at + 1))
  unfolding items
  items-cons at h = rw (drop-cons s at 0, add-one)

  pub items-end : (at : ℕ) → length s ≤ at → items_at arity s at ≡ []
  unfolding items
  items-end at h = rw (drop_of_length-le s {i = at} h)

  pub forms-none : (at n count : ℕ) (out : List ℕ) (to : ℕ) → n ≡ 0 → to ≤ limit → FormsRan arity s limit at n count out to out (Some (placed at to count))
  unfolding every ordered met_in
  forms-none at n count out to e l =
      ([], tt, sym e, record { cells = refl; next-at = omega arith; end-at = omega arith; wrote = refl; numbers = refl; known = refl }, l)

  pub forms-end : (at n count : ℕ) (out : List ℕ) (to : ℕ) (out' : List ℕ) → 0 < n → length s ≤ at → FormsRan arity s limit at n count out to out' None
  unfolding front
  forms-end at n count out to out' f h = inl (unfit-none limit to n (front (items_at arity s at)) (rw (items-end at h)) f)

  -- n terms are due, and do not fit
  pub forms-full : (at n count : ℕ) (out : List ℕ) (to : ℕ) (out' : List ℕ) → limit < to + n → FormsRan arity s limit at n count out to out' None
  forms-full at n count out to out' h = inl (unfit-many limit to n (front (items_at arity s at)) h)

  -- a span of one term's form before other items
  span-items : (at : ℕ) (u : Term) (count : ℕ) (out : List ℕ) (to : ℕ) (p out₁ : List ℕ) (next end count₁ : ℕ) → Span s at (compact u) count out to p out₁ next end count₁ → WellFormed (shape_of arity) u 0
      → items_at arity s at ≡ filled 0 u (items_at arity s next)
  span-items at u count out to p out₁ next end count₁ v h = ap (items (token_of arity)) v.cells ∙ items-compact (shape_of arity) (token_of arity) (marks arity) u 0 (drop next s) h

  module _ (at n count : ℕ) (out : List ℕ) (to : ℕ) (out' : List ℕ) (some : 0 < n) (h : at < length s) where
    pub forms-illegal : (get_or s at 0 ≡ BLIST → ⊥) → ((k : ℕ) → shape_of arity (get_or s at 0) ≡ Symbol k → ⊥) → FormsRan arity s limit at n count out to out' None
    forms-illegal f g =
        let m : Marks (shape_of arity) (token_of arity) = marks arity in
        inl (unfit-none limit to n (front (items_at arity s at)) (rw (items-cons at h, no_front (token_of arity (get_or s at 0)) (get_or s at 0) (items_at arity s (at + 1)) (λ k e. g k (m.shapes (get_or s at 0) k e)) (λ e. f (m.begin-cell (get_or s at 0) e)))) some)

    pub forms-unordered : variable (get_or s at 0) ≡ true → count < payload (get_or s at 0) → FormsRan arity s limit at n count out to out' None
    unfolding ordered in_order
    forms-unordered e g = inr (rw (cells-cons s at h, e, lt-leb (payload (get_or s at 0)) count g))

    -- n is at least one
    n-suc : suc (n - 1) ≡ n
    n-suc = omega arith

    to-filled : (k : ℕ) → shape_of arity (get_or s at 0) ≡ Symbol k → items_at arity s at ≡ filled k (cell (get_or s at 0)) (items_at arity s (at + 1))
    unfolding entered
    to-filled k e = let m : Marks (shape_of arity) (token_of arity) = marks arity in rw (items-cons at h, m.symbols (get_or s at 0) k e)

    to-begun : get_or s at 0 ≡ BLIST → items_at arity s at ≡ whole (collected (items_at arity s (at + 1)))
    unfolding entered
    to-begun e = let m : Marks (shape_of arity) (token_of arity) = marks arity in rw (items-cons at h, e, m.begins)

    -- a symbol whose number is in order, and its arguments
    pub forms-symbol : (k due count₁ : ℕ) (r : Option Place) → shape_of arity (get_or s at 0) ≡ Symbol k → due ≡ due_after n k → ordered count (get_or s at 0 ∷ []) ≡ true → count₁ ≡ met_after count (get_or s at 0)
        → FormsRan arity s limit (at + 1) due count₁ (set out to (get_or s at 0)) (to + 1) out' r → FormsRan arity s limit at n count out to out' r
    unfolding pairs compact
    forms-symbol k due count₁ (Some place) e d o q w =
        let c : ℕ = get_or s at 0 in
        let ts : List Term = w.0 in
        let l : k ≤ length ts = omega (arith, w.2) in
        let v : Span s (at + 1) (every compact ts) (met_after count c) (set out to c) (to + 1) (every pairs ts) out' place.at place.to place.count = rw q at w.3 in (
          applied k (cell c) ts,
          applied-well-formed (shape_of arity) k (cell c) ts e w.1,
          omega (arith, w.2, applied-length k (cell c) ts l),
          rw (applied-whole compact compact-joins k (cell c) ts l, applied-whole pairs pairs-joins k (cell c) ts l)
              (span-append s at (c ∷ []) count out to (c ∷ []) (set out to c) (at + 1) (to + 1) (met_after count c) (every compact ts) (every pairs ts) out' place.at place.to place.count (span-symbol s at count out to h o) v),
          w.4,
        )
    forms-symbol k due count₁ None e d o q (inl w) =
        let c : ℕ = get_or s at 0 in
        let ts : List Term = front (items_at arity s (at + 1)) in
        let w₁ : Unfit limit (to + 1) (k + (n - 1)) ts = subst (λ (x : ℕ). Unfit limit (to + 1) x ts) (d ∙ due-after n k some) w in
        let w₂ : Unfit limit to n (applied k (cell c) ts) = subst (λ (x : ℕ). Unfit limit to x (applied k (cell c) ts)) n-suc (unfit-symbol limit to k (n - 1) c ts (leb k (length ts)) refl w₁) in
        let q₁ : front (items_at arity s at) ≡ applied k (cell c) ts = ap front (to-filled k e) ∙ front-filled k (cell c) (items_at arity s (at + 1)) in
        inl (subst (λ (l : List Term). Unfit limit to n l) (sym q₁) w₂)
    forms-symbol k due count₁ None e d o q (inr w) =
        inr (span-unordered s at (get_or s at 0 ∷ []) count out to (get_or s at 0 ∷ []) (set out to (get_or s at 0)) (at + 1) (to + 1) (met_after count (get_or s at 0)) (span-symbol s at count out to h o) (rw q at w))

    begin-short : (out₁ : List ℕ) → get_or s at 0 ≡ BLIST → RestRan arity s (limit - (n - 1)) (at + 1) false count out to out₁ None → FormsRan arity s limit at n count out to out' None
    begin-short out₁ e (inl w) =
        let is : List Item = items_at arity s (at + 1) in
        let v : Unfit limit to n (front (whole (collected is))) = subst (λ (x : ℕ). Unfit limit to x (front (whole (collected is)))) n-suc (begin-unfit limit to (n - 1) is (whole-begins (collected is)) w) in
        inl (subst (λ (l : List Item). Unfit limit to n (front l)) (sym (to-begun e)) v)
    begin-short out₁ e (inr w) = inr (span-unordered s at (BLIST ∷ []) count out to [] out (at + 1) to count (span-mark s at count out to BLIST h e refl) w)

    -- a list is one of the terms due, and leaves room for those behind it
    pub forms-begin-short : (out₁ : List ℕ) (due : ℕ) → due ≡ due_after n 0 → get_or s at 0 ≡ BLIST
        → RestRan arity s (limit - due) (at + 1) false count out to out₁ None → FormsRan arity s limit at n count out to out' None
    forms-begin-short out₁ due d e w =
        begin-short out₁ e (subst (λ x. RestRan arity s (limit - x) (at + 1) false count out to out₁ None) (d ∙ omega arith) w)

    -- BLIST and the rest of the list are the list's form
    list-span : (out₁ : List ℕ) (next end count₁ : ℕ) (u : Term) (form : List ℕ) → get_or s at 0 ≡ BLIST → compact u ≡ BLIST ∷ form → Span s (at + 1) form count out to (pairs u) out₁ next end count₁
        → Span s at (compact u) count out to (pairs u) out₁ next end count₁
    list-span out₁ next end count₁ u form e q v =
        rw q (span-append s at (BLIST ∷ []) count out to [] out (at + 1) to count form (pairs u) out₁ next end count₁ (span-mark s at count out to BLIST h e refl) v)

    begin-ran : (out₁ : List ℕ) (next end count₁ : ℕ) (r : Option Place) → get_or s at 0 ≡ BLIST
        → RestRan arity s (limit - (n - 1)) (at + 1) false count out to out₁ (Some (placed next end count₁))
        → FormsRan arity s limit next (n - 1) count₁ out₁ end out' r → FormsRan arity s limit at n count out to out' r
    unfolding every front filled
    begin-ran out₁ next end count₁ (Some place) e v w = (
      v.0 ∷ w.0,
      (v.1, w.1),
      omega (arith, w.2),
      span-append s at (compact v.0) count out to (pairs v.0) out₁ next end count₁ (every compact w.0) (every pairs w.0) out' place.at place.to place.count (list-span out₁ next end count₁ v.0 v.2 e v.3.1 v.4) w.3,
      w.4,
    )
    begin-ran out₁ next end count₁ None e v (inl w) =
        let q = span-items at v.0 count out to (pairs v.0) out₁ next end count₁ (list-span out₁ next end count₁ v.0 v.2 e v.3.1 v.4) v.1 in
        let w₁ : Unfit limit (to + length (pairs v.0)) (n - 1) (front (items_at arity s next)) = subst (λ (x : ℕ). Unfit limit x (n - 1) (front (items_at arity s next))) v.4.end-at w in
        let w₂ : Unfit limit to n (v.0 ∷ front (items_at arity s next)) = subst (λ (x : ℕ). Unfit limit to x (v.0 ∷ front (items_at arity s next))) n-suc (unfit-behind limit to (n - 1) v.0 (front (items_at arity s next)) w₁) in
        inl (subst (λ (l : List Item). Unfit limit to n (front l)) (sym q) w₂)
    begin-ran out₁ next end count₁ None e v (inr w) =
        inr (span-unordered s at (compact v.0) count out to (pairs v.0) out₁ next end count₁ (list-span out₁ next end count₁ v.0 v.2 e v.3.1 v.4) w)

    pub forms-begin : (out₁ : List ℕ) (next end count₁ due : ℕ) (r : Option Place) → due ≡ due_after n 0 → get_or s at 0 ≡ BLIST
        → RestRan arity s (limit - due) (at + 1) false count out to out₁ (Some (placed next end count₁))
        → FormsRan arity s limit next due count₁ out₁ end out' r → FormsRan arity s limit at n count out to out' r
    forms-begin out₁ next end count₁ due r d e v w =
        let z : due ≡ n - 1 = d ∙ omega arith in
        begin-ran out₁ next end count₁ r e (subst (λ x. RestRan arity s (limit - x) (at + 1) false count out to out₁ (Some (placed next end count₁))) z v)
        (subst (λ x. FormsRan arity s limit next x count₁ out₁ end out' r) z w)

  -- ---- one term

  -- one term that was read
  pub One : ℕ → ℕ → List ℕ → ℕ → List ℕ → ℕ → ℕ → ℕ → Type 0
  One at count out to out' next end count' = (t : Term) × WellFormed (shape_of arity) t 0 × Span s at (compact t) count out to (pairs t) out' next end count'

  pub one : (most at count : ℕ) (out : List ℕ) (to : ℕ) (out' : List ℕ) (next end count' : ℕ) → FormsRan arity s most at 1 count out to out' (Some (placed next end count')) → One at count out to out' next end count'
  unfolding One
  one most at count out to out' next end count' v = go v.0 v.1 v.3 (single v.0 v.2)
    where
      go : (ts : List Term) → AllWellFormed (shape_of arity) ts → Span s at (every compact ts) count out to (every pairs ts) out' next end count' → (t : Term) × (ts ≡ t ∷ [])
          → (t : Term) × WellFormed (shape_of arity) t 0 × Span s at (compact t) count out to (pairs t) out' next end count'
      go ts a p w =
          let a' : AllWellFormed (shape_of arity) (w.0 ∷ []) = subst (AllWellFormed (shape_of arity)) w.1 a in
          let p' : Span s at (compact w.0) count out to (pairs w.0) out' next end count' =
          subst (λ l. Span s at l count out to (pairs w.0) out' next end count') (append-nil (compact w.0))
          (subst (λ l. Span s at (compact w.0 ++ []) count out to l out' next end count') (append-nil (pairs w.0))
          (unfold every in subst (λ l. Span s at (every compact l) count out to (every pairs l) out' next end count') w.1 p)) in
          (w.0, a'.0, p')

  -- ---- the list reader

  pub rest_end : (at : ℕ) (b : Bool) (count : ℕ) (out : List ℕ) (to : ℕ) (out' : List ℕ) → length s ≤ at → RestRan arity s limit at b count out to out' None
  rest_end at b count out to out' h = inl (no_items limit to b (items_at arity s at) (items-end at h))

  module _ (at count : ℕ) (out : List ℕ) (to : ℕ) (h : at < length s) where
    at_last : get_or s at 0 ≡ ELIST → items_at arity s at ≡ last_of (items_at arity s (at + 1))
    unfolding entered
    at_last e = let m : Marks (shape_of arity) (token_of arity) = marks arity in rw (items-cons at h, e, m.lasts)

    at_tail : get_or s at 0 ≡ EPAIR → items_at arity s at ≡ tail_of (items_at arity s (at + 1))
    unfolding entered
    at_tail e = let m : Marks (shape_of arity) (token_of arity) = marks arity in rw (items-cons at h, e, m.tails)

    -- ELIST and no term
    pub rest-last-short : (b : Bool) (out₁ out' : List ℕ) → get_or s at 0 ≡ ELIST → FormsRan arity s (limit - 1) (at + 1) 1 count (set out to PAIR) (to + 1) out₁ None → RestRan arity s limit at b count out to out' None
    rest-last-short b out₁ out' e (inl w) = inl (subst (λ (l : List Item). NoRest limit to b l) (sym (at_last e)) (last-unfit limit to b (items_at arity s (at + 1)) w))
    rest-last-short b out₁ out' e (inr w) = inr (span-unordered s at (ELIST ∷ []) count out to [] out (at + 1) to count (span-mark s at count out to ELIST h e refl) w)

    -- EPAIR behind no element; before nothing; before []; before a list
    pub rest-tail-first : (out' : List ℕ) → get_or s at 0 ≡ EPAIR → RestRan arity s limit at false count out to out' None
    rest-tail-first out' e = inl (no-rest limit to false (items_at arity s at) (rw (at_tail e) (only-tail (items_at arity s (at + 1)))))

    pub rest-tail-end : (out' : List ℕ) → get_or s at 0 ≡ EPAIR → length s ≤ at + 1 → RestRan arity s limit at true count out to out' None
    unfolding tail_of
    rest-tail-end out' e g = inl (no_items limit to true (items_at arity s at) (at_tail e ∙ rw (items-end (at + 1) g)))

    pub rest-tail-nil : (out' : List ℕ) → get_or s at 0 ≡ EPAIR → at + 1 < length s → get_or s (at + 1) 0 ≡ nil → RestRan arity s limit at true count out to out' None
    unfolding filled inside
    rest-tail-nil out' e g d =
        let m : Marks (shape_of arity) (token_of arity) = marks arity in
        let k : shape_of arity (get_or s (at + 1) 0) ≡ Symbol 0 = rw d m.empty in
        let q : items_at arity s (at + 1) ≡ term (cell (get_or s (at + 1) 0)) ∷ items_at arity s (at + 1 + 1) = to-filled (at + 1) 1 count out to out (omega arith) g 0 k in
        inl (no-rest limit to true (items_at arity s at) (λ x. rw (at_tail e) (inside-tail (items_at arity s (at + 1)) x (λ t js p. let z : t ≡ cell nil = cc in rw z))))

    pub rest-tail-list : (out' : List ℕ) → get_or s at 0 ≡ EPAIR → at + 1 < length s → get_or s (at + 1) 0 ≡ BLIST → RestRan arity s limit at true count out to out' None
    rest-tail-list out' e g d =
        let q : items_at arity s (at + 1) ≡ whole (collected (items_at arity s (at + 1 + 1))) = to-begun (at + 1) 1 count out to out (omega arith) g d in
        inl (no-rest limit to true (items_at arity s at) (λ x. rw (at_tail e) (inside-tail (items_at arity s (at + 1)) x (λ t js p. whole-inside (collected (items_at arity s (at + 1 + 1))) (forms (items_at arity s (at + 1 + 1))) (collected-good (items_at arity s (at + 1 + 1))) t js (sym q ∙ p)))))

    -- an element is left, and three cells are not
    pub rest-full : (b : Bool) (out' : List ℕ) → (get_or s at 0 ≡ EPAIR → ⊥) → limit < to + 3 → RestRan arity s limit at b count out to out' None
    rest-full b out' g l =
        let m : Marks (shape_of arity) (token_of arity) = marks arity in
        let c : ℕ = get_or s at 0 in
        inl (list_full limit to b (items_at arity s at) l (λ t js p. entered-no-tail (token_of arity c) c (items_at arity s (at + 1)) (λ z. g (m.tail-cell c z)) t js (sym (items-cons at h) ∙ p)))

    -- no element
    pub rest-element-short : (b : Bool) (out₁ out' : List ℕ) → (get_or s at 0 ≡ ELIST → ⊥) → (get_or s at 0 ≡ EPAIR → ⊥) → FormsRan arity s (limit - 1) at 1 count (set out to PAIR) (to + 1) out₁ None → RestRan arity s limit at b count out to out' None
    rest-element-short b out₁ out' f g (inl w) =
        let m : Marks (shape_of arity) (token_of arity) = marks arity in
        let c : ℕ = get_or s at 0 in
        let v : Begins (items_at arity s at) = subst Begins (sym (items-cons at h)) (entered-begins (token_of arity c) c (items_at arity s (at + 1)) (λ z. f (m.last-cell c z)) (λ z. g (m.tail-cell c z))) in
        inl (element-unfit limit to b (items_at arity s at) v w)
    rest-element-short b out₁ out' f g (inr w) = inr w

    -- ELIST and the last element
    pub rest-last : (b : Bool) (out₁ : List ℕ) (next end count₁ : ℕ) → get_or s at 0 ≡ ELIST → 1 ≤ limit
        → FormsRan arity s (limit - 1) (at + 1) 1 count (set out to PAIR) (to + 1) out₁ (Some (placed next end count₁)) → RestRan arity s limit at b count out to (set out₁ end nil) (Some (placed next (end + 1) count₁))
    unfolding pairs One
    rest-last b out₁ next end count₁ e l v =
        let w = one (limit - 1) (at + 1) count (set out to PAIR) (to + 1) out₁ next end count₁ v in
        let t : Term = w.0 in
        let m : Marks (shape_of arity) (token_of arity) = marks arity in
        let x = span-append s at (ELIST ∷ []) count out to [] out (at + 1) to count [] (PAIR ∷ []) (set out to PAIR) (at + 1) (to + 1) count (span-mark s at count out to ELIST h e refl) (span-write s (at + 1) count out to PAIR) in
        let y = span-append s at (ELIST ∷ []) count out to (PAIR ∷ []) (set out to PAIR) (at + 1) (to + 1) count (compact t) (pairs t) out₁ next end count₁ x w.2 in
        let z = span-append s at (ELIST ∷ compact t) count out to (PAIR ∷ pairs t) out₁ next end count₁ [] (nil ∷ []) (set out₁ end nil) next (end + 1) count₁ y (span-write s next count₁ out₁ end nil) in (
          pair t (cell nil),
          (refl, w.1, m.empty),
          ELIST ∷ compact t,
          rest_both b (pair t (cell nil)) (ELIST ∷ compact t) (λ d. unfold elements in refl) (unfold elements in refl),
          subst (λ l. Span s at l count out to (PAIR ∷ (pairs t ++ (nil ∷ []))) (set out₁ end nil) next (end + 1) count₁) (append-nil (ELIST ∷ compact t)) z,
          omega (arith, v.4),
        )

    -- EPAIR and the term that the list ends in
    pub rest-tail : (out' : List ℕ) (r : Option Place) → get_or s at 0 ≡ EPAIR → at + 1 < length s → (get_or s (at + 1) 0 ≡ nil → ⊥) → (get_or s (at + 1) 0 ≡ BLIST → ⊥)
        → FormsRan arity s limit (at + 1) 1 count out to out' r → RestRan arity s limit at true count out to out' r
    unfolding One
    rest-tail out' (Some place) e g f₁ f₂ v =
        let w = one limit (at + 1) count out to out' place.at place.to place.count v in
        let t : Term = w.0 in
        let p : compact t ++ drop place.at s ≡ get_or s (at + 1) 0 ∷ drop (at + 1 + 1) s = sym w.2.cells ∙ cells-cons s (at + 1) g in (
          t,
          w.1,
          EPAIR ∷ compact t,
          ending-term t (get_or s (at + 1) 0) (drop place.at s) (drop (at + 1 + 1) s) p f₁ f₂,
          span-append s at (EPAIR ∷ []) count out to [] out (at + 1) to count (compact t) (pairs t) out' place.at place.to place.count (span-mark s at count out to EPAIR h e refl) w.2,
          v.4,
        )
    rest-tail out' None e g f₁ f₂ (inl v) = inl (subst (λ (l : List Item). NoRest limit to true l) (sym (at_tail e)) (tail-unfit limit to (items_at arity s (at + 1)) v))
    rest-tail out' None e g f₁ f₂ (inr v) = inr (span-unordered s at (EPAIR ∷ []) count out to [] out (at + 1) to count (span-mark s at count out to EPAIR h e refl) v)

    element-span : (t : Term) (out₁ : List ℕ) (next end count₁ : ℕ) → Span s at (compact t) count (set out to PAIR) (to + 1) (pairs t) out₁ next end count₁ → Span s at (compact t) count out to (PAIR ∷ pairs t) out₁ next end count₁
    element-span t out₁ next end count₁ v = span-append s at [] count out to (PAIR ∷ []) (set out to PAIR) at (to + 1) count (compact t) (pairs t) out₁ next end count₁ (span-write s at count out to PAIR) v

    -- an element and the rest behind it
    pub rest-element : (b : Bool) (out₁ : List ℕ) (next end count₁ : ℕ) (out' : List ℕ) (r : Option Place)
        → FormsRan arity s (limit - 1) at 1 count (set out to PAIR) (to + 1) out₁ (Some (placed next end count₁)) → RestRan arity s limit next true count₁ out₁ end out' r → RestRan arity s limit at b count out to out' r
    unfolding pairs One
    rest-element b out₁ next end count₁ out' (Some place) v w =
        let x = one (limit - 1) at count (set out to PAIR) (to + 1) out₁ next end count₁ v in
        let t : Term = x.0 in
        let u : Term = w.0 in
        let q : elements (compact t) u ≡ compact t ++ w.2 = w.3 (compact t) in (
          pair t u,
          (refl, x.1, w.1),
          compact t ++ w.2,
          rest_both b (pair t u) (compact t ++ w.2) (λ e. elements-pair e t u (compact t ++ w.2) q) (compact-pair t u (compact t ++ w.2) q),
          span-append s at (compact t) count out to (PAIR ∷ pairs t) out₁ next end count₁ w.2 (pairs u) out' place.at place.to place.count (element-span t out₁ next end count₁ x.2) w.4,
          w.5,
        )
    rest-element b out₁ next end count₁ out' None v (inl w) =
        let x = one (limit - 1) at count (set out to PAIR) (to + 1) out₁ next end count₁ v in
        inl (none_left limit to end b x.0 (items_at arity s at) (items_at arity s next) (span-items at x.0 count (set out to PAIR) (to + 1) (pairs x.0) out₁ next end count₁ x.2 x.1) x.2.end-at w)
    rest-element b out₁ next end count₁ out' None v (inr w) =
        let x = one (limit - 1) at count (set out to PAIR) (to + 1) out₁ next end count₁ v in
        inr (span-unordered s at (compact x.0) count (set out to PAIR) (to + 1) (pairs x.0) out₁ next end count₁ x.2 w)

  -- ---- room

  -- what a term leaves
  pub forms-room : (at count : ℕ) (out : List ℕ) (to : ℕ) (out₁ : List ℕ) (next end count₁ : ℕ) → FormsRan arity s limit at 1 count out to out₁ (Some (placed next end count₁)) → at ≤ length s
      → (end ≤ limit) × (at < next) × (next ≤ length s) × (count₁ + at ≤ count + next)
  unfolding One
  forms-room at count out to out₁ next end count₁ v h =
      let w = one limit at count out to out₁ next end count₁ v in
      omega (arith, v.4, pairs-size w.0, w.2.next-at, w.2.known, met-in-most (compact w.0) count, span-within s at (compact w.0) count out to (pairs w.0) out₁ next end count₁ w.2 h)

  -- what a list leaves
  pub rest-room : (at count : ℕ) (out : List ℕ) (to : ℕ) (out₁ : List ℕ) (next end count₁ : ℕ) → RestRan arity s limit at false count out to out₁ (Some (placed next end count₁)) → at ≤ length s
      → (end ≤ limit) × (at ≤ next) × (next ≤ length s) × (count₁ + at ≤ count + next)
  rest-room at count out to out₁ next end count₁ v h =
      omega (arith, v.5, v.4.next-at, v.4.known, met-in-most v.2 count, span-within s at v.2 count out to (pairs v.0) out₁ next end count₁ v.4 h)

  -- ---- a constant

  pub forms-constant : (at count : ℕ) (out : List ℕ) (to end : ℕ) → at < length s → constant (get_or s at 0) ≡ true → end ≡ to + 1 → end ≤ limit
      → FormsRan arity s limit at 1 count out to (set out to (get_or s at 0)) (Some (placed (at + 1) end count))
  forms-constant at count out to end h e p l =
      let q = constant-shape arity (get_or s at 0) e in
      let o = ordered-cell count (get_or s at 0) q.1 in
      rw p
      (forms-symbol at 1 count out to (set out to (get_or s at 0)) (omega arith) h 0 0 count (Some (placed (at + 1) (to + 1) count)) q.0 refl o.0 (sym o.1)
      (forms-none (at + 1) 0 count (set out to (get_or s at 0)) (to + 1) refl (omega arith)))
