-- The instance on cells is the instance of terms: the cells that are written for legal forms, and how many.
use Rattle.std.specs.Prelude.{None, Ok, Option, Some}
use Prim.Native.Nat.{ℕ, zero, suc, ◌+◌, ◌*◌, ◌≤◌, ◌<◌}
use mathlib.Core.Bool.{true}
use mathlib.Core.List.{List, [], ◌∷◌, ◌++◌, append_assoc, map}
use mathlib.Core.Path.{◌≡◌, refl, sym, ap, ◌∙◌}
use native.Mathlib.Omega.{arith}
use native.Mathlib.Nat.{not-suc-le-zero, mul-le-mul}
use native.Mathlib.Numerals.{add-one}
use lib.ListN.{length, take, drop, get_or, length-append, length-take, take-append-drop, get_or-append}
use lib.Seq.{sets, sets-eq, slice, take_at, take-append_seam, drop-append_seam}
use lib.Dec.{leb}
use borrow.Author.Tests.{le-leb, leb-true, leb-false}
use Rattle.basis.specs.Choice.{pick}
use Rattle.basis.proofs.Cases.{by_cases}
use Rattle.forms.specs.Cells.{payload, tag, variable, shape_of}
use Rattle.forms.specs.Terms.{Term, cell, pairs, every, applied, reads}
use Rattle.forms.specs.Numbering.{rank, met, renamed, numbered}
use Rattle.forms.specs.Stored.{StoredForm}
use Rattle.forms.specs.Converting.{loading, fitting, written}
use Rattle.forms.proofs.ShapeLaws.{pair-cell-of}
use Rattle.forms.proofs.ReadLaws.{AllWellFormed, reads-pairs, reads-within, split}
use Rattle.forms.proofs.NumberingLaws.{Each, each-met}
use Rattle.forms.proofs.ExactLaws.{pair-shape}
use Rattle.forms.proofs.StoredLaws.{ExactTerms, StoredLaws}
use Rattle.forms.proofs.DueLaws.{cells_of}
use Rattle.pair_reader.specs.Storing.{terms_at}
use Rattle.convert.proofs.AnswerLaws.{taken-room, loading-length}
use Rattle.plain.specs.Coding.{coded_as}
use Rattle.plain.proofs.Instances.{spread, substituted-every, every-suc}
use Rattle.instances.specs.Instances.{StartsAt, Placed, AllPlaced, width, needed, Missing, stands_for, instance_cells}
use Rattle.instances.proofs.InstanceLaws.{stands-variable, stands-other, stands-width, needed-most}

-- ---- terms one after another

-- reading goes on behind the cells of terms
pub reads-behind : (arity : ℕ → ℕ) (ts : List Term) (rest : List ℕ) → AllWellFormed (shape_of arity) ts
    → reads (shape_of arity) (every pairs ts ++ rest) ≡ ts ++ reads (shape_of arity) rest
unfolding every applied
reads-behind arity [] rest h = refl
reads-behind arity (t ∷ ts) rest h =
    rw (append_assoc (pairs t) (every pairs ts) rest, reads-pairs (shape_of arity) (pair-shape arity) t 0 (every pairs ts ++ rest) h.0, reads-behind arity ts rest h.1)

-- more terms have no fewer cells
pub cells-grow : (ts : List Term) (j k : ℕ) → j ≤ k → cells_of j ts ≤ cells_of k ts
unfolding every
cells-grow ts zero k h = omega arith
cells-grow ts (suc j) zero h = absurd (not-suc-le-zero h)
cells-grow [] (suc j) (suc k) h = omega arith
cells-grow (t ∷ ts) (suc j) (suc k) h = simp length-append (omega (arith, cells-grow ts j k (omega arith)))

-- the cells of a term stand from its start to its end
term-part : (arity : ℕ → ℕ) (terms : List ℕ) (i : ℕ) (d : Term) → i < length (terms_at arity terms 0)
    → slice (cells_of i (terms_at arity terms 0)) (cells_of (suc i) (terms_at arity terms 0)) terms ≡ pairs (get_or (terms_at arity terms 0) i d)
term-part arity terms i d h =
    let ts : List Term = terms_at arity terms 0 in
    let w = split (shape_of arity) (pair-cell-of arity) terms (suc i) h in
    let front : take (cells_of (suc i) ts) terms ≡ every pairs (take i ts) ++ pairs (get_or ts i d) =
    ap (take (cells_of (suc i) ts)) w.1 ∙ take-append_seam (every pairs (take (suc i) ts)) w.0 ∙ every-suc ts i d h in
    ap (drop (cells_of i ts)) front ∙ drop-append_seam (every pairs (take i ts)) (pairs (get_or ts i d))

-- ---- variables that have a term

-- the number of each variable of the cells is below m
abbrev Below : ℕ → List ℕ → Type 0
Below m [] = Unit {0}
Below m (c ∷ cs) = (variable c ≡ true → payload c < m) × Below m cs

below_at : (m : ℕ) (cs : List ℕ) → Below m cs → (k : ℕ) → k < length cs → variable (get_or cs k 0) ≡ true → payload (get_or cs k 0) < m
below_at m [] b k h = absurd (not-suc-le-zero h)
below_at m (c ∷ cs) b zero h = b.0
below_at m (c ∷ cs) b (suc k) h = below_at m cs b.1 k (omega arith)

below_each : (vs cs : List ℕ) → length vs ≤ 32 → Each vs cs → map (renamed vs) cs ≡ cs → Below (length vs) cs
unfolding renamed
below_each vs [] l e f = tt
below_each vs (c ∷ cs) l e f =
    let one : renamed vs c ≡ c = cc in
    let rest : map (renamed vs) cs ≡ cs = cc in
    ((λ q. let z : tag 1 (rank vs c) ≡ c = rw q at one in let r : rank vs c < length vs = e.0 q in omega arith), below_each vs cs l e.1 rest)

-- a legal form numbers its variables below how many they are
legal-below : (arity : ℕ → ℕ) (form : StoredForm) → StoredLaws arity form → (w : List ℕ) → form.legal 1 w ≡ true → Below (length (met [] w)) (form.cells w)
unfolding numbered
legal-below arity form laws w h =
    let d = laws.demand.loaded 1 w h in
    let e = (laws.exact-terms 1 w (laws.legal-exact 1 w h)).variables in
    rw (← e) (below_each (met [] (form.cells w)) (form.cells w) d.0.variables (each-met (form.cells w) []) d.1)

-- ---- the instance

module _ (arity : ℕ → ℕ) (terms starts : List ℕ) (m : ℕ) (us more : List Term) (the-terms : terms_at arity terms 0 ≡ us ++ more) (all : length us ≡ m)
    (noted : StartsAt (terms_at arity terms 0) m starts) (room : m < length starts) where
  abbrev ts : List Term
  ts = terms_at arity terms 0

  enough-terms : m ≤ length ts
  enough-terms = omega (arith, all, ap length the-terms, length-append us more)

  cell-spread : (c : ℕ) → (variable c ≡ true → payload c < m) → stands_for terms starts c ≡ pick (variable c) (pairs (get_or us (payload c) (cell c))) (c ∷ [])
  cell-spread c f = by_cases (variable c)
      (λ q.
      let h : payload c < m = f q in
      let a : get_or starts (payload c) 0 ≡ cells_of (payload c) ts = noted (payload c) (omega arith) in
      let b : get_or starts (payload c + 1) 0 ≡ cells_of (suc (payload c)) ts = noted (payload c + 1) (omega arith) ∙ ap (λ (i : ℕ). cells_of i ts) (add-one (payload c)) in
      let g : get_or ts (payload c) (cell c) ≡ get_or us (payload c) (cell c) = ap (λ (l : List Term). get_or l (payload c) (cell c)) the-terms ∙ get_or-append us more (cell c) (payload c) (omega arith) in
      rw q (stands-variable terms starts c (payload c) q refl
      ∙ ap (λ (i : ℕ). slice i (get_or starts (payload c + 1) 0) terms) a
      ∙ ap (λ (i : ℕ). slice (cells_of (payload c) ts) i terms) b
      ∙ term-part arity terms (payload c) (cell c) (omega (arith, enough-terms)) ∙ ap pairs g))
      (λ q. rw q (stands-other terms starts c q))

  spread-cells : (cs : List ℕ) → Below m cs → instance_cells terms starts cs ≡ spread us cs
  unfolding instance_cells spread
  spread-cells [] b = refl
  spread-cells (c ∷ cs) b = rw (cell-spread c b.0, spread-cells cs b.1)

  placed-cell : (limit : ℕ) → cells_of m ts ≤ limit → (c : ℕ) → (variable c ≡ true → payload c < m) → Placed limit starts c
  placed-cell limit l c f q =
      let h : payload c < m = f q in
      let a : get_or starts (payload c) 0 ≡ cells_of (payload c) ts = noted (payload c) (omega arith) in
      let b : get_or starts (payload c + 1) 0 ≡ cells_of (payload c + 1) ts = noted (payload c + 1) (omega arith) in
      (omega arith, omega (arith, cells-grow ts (payload c) (payload c + 1) (omega arith)), omega (arith, cells-grow ts (payload c + 1) m (omega arith)))

  terms-within : cells_of m ts ≤ length terms
  terms-within = reads-within (shape_of arity) (pair-cell-of arity) terms m enough-terms

  needed-length : (cs : List ℕ) → Below m cs → needed starts cs ≡ length (instance_cells terms starts cs)
  unfolding needed instance_cells
  needed-length [] b = refl
  needed-length (c ∷ cs) b =
      let e : length (stands_for terms starts c) ≡ width starts c = stands-width terms starts c (placed-cell (length terms) terms-within c b.0) in
      simp length-append (omega (arith, e, needed-length cs b.1))

-- ---- legal forms

-- what is known of the cells and terms that were loaded, once the starts of the terms are noted
pub record Ready (arity : ℕ → ℕ) (form : StoredForm) (w v cells terms starts : List ℕ) (n k : ℕ) : Type 0 where
  pub small : n ≤ 256
  pub fits : n ≤ length cells
  pub placed : AllPlaced 256 starts (length (take n cells)) (take n cells)
  pub placed-within : AllPlaced (length terms) starts (length (take n cells)) (take n cells)
  pub placed-before : AllPlaced k starts (length (take n cells)) (take n cells)
  pub instance-cells : instance_cells terms starts (take n cells) ≡ (coded_as arity form).instance_of w v
  pub need : needed starts (take n cells) ≡ length ((coded_as arity form).instance_of w v)

module _ (arity : ℕ → ℕ) (form : StoredForm) (laws : StoredLaws arity form) (w v : List ℕ) (m : ℕ) (legal-w : form.legal 1 w ≡ true) (variables : length (met [] w) ≡ m) (legal-v : form.legal m v ≡ true) where
  the_term : ExactTerms arity form 1 w
  the_term = laws.exact-terms 1 w (laws.legal-exact 1 w legal-w)

  its-terms : ExactTerms arity form m v
  its-terms = laws.exact-terms m v (laws.legal-exact m v legal-v)

  pub few : m < 33
  few = omega (arith, variables, (laws.demand.loaded 1 w legal-w).0.variables, ap length the_term.variables)

  abbrev us : List Term
  us = form.terms v

  as_many : length us ≡ m
  as_many = its-terms.count

  module _ (terms : List ℕ) (k : ℕ) (held : take k terms ≡ form.cells v) where
    first-terms : terms_at arity terms 0 ≡ us ++ reads (shape_of arity) (drop k terms)
    first-terms =
        ap (reads (shape_of arity)) (sym (take-append-drop k terms) ∙ ap (λ (l : List ℕ). l ++ drop k terms) (held ∙ its-terms.cells))
        ∙ reads-behind arity us (drop k terms) its-terms.well-formed

    pub enough : m ≤ length (terms_at arity terms 0)
    enough = omega (arith, as_many, ap length first-terms, length-append us (reads (shape_of arity) (drop k terms)))

    all-cells : cells_of m (terms_at arity terms 0) ≡ length (form.cells v)
    all-cells = ap (λ (l : List Term). length (every pairs l)) (ap (take m) first-terms ∙ take_at us (reads (shape_of arity) (drop k terms)) m as_many) ∙ ap length (sym its-terms.cells)

    last-before : cells_of m (terms_at arity terms 0) ≤ k
    last-before = omega (arith, all-cells, ap length held, length-take k terms)

    pub last_end : cells_of m (terms_at arity terms 0) ≤ 256
    last_end = omega (arith, all-cells, (laws.demand.loaded m v legal-v).0.cells)

    -- where the last term ends, as loading told
    pub terms-end : Some k ≡ loading form m v → k ≡ cells_of m (terms_at arity terms 0)
    terms-end got = loading-length form m v k got ∙ sym all-cells

    module _ (cells starts : List ℕ) (n : ℕ) (got : Some n ≡ loading form 1 w) (held-cells : take n cells ≡ form.cells w)
        (noted : StartsAt (terms_at arity terms 0) m starts) (room : m < length starts) where
      many : n ≡ length (form.cells w)
      many = loading-length form 1 w n got

      below : Below m (take n cells)
      below = rw (held-cells, ← variables) (legal-below arity form laws w legal-w)

      the-instance : instance_cells terms starts (take n cells) ≡ (coded_as arity form).instance_of w v
      the-instance =
          spread-cells arity terms starts m us (reads (shape_of arity) (drop k terms)) first-terms as_many noted room (take n cells) below
          ∙ ap (spread us) (held-cells ∙ the_term.cells) ∙ sym (substituted-every us (form.terms w))

      pub ready : Ready arity form w v cells terms starts n k
      ready = record {
        small = omega (arith, many, (laws.demand.loaded 1 w legal-w).0.cells);
        fits = taken-room n cells (form.cells w) held-cells many;
        placed = λ i h. placed-cell arity terms starts m us (reads (shape_of arity) (drop k terms)) first-terms as_many noted room 256 last_end (get_or (take n cells) i 0) (below_at m (take n cells) below i h);
        placed-within = λ i h. placed-cell arity terms starts m us (reads (shape_of arity) (drop k terms)) first-terms as_many noted room (length terms) (terms-within arity terms starts m us (reads (shape_of arity) (drop k terms)) first-terms as_many noted room) (get_or (take n cells) i 0) (below_at m (take n cells) below i h);
        placed-before = λ i h. placed-cell arity terms starts m us (reads (shape_of arity) (drop k terms)) first-terms as_many noted room k last-before (get_or (take n cells) i 0) (below_at m (take n cells) below i h);
        instance-cells = the-instance;
        need = needed-length arity terms starts m us (reads (shape_of arity) (drop k terms)) first-terms as_many noted room (take n cells) below ∙ ap length the-instance;
      }

-- what is not missing fits
pub fits_all : (need room : ℕ) (r : Option ℕ) → Missing need room r → r ≡ None → need ≤ room
fits_all need room r h g = by_cases (leb need room)
    (λ q. leb-true need room q)
    (λ q. let l : Some need ≡ None = sym (h.1 (leb-false need room q)) ∙ g in let z : ◌≡◌ {A = ℕ} 0 1 = cc in absurd (omega arith))

pub fits_not : (need room k : ℕ) (r : Option ℕ) → Missing need room r → r ≡ Some k → (room < k) × (k ≡ need)
fits_not need room k r h g = by_cases (leb need room)
    (λ q. let l : Some k ≡ None = sym g ∙ h.0 (leb-true need room q) in let z : ◌≡◌ {A = ℕ} 0 1 = cc in absurd (omega arith))
    (λ q. let l : Some k ≡ Some need = sym g ∙ h.1 (leb-false need room q) in let e : k ≡ need = cc in (omega (arith, e, leb-false need room q), e))

-- no instance is longer than a term for each cell
module _ (arity : ℕ → ℕ) (form : StoredForm) (w v cells terms starts : List ℕ) (n k : ℕ) (y : Ready arity form w v cells terms starts n k) where
  pub need-bounded : needed starts (take n cells) ≤ 256 * 257
  need-bounded =
      let l : length (take n cells) ≤ 256 = omega (arith, length-take n cells, y.small) in
      let z : length (take n cells) * 257 ≤ 256 * 257 = mul-le-mul {n₂ = 256} {m₂ = 257} l (omega arith) in
      omega (arith, z, needed-most 256 starts (take n cells) y.placed)

  pub missing-bounded : (room m : ℕ) (r : Option ℕ) → Missing (needed starts (take n cells)) room r → r ≡ Some m → m ≤ 256 * 257
  missing-bounded room m r h g = omega (arith, (fits_not _ room m r h g).1, need-bounded)

-- what fits is written
pub fitting-written : (n : ℕ) (form cells out out' : List ℕ) → n ≡ length form → cells ≡ form → n ≤ length out → out' ≡ sets out 0 cells
    → (Ok n ≡ fitting (length form) (length out)) × (out' ≡ written (Ok n) form out)
unfolding fitting written
fitting-written n form cells out out' e f h q =
    let l : length form ≤ length out = omega arith in
    let z : 0 + length form ≡ n = omega arith in
    (rw (le-leb (length form) (length out) l, e), q ∙ ap (sets out 0) f ∙ sets-eq form out 0 (omega arith) ∙ ap (λ (i : ℕ). form ++ drop i out) z)
