-- Laws of the sum of what is due, and the theorems that specs/Due.antt states of it.
use Prim.Native.Nat.{ℕ, zero, suc, ◌+◌, ◌*◌, ◌-◌, ◌≤◌, ◌<◌}
use mathlib.Core.List.{List, [], ◌∷◌, ◌++◌, append_assoc}
use mathlib.Core.Bool.{Bool, true, false}
use mathlib.Core.Path.{◌≡◌, refl, sym, ap, ◌∙◌, subst}
use native.Mathlib.Omega.{arith}
use native.Mathlib.Nat.{not-suc-le-zero}
use lib.ListN.{length, take, drop, get_or, length-append}
use lib.Seq.{slice, take-length, take-add, drop-cons, drop-append-le, length-take-le, length-slice}
use lib.Dec.{leb}
use borrow.Author.Tests.{leb-true, leb-false}
use Rattle.forms.specs.declared.Shape.{Shape}
use Rattle.forms.specs.declared.Shape.TheVariants.{Symbol, Pair, Illegal}
use Rattle.forms.specs.Cells.{PAIR, shape_of, arity_of}
use Rattle.forms.specs.Terms.{Term, cell, pairs, every, applied, paired, begun, reads}
use Rattle.forms.specs.Due.{arguments, due_after, due_of, LegalCells, EndsAtLast, TermsEnd, OnlyTerms, EachEnd, DueBound, DueFits}
use Rattle.forms.proofs.ShapeLaws.{pair-cell-of, symbol-small, arity-small}
use Rattle.forms.proofs.ReadLaws.{applied-short, applied-length, applied-every, pairs-joins, reads-well-formed}
use Rattle.forms.proofs.ExactLaws.{terms-pairs, pairs-terms}

-- ---- one cell

-- how many cells the first n terms have
abbrev pub cells_of : ℕ → List Term → ℕ
cells_of n ts = length (every pairs (take n ts))

-- where the sum is above 0, it is what is left of it and the arguments
pub due-after : (due k : ℕ) → 0 < due → due_after due k ≡ k + (due - 1)
due-after due k h = omega arith

-- a cell and its arguments before m terms
Behind : ℕ → ℕ → List Term → List Term → Type 0
Behind k m ts us = (k + m ≤ length ts) × (cells_of (suc m) us ≡ suc (cells_of (k + m) ts))

behind-symbol : (k m c : ℕ) (ts : List Term) (b : Bool) → leb k (length ts) ≡ b → suc m ≤ length (applied k (cell c) ts) → Behind k m ts (applied k (cell c) ts)
unfolding Behind pairs
behind-symbol k m c ts true q h =
    let e : k ≤ length ts = leb-true _ _ q in
    (omega (arith, applied-length k (cell c) ts e), ap length (applied-every pairs pairs-joins k m (cell c) ts e))
behind-symbol k m c ts false q h = absurd (not-suc-le-zero (rw (applied-short k (cell c) ts (leb-false _ _ q)) at h))

behind-pair : (k m : ℕ) (ts : List Term) → k ≡ 2 → suc m ≤ length (paired ts) → Behind k m ts (paired ts)
unfolding Behind pairs paired every
behind-pair k m [] e h = absurd (not-suc-le-zero h)
behind-pair k m (x ∷ []) e h = absurd (not-suc-le-zero h)
behind-pair k m (x ∷ y ∷ ts) e h = let n : k + m ≡ suc (suc m) = omega arith in rw n (omega arith, simp length-append (omega arith))

-- where terms begin with a cell, it is legal, and its arguments are among the terms behind it
behind : (q : Shape) (c m : ℕ) (ts : List Term) → suc m ≤ length (begun q c ts) → (q ≡ Illegal → ⊥) × Behind (arguments q) m ts (begun q c ts)
unfolding arguments begun
behind (Symbol k) c m ts h = ((λ e. let z : ◌≡◌ {A = ℕ} 0 1 = cc in omega arith), behind-symbol k m c ts (leb k (length ts)) refl h)
behind Pair c m ts h = ((λ e. let z : ◌≡◌ {A = ℕ} 0 1 = cc in omega arith), behind-pair (arguments Pair) m ts (omega arith) h)
behind Illegal c m ts h = absurd (not-suc-le-zero h)

module _ (arity : ℕ → ℕ) where
  -- ---- cells one after another

  pub due-append : (cs ds : List ℕ) (due : ℕ) → due_of arity due (cs ++ ds) ≡ due_of arity (due_of arity due cs) ds
  unfolding due_of
  due-append [] ds due = refl
  due-append (c ∷ cs) ds due = due-append cs ds (due_after due (arguments (shape_of arity c)))

  -- ---- terms end where the sum says

  -- begun with n terms and d more, the sum is d after the n terms and above d before; and their cells are legal
  pub record Runs (n d : ℕ) (cs : List ℕ) (size : ℕ) : Type 0 where
    pub after : due_of arity (n + d) (take size cs) ≡ d
    pub before : (k : ℕ) → k < size → d < due_of arity (n + d) (take k cs)
    pub legal : (k : ℕ) → k < size → shape_of arity (get_or cs k 0) ≡ Illegal → ⊥

  runs_none : (d : ℕ) (cs : List ℕ) → Runs 0 d cs 0
  unfolding due_of
  runs_none d cs = record { after = omega arith; before = λ k h. absurd (not-suc-le-zero h); legal = λ k h. absurd (not-suc-le-zero h) }

  runs-cell : (c k m d : ℕ) (cs : List ℕ) (size : ℕ) → k ≡ arguments (shape_of arity c) → (shape_of arity c ≡ Illegal → ⊥)
      → Runs (k + m) d cs size → Runs (suc m) d (c ∷ cs) (suc size)
  unfolding due_of
  runs-cell c k m d cs size e l r =
      let n : suc m + d + arguments (shape_of arity c) - 1 ≡ k + m + d = omega arith in
      record {
        after = subst (λ x. due_of arity x (take size cs) ≡ d) (sym n) r.after;
        before = go n;
        legal = still;
      }
    where
      go : suc m + d + arguments (shape_of arity c) - 1 ≡ k + m + d → (j : ℕ) → j < suc size → d < due_of arity (suc m + d) (take j (c ∷ cs))
      go n zero h = omega arith
      go n (suc j) h = subst (λ x. d < due_of arity x (take j cs)) (sym n) (r.before j (omega arith))

      still : (j : ℕ) → j < suc size → shape_of arity (get_or (c ∷ cs) j 0) ≡ Illegal → ⊥
      still zero h = l
      still (suc j) h = r.legal j (omega arith)

  pub runs : (cs : List ℕ) (n d : ℕ) → n ≤ length (reads (shape_of arity) cs) → Runs n d cs (cells_of n (reads (shape_of arity) cs))
  unfolding reads every Behind
  runs [] zero d h = runs_none d []
  runs [] (suc m) d h = absurd (not-suc-le-zero h)
  runs (c ∷ cs) zero d h = runs_none d (c ∷ cs)
  runs (c ∷ cs) (suc m) d h =
      let ts : List Term = reads (shape_of arity) cs in
      let q : Shape = shape_of arity c in
      let b = behind q c m ts h in
      let k : ℕ = arguments q in
      let ih : Runs (k + m) d cs (cells_of (k + m) ts) = runs cs (k + m) d b.1.0 in
      subst (λ s. Runs (suc m) d (c ∷ cs) s) (sym b.1.1) (runs-cell c k m d cs (cells_of (k + m) ts) refl b.0 ih)

  -- ---- and nothing but terms ends so

  -- the cells are n terms
  abbrev Reads : List ℕ → ℕ → Type 0
  Reads cs n = (length (reads (shape_of arity) cs) ≡ n) × (cs ≡ every pairs (reads (shape_of arity) cs))

  whole-symbol : (k m c : ℕ) (ts : List Term) → length ts ≡ k + m → (length (applied k (cell c) ts) ≡ suc m) × (c ∷ every pairs ts ≡ every pairs (applied k (cell c) ts))
  unfolding pairs
  whole-symbol k m c ts e =
      let us : List Term = applied k (cell c) ts in
      let l : length us ≡ suc m = omega (arith, applied-length k (cell c) ts (omega arith)) in
      let a : every pairs (take (suc m) us) ≡ c ∷ every pairs (take (k + m) ts) = applied-every pairs pairs-joins k m (cell c) ts (omega arith) in
      let x : take (suc m) us ≡ us = ap (λ (i : ℕ). take i us) (sym l) ∙ take-length us in
      let y : take (k + m) ts ≡ ts = ap (λ (i : ℕ). take i ts) (sym e) ∙ take-length ts in
      (l, ap (λ (us : List Term). c ∷ every pairs us) (sym y) ∙ sym a ∙ ap (every pairs) x)

  whole_pair : (m c : ℕ) (ts : List Term) → c ≡ PAIR → length ts ≡ 2 + m → (length (paired ts) ≡ suc m) × (c ∷ every pairs ts ≡ every pairs (paired ts))
  unfolding pairs paired every
  whole_pair m c [] p e = absurd (omega arith)
  whole_pair m c (x ∷ []) p e = absurd (omega arith)
  whole_pair m c (x ∷ y ∷ ts) p e = (omega arith, rw p (ap (λ (l : List ℕ). PAIR ∷ l) (sym (append_assoc (pairs x) (pairs y) (every pairs ts)))))

  whole : (q : Shape) (m c : ℕ) (ts : List Term) → shape_of arity c ≡ q → (q ≡ Illegal → ⊥) → length ts ≡ arguments q + m
      → (length (begun q c ts) ≡ suc m) × (c ∷ every pairs ts ≡ every pairs (begun q c ts))
  unfolding begun arguments
  whole (Symbol k) m c ts p l e = whole-symbol k m c ts e
  whole Pair m c ts p l e = whole_pair m c ts (pair-cell-of arity c p) (omega (arith, e))
  whole Illegal m c ts p l e = absurd (l refl)

  ends-terms : (cs : List ℕ) (m : ℕ) → LegalCells arity cs → EndsAtLast arity m cs → Reads cs m
  unfolding reads every due_of
  ends-terms [] m l e = (sym e.last, refl)
  ends-terms (c ∷ cs) m l e =
      let q : Shape = shape_of arity c in
      let some : 0 < m = e.earlier 0 (omega arith) in
      let n : m ≡ suc (m - 1) = omega arith in
      let d : due_after m (arguments q) ≡ arguments q + (m - 1) = due-after m (arguments q) some in
      let ih : Reads cs (due_after m (arguments q)) = ends-terms cs (due_after m (arguments q)) (λ k h. l (suc k) (omega arith))
      (record { last = e.last; earlier = λ k h. e.earlier (suc k) (omega arith) }) in
      let w = whole q (m - 1) c (reads (shape_of arity) cs) refl (l 0 (omega arith)) (ih.0 ∙ d) in
      (w.0 ∙ sym n, ap (λ (ds : List ℕ). c ∷ ds) ih.1 ∙ w.1)

  -- ---- its bound

  arguments-most : (q : Shape) → ((k : ℕ) → q ≡ Symbol k → k ≤ 255) → arguments q ≤ 255
  unfolding arguments
  arguments-most (Symbol k) f = f k refl
  arguments-most Pair f = omega arith
  arguments-most Illegal f = omega arith

  pub arguments-small : ((p : ℕ) → arity p ≤ 255) → (c : ℕ) → arguments (shape_of arity c) ≤ 255
  arguments-small small c = arguments-most (shape_of arity c) (λ k e. symbol-small arity small c k e)

  pub due-bound : DueBound arity
  unfolding due_of
  due-bound small m [] = omega arith
  due-bound small m (c ∷ cs) =
      let b = due-bound small (m + arguments (shape_of arity c) - 1) cs in
      omega (arith, b, arguments-small small c)

  -- ---- a reader that stands in s, and began to count at `from` with n

  module _ (s : List ℕ) (from at n : ℕ) (begun-before : from ≤ at) (inside : at ≤ length s) where
    due-further : (m : ℕ) → due_of arity n (slice from (at + m) s) ≡ due_of arity (due_of arity n (slice from at s)) (take m (drop at s))
    due-further m =
        ap (due_of arity n) (ap (drop from) (take-add at m s) ∙ drop-append-le from (take at s) (take m (drop at s)) (omega (arith, length-take-le at s inside)))
        ∙ due-append (slice from at s) (take m (drop at s)) n

    -- after one cell more
    pub due-next : at < length s → due_of arity n (slice from (at + 1) s) ≡ due_after (due_of arity n (slice from at s)) (arguments (shape_of arity (get_or s at 0)))
    unfolding due_of
    due-next h = due-further 1 ∙ ap (λ (cs : List ℕ). due_of arity (due_of arity n (slice from at s)) (take 1 cs)) (drop-cons s at 0 h)

    -- after the cells of i terms more
    pub due-terms : (i next : ℕ) → i ≤ length (reads (shape_of arity) (drop at s)) → i ≤ due_of arity n (slice from at s)
        → next ≡ at + cells_of i (reads (shape_of arity) (drop at s)) → due_of arity n (slice from next s) ≡ due_of arity n (slice from at s) - i
    due-terms i next h l e =
        let due : ℕ = due_of arity n (slice from at s) in
        let r : Runs i (due - i) (drop at s) (cells_of i (reads (shape_of arity) (drop at s))) = runs (drop at s) i (due - i) h in
        let z : i + (due - i) ≡ due = omega arith in
        ap (λ (x : ℕ). due_of arity n (slice from x s)) e ∙ due-further (cells_of i (reads (shape_of arity) (drop at s)))
        ∙ ap (λ (x : ℕ). due_of arity x (take (cells_of i (reads (shape_of arity) (drop at s))) (drop at s))) (sym z) ∙ r.after

    pub due-within : ((p : ℕ) → arity p ≤ 255) → due_of arity n (slice from at s) ≤ n + 254 * (at - from)
    due-within small = let b = due-bound small n (slice from at s) in rw (length-slice from at s inside) at b

  -- ---- the theorems

  pub terms-end : TermsEnd arity
  terms-end m cs h =
      let w = terms-pairs arity m cs h in
      let ts : List Term = reads (shape_of arity) cs in
      let r : Runs m 0 cs (cells_of m ts) = runs cs m 0 (omega (arith, w.0)) in
      let n : cells_of m ts ≡ length cs = ap (λ (i : ℕ). cells_of i ts) (sym w.0) ∙ ap (λ (us : List Term). length (every pairs us)) (take-length ts) ∙ sym (ap length w.1) in
      let z : m + 0 ≡ m = omega arith in (
        λ k l. r.legal k (rw n l),
        record {
          last = ap (due_of arity m) (sym (take-length cs)) ∙ rw (n, z) at r.after;
          earlier = λ k l. rw z at (r.before k (rw n l));
        },
      )

  pub only-terms : OnlyTerms arity
  only-terms m cs l e =
      let w = ends-terms cs m l e in
      rw w.1 (pairs-terms arity m (reads (shape_of arity) cs) (reads-well-formed (shape_of arity) cs) w.0)

  pub each-end : EachEnd arity
  each-end m i n cs h l e =
      let r : Runs i (m - i) cs (cells_of i (reads (shape_of arity) cs)) = runs cs i (m - i) l in
      let z : i + (m - i) ≡ m = omega arith in
      rw e (rw z at r.after, λ k j. rw z at (r.before k j))

pub due-fits : DueFits
due-fits e m cs h l = let b = due-bound (arity_of e) (arity-small e) m cs in (omega arith, omega arith)
