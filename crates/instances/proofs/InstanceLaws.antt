-- Laws of the instance on cells: the starts of terms and the scan that finds them, the cells of a term, and the instance as terms have it.
use Prim.Native.Nat.{ℕ, suc, ◌+◌, ◌-◌, ◌*◌, ◌≤◌, ◌<◌}
use mathlib.Core.Bool.{true, false}
use mathlib.Core.List.{List, [], ◌∷◌, ◌++◌, append_assoc}
use mathlib.Core.Path.{◌≡◌, refl, sym, ap, ◌∙◌}
use native.Mathlib.Omega.{arith}
use native.Mathlib.Nat.{suc-mul}
use native.Mathlib.Numerals.{add-one}
use lib.ListN.{length, take, drop, get_or, set, length-append, drop_of_length-le}
use lib.Seq.{sets, sets-eq, slice, drop-cons, length-slice, length-sets, length-take-le, get_or-set_same, get_or-set_other}
use lib.Dec.{eqb, ltb}
use borrow.Rule.Slice.PartMut.{put_mid}
use Rattle.std.proofs.lemmas.List.{drop-take, drop-drop}
use borrow.Author.Tests.{eqb-true, eqb-false, ltb-true, ltb-false}
use Rattle.basis.proofs.Tests.{strictly}
use Rattle.basis.proofs.Cases.{by_cases}
use Rattle.forms.specs.Cells.{payload, variable, shape_of}
use Rattle.forms.specs.Terms.{Term, cell, pairs, every}
use Rattle.forms.specs.Due.{arguments, due_after, due_of}
use Rattle.forms.proofs.ShapeLaws.{pair-cell-of}
use Rattle.forms.proofs.ReadLaws.{compact-size, reads-within}
use Rattle.forms.proofs.FormLaws.{every-pairs-least}
use Rattle.forms.proofs.DueLaws.{cells_of, each-end, due-next, due-within}
use Rattle.pair_reader.specs.Storing.{terms_at}
use Rattle.basis.proofs.SetsLaws.{sets-append}
use Rattle.plain.proofs.Instances.{every-suc}
use Rattle.instances.specs.Instances.{Placed, AllPlaced, width, needed, stands_for, instance_cells}

-- ---- the starts of terms

module _ (arity : ℕ → ℕ) (s : List ℕ) where
  abbrev ts : List Term
  ts = terms_at arity s 0

  pub no_start : cells_of 0 ts ≡ 0
  unfolding every
  no_start = refl

  -- a term has a cell
  pub start-grows : (i : ℕ) → i < length ts → cells_of i ts < cells_of (i + 1) ts
  start-grows i h =
      let d : Term = cell 0 in
      let more : cells_of (suc i) ts ≡ cells_of i ts + length (pairs (get_or ts i d)) = ap length (every-suc ts i d h) ∙ length-append (every pairs (take i ts)) (pairs (get_or ts i d)) in
      rw add-one (omega (arith, more, compact-size (get_or ts i d)))

  pub terms-few : (m : ℕ) → m ≤ length ts → m ≤ cells_of m ts
  terms-few m h = omega (arith, every-pairs-least (take m ts), length-take-le m ts h)

  pub start-noted : (starts : List ℕ) (i at : ℕ) → i < length starts → at ≡ cells_of i ts → ((k : ℕ) → k < i → get_or starts k 0 ≡ cells_of k ts)
      → (k : ℕ) → k < i + 1 → get_or (set starts i at) k 0 ≡ cells_of k ts
  start-noted starts i at l e f k h = by_cases (eqb k i)
      (λ q. let x : k ≡ i = eqb-true k i q in rw x (get_or-set_same starts i at 0 l ∙ e))
      (λ q. let x : k ≡ i → ⊥ = eqb-false k i q in get_or-set_other starts i k at 0 x ∙ f k (at-most-lt k i h x))
    where
      at-most-lt : (k i : ℕ) → k < i + 1 → (k ≡ i → ⊥) → k < i
      at-most-lt k i h x = omega arith

-- ---- the scan that finds them

-- the scan stands before the end of term i, and what is due is the sum over the cells passed
pub record Scans (arity : ℕ → ℕ) (s : List ℕ) (m at due i : ℕ) : Type 0 where
  pub sum : due ≡ due_of arity m (slice 0 at s)
  pub within : i < m → at < cells_of (i + 1) (terms_at arity s 0)

module _ (arity : ℕ → ℕ) (s : List ℕ) (m : ℕ) (few : m ≤ length (terms_at arity s 0)) where
  pub scan_begins : Scans arity s m 0 m 0
  unfolding due_of
  scan_begins = record { sum = refl; within = λ h. omega (arith, start-grows arity s 0 (omega arith)) }

  module _ (at due i : ℕ) (scans : Scans arity s m at due i) (more : i < m) where
    -- where term i ends
    abbrev stop : ℕ
    stop = cells_of (i + 1) (terms_at arity s 0)

    -- the sum is m − (i + 1) there, and above that before
    ends : (due_of arity m (take stop s) ≡ m - (i + 1)) × ((k : ℕ) → k < stop → m - (i + 1) < due_of arity m (take k s))
    ends = each-end arity m (i + 1) stop s (omega arith) (omega arith) refl

    pub scan-inside : at < length s
    scan-inside = omega (arith, scans.within more, reads-within (shape_of arity) (pair-cell-of arity) s (i + 1) (omega arith))

    pub scan-due : 0 < due
    scan-due = omega (arith, scans.sum, ends.1 at (scans.within more))

    pub scan-small : ((p : ℕ) → arity p ≤ 255) → due ≤ m + 254 * at
    scan-small small = omega (arith, scans.sum, due-within arity s 0 at m (omega arith) (omega (arith, scan-inside)) small)

    module _ (k due' : ℕ) (e : k ≡ arguments (shape_of arity (get_or s at 0))) (d : due' ≡ due_after due k) where
      pub scan-sum : due' ≡ due_of arity m (slice 0 (at + 1) s)
      scan-sum = d ∙ sym (due-next arity s 0 at m (omega arith) (omega (arith, scan-inside)) scan-inside ∙ rw (← scans.sum, ← e))

      -- term i goes on
      pub scan-on : m ≤ due' + i → Scans arity s m (at + 1) due' i
      scan-on h = record {
        sum = scan-sum;
        within = λ l. by_cases (eqb (at + 1) stop)
            (λ q. absurd (let x : due_of arity m (slice 0 (at + 1) s) ≡ m - (i + 1) = ap (λ (n : ℕ). due_of arity m (take n s)) (eqb-true (at + 1) stop q) ∙ ends.0 in omega (arith, scan-sum)))
            (λ q. let x : at + 1 ≡ stop → ⊥ = eqb-false (at + 1) stop q in strictly (at + 1) stop (omega (arith, scans.within more)) x);
      }

      -- term i ends, and the next starts
      pub scan-start : due' + i < m → at + 1 ≡ stop
      scan-start h = by_cases (ltb (at + 1) stop)
          (λ q. absurd (omega (arith, scan-sum, ends.1 (at + 1) (ltb-true (at + 1) stop q))))
          (λ q. omega (arith, scans.within more, ltb-false (at + 1) stop q))

      pub scan-next : due' + i < m → Scans arity s m (at + 1) due' (i + 1)
      scan-next h = record { sum = scan-sum; within = λ l. omega (arith, scan-start h, start-grows arity s (i + 1) (omega arith)) }

-- ---- widths

-- the place of a variable's term
pub placed_at : (limit : ℕ) (starts : List ℕ) (c i : ℕ) → Placed limit starts c → variable c ≡ true → i ≡ payload c
    → (i + 1 < length starts) × (get_or starts i 0 ≤ get_or starts (i + 1) 0) × (get_or starts (i + 1) 0 ≤ limit)
placed_at limit starts c i p e q = rw q (p e)

module _ (starts : List ℕ) (c : ℕ) where
  pub width-variable : (i : ℕ) → variable c ≡ true → i ≡ payload c → get_or starts (i + 1) 0 - get_or starts i 0 ≡ width starts c
  unfolding width
  width-variable i e p = rw (e, p)

  pub width-other : variable c ≡ false → 1 ≡ width starts c
  unfolding width
  width-other e = rw e

  pub width-limit : Placed 256 starts c → width starts c ≤ 256
  unfolding width
  width-limit p = by_cases (variable c) (λ e. let w = p e in rw e (omega arith)) (λ e. rw e (omega arith))

  -- a cell stands for itself, or for a term within so many cells
  width-most : (limit : ℕ) → Placed limit starts c → width starts c ≤ limit + 1
  unfolding width
  width-most limit p = by_cases (variable c) (λ e. let w = p e in rw e (omega arith)) (λ e. rw e (omega arith))

pub needed-most : (limit : ℕ) (starts cells : List ℕ) → AllPlaced limit starts (length cells) cells → needed starts cells ≤ length cells * (limit + 1)
unfolding needed
needed-most limit starts [] p = omega arith
needed-most limit starts (c ∷ cs) p =
    let w : width starts c ≤ limit + 1 = width-most starts c limit (p 0 (omega arith)) in
    omega (arith, suc-mul (length cs) (limit + 1), needed-most limit starts cs (λ k h. p (suc k) (omega arith)))

module _ (starts cells : List ℕ) (i : ℕ) where
  pub need-step : i < length cells → needed starts (drop i cells) ≡ width starts (get_or cells i 0) + needed starts (drop (i + 1) cells)
  unfolding needed
  need-step h = rw (drop-cons cells i 0 h, add-one)

  pub need-end : length cells ≤ i → needed starts (drop i cells) ≡ 0
  unfolding needed
  need-end l = rw (drop_of_length-le cells {i = i} l)

-- ---- a part that is copied

pub part-copied : (s out q : List ℕ) (to start end k : ℕ) → k ≡ end - start → start ≤ end → end ≤ length s → to + (end - start) ≤ length out
    → q ≡ take (end - start) (drop start s) → put_mid to k out q ≡ sets out to (slice start end s)
part-copied s out q to start end k n l h r e =
    let z : start + (end - start) ≡ end = omega arith in
    let is : slice start end s ≡ q = rw z at (drop-take start (end - start) s) ∙ sym e in
    let m : length q ≡ k = ap length (sym is) ∙ length-slice start end s h ∙ sym n in
    let rest : drop k (drop to out) ≡ drop (to + length q) out = rw m (drop-drop k to out) in
    rw is (ap (λ (x : List ℕ). take to out ++ (q ++ x)) rest ∙ sym (append_assoc (take to out) q (drop (to + length q) out)) ∙ sym (sets-eq q out to (omega arith)))

-- ---- what stands for a cell

module _ (terms starts : List ℕ) (c : ℕ) where
  pub stands-variable : (i : ℕ) → variable c ≡ true → i ≡ payload c → stands_for terms starts c ≡ slice (get_or starts i 0) (get_or starts (i + 1) 0) terms
  unfolding stands_for
  stands-variable i e p = rw (e, p)

  pub stands-other : variable c ≡ false → stands_for terms starts c ≡ c ∷ []
  unfolding stands_for
  stands-other e = rw e

  pub stands-length : (i : ℕ) → variable c ≡ true → i ≡ payload c → get_or starts (i + 1) 0 ≤ length terms
      → length (stands_for terms starts c) ≡ get_or starts (i + 1) 0 - get_or starts i 0
  stands-length i e p h = ap length (stands-variable i e p) ∙ length-slice (get_or starts i 0) (get_or starts (i + 1) 0) terms h

  -- the cells were written
  pub stands-written : (part out out' : List ℕ) (to next n : ℕ) → stands_for terms starts c ≡ part → length (stands_for terms starts c) ≡ n → next ≡ to + n → out' ≡ sets out to part
      → (next ≡ to + length (stands_for terms starts c)) × (out' ≡ sets out to (stands_for terms starts c))
  stands-written part out out' to next n e l p q = (omega (arith, l), q ∙ ap (sets out to) (sym e))

  pub stands-width : Placed (length terms) starts c → length (stands_for terms starts c) ≡ width starts c
  unfolding stands_for width
  stands-width p = by_cases (variable c)
      (λ e. rw e (length-slice (get_or starts (payload c) 0) (get_or starts (payload c + 1) 0) terms (p e).2))
      (λ e. rw e)

module _ (terms starts cells out : List ℕ) (i to : ℕ) where
  abbrev here : List ℕ
  here = stands_for terms starts (get_or cells i 0)

  abbrev left : List ℕ
  left = instance_cells terms starts (drop (i + 1) cells)

  pub write-next : i < length cells → instance_cells terms starts (drop i cells) ≡ here ++ left
  unfolding instance_cells
  write-next h = rw (drop-cons cells i 0 h, add-one)

  pub write-room : i < length cells → length (instance_cells terms starts (drop i cells)) ≡ length here + length left
  write-room h = ap length (write-next h) ∙ length-append here left

  -- what stands for a cell is written
  pub write_step : (target out₀ out' : List ℕ) (to' : ℕ) → i < length cells → to + length (instance_cells terms starts (drop i cells)) ≤ length out
      → sets out to (instance_cells terms starts (drop i cells)) ≡ target → length out ≡ length out₀ → to' ≡ to + length here → out' ≡ sets out to here
      → (to' + length left ≤ length out') × (sets out' to' left ≡ target) × (length out' ≡ length out₀)
  write_step target out₀ out' to' h room e l p q =
      let k : length out' ≡ length out = ap length q ∙ length-sets out to here in
      (omega (arith, write-room h), rw (p, q) (sym (sets-append here left out to) ∙ ap (sets out to) (sym (write-next h)) ∙ e), k ∙ l)

  pub write-none : length cells ≤ i → length (instance_cells terms starts (drop i cells)) ≡ 0
  unfolding instance_cells
  write-none e = rw (drop_of_length-le cells {i = i} e)

  pub write-end : length cells ≤ i → sets out to (instance_cells terms starts (drop i cells)) ≡ out
  unfolding instance_cells
  write-end e = rw (drop_of_length-le cells {i = i} e)
