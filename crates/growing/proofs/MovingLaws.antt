-- What stands where after cells were moved or cleared, and moves one after another.
use Prim.Native.Nat.{ℕ, ◌+◌, ◌-◌, ◌≤◌, ◌<◌}
use mathlib.Core.Path.{◌≡◌, refl, sym, ap, ◌∙◌}
use mathlib.Core.List.{List, ◌++◌}
use native.Mathlib.Omega.{arith}
use lib.Dec.{eqb, ltb}
use lib.ListN.{length, get_or, take, drop, set, replicate, length-append, length-drop, length-replicate, length-set, get_or-replicate, get_or-append}
use lib.Seq.{length-take-le, get_or-append-add, get_or-take, get_or-drop, get_or-set_same, get_or-set_other, ext_get_or}
use borrow.Author.Tests.{ltb-true, ltb-false, lt-ltb, le-ltb, eqb-true, eqb-false}
use Rattle.basis.proofs.Cases.{by_cases}
use Rattle.space.specs.Fresh.{cleared}
use Rattle.growing.specs.declared.Block.{Block}
use Rattle.growing.specs.Moving.{moved, moved_block, both_moved}

pub append_left : (x y : List ℕ) (j : ℕ) → j < length x → get_or (x ++ y) j 0 ≡ get_or x j 0
append_left x y j h = get_or-append x y 0 j h

pub append_right : (x y : List ℕ) (j : ℕ) → length x ≤ j → get_or (x ++ y) j 0 ≡ get_or y (j - length x) 0
append_right x y j h =
    let e : j ≡ length x + (j - length x) = omega arith in
    ap (λ (i : ℕ). get_or (x ++ y) i 0) e ∙ get_or-append-add x y (j - length x) 0

-- equal places hold equal cells
pub at_place : (s : List ℕ) {i j : ℕ} → i ≡ j → get_or s i 0 ≡ get_or s j 0
at_place s e = ap (λ (k : ℕ). get_or s k 0) e

-- ---- one move

module _ (from to count : ℕ) (s : List ℕ) (low : from + count ≤ length s) (high : to + count ≤ length s) where
  front-size : length (take to s) ≡ to
  front-size = length-take-le to s (omega arith)

  middle-size : length (take count (drop from s)) ≡ count
  middle-size = length-take-le count (drop from s) (omega (arith, length-drop from s))

  head-size : length (take to s ++ take count (drop from s)) ≡ to + count
  head-size = length-append (take to s) (take count (drop from s)) ∙ omega (arith, front-size, middle-size)

  pub moved_length : length (moved from to count s) ≡ length s
  unfolding moved
  moved_length =
      length-append (take to s ++ take count (drop from s)) (drop (to + count) s)
      ∙ omega (arith, head-size, length-drop (to + count) s)

  pub moved_in : (j : ℕ) → to ≤ j → j < to + count → get_or (moved from to count s) j 0 ≡ get_or s (from + (j - to)) 0
  unfolding moved
  moved_in j l h =
      append_left (take to s ++ take count (drop from s)) (drop (to + count) s) j (omega (arith, head-size))
      ∙ append_right (take to s) (take count (drop from s)) j (omega (arith, front-size))
      ∙ at_place (take count (drop from s)) (let e : j - length (take to s) ≡ j - to = omega (arith, front-size) in e)
      ∙ get_or-take count (drop from s) (j - to) 0 (omega arith)
      ∙ get_or-drop from s (j - to) 0

  pub moved-below : (j : ℕ) → j < to → get_or (moved from to count s) j 0 ≡ get_or s j 0
  unfolding moved
  moved-below j h =
      append_left (take to s ++ take count (drop from s)) (drop (to + count) s) j (omega (arith, head-size))
      ∙ append_left (take to s) (take count (drop from s)) j (omega (arith, front-size))
      ∙ get_or-take to s j 0 h

  pub moved-above : (j : ℕ) → to + count ≤ j → get_or (moved from to count s) j 0 ≡ get_or s j 0
  unfolding moved
  moved-above j h =
      append_right (take to s ++ take count (drop from s)) (drop (to + count) s) j (omega (arith, head-size))
      ∙ get_or-drop (to + count) s (j - length (take to s ++ take count (drop from s))) 0
      ∙ at_place s (let e : to + count + (j - length (take to s ++ take count (drop from s))) ≡ j = omega (arith, head-size) in e)

-- ---- moves that change nothing

pub moved_none : (from to : ℕ) (s : List ℕ) → from ≤ length s → to ≤ length s → s ≡ moved from to 0 s
moved_none from to s l h =
    let low : from + 0 ≤ length s = omega arith in
    let high : to + 0 ≤ length s = omega arith in
    ext_get_or 0 s (moved from to 0 s) (sym (moved_length from to 0 s low high)) (λ j b. by_cases (ltb j to)
    (λ t. sym (moved-below from to 0 s low high j (ltb-true _ _ t)))
    (λ t. let u : to ≤ j = ltb-false _ _ t in sym (moved-above from to 0 s low high j (omega arith))))

pub moved-still : (from count : ℕ) (s : List ℕ) → from + count ≤ length s → s ≡ moved from from count s
moved-still from count s h =
    ext_get_or 0 s (moved from from count s) (sym (moved_length from from count s h h)) (λ j b. by_cases (ltb j from)
    (λ t. sym (moved-below from from count s h h j (ltb-true _ _ t)))
    (λ t. let u : from ≤ j = ltb-false _ _ t in by_cases (ltb j (from + count))
    (λ x. at_place s (let e : j ≡ from + (j - from) = omega arith in e) ∙ sym (moved_in from from count s h h j u (ltb-true _ _ x)))
    (λ x. sym (moved-above from from count s h h j (ltb-false _ _ x)))))

-- ---- moves one after another

-- a store of the next cell as it was before the first
pub store-more : (from to i : ℕ) (s : List ℕ) → from + i < length s → to + i < length s
    → set (moved from to i s) (to + i) (get_or s (from + i) 0) ≡ moved from to (i + 1) s
store-more from to i s f t =
    let m : List ℕ = moved from to i s in
    let l : length m ≡ length s = moved_length from to i s (omega arith) (omega arith) in
    let low : from + (i + 1) ≤ length s = omega arith in
    let high : to + (i + 1) ≤ length s = omega arith in
    ext_get_or 0 (set m (to + i) (get_or s (from + i) 0)) (moved from to (i + 1) s)
    (length-set m (to + i) (get_or s (from + i) 0) ∙ l ∙ sym (moved_length from to (i + 1) s low high))
    (λ j b. by_cases (eqb j (to + i))
    (λ e. let is : j ≡ to + i = eqb-true _ _ e in
    at_place (set m (to + i) (get_or s (from + i) 0)) is ∙ get_or-set_same m (to + i) (get_or s (from + i) 0) 0 (omega (arith, l))
    ∙ at_place s (let p : from + i ≡ from + (j - to) = omega arith in p) ∙ sym (moved_in from to (i + 1) s low high j (omega arith) (omega arith)))
    (λ e. let ne : j ≡ to + i → ⊥ = eqb-false _ _ e in
    get_or-set_other m (to + i) j (get_or s (from + i) 0) 0 ne
    ∙ by_cases (ltb j to)
    (λ x. moved-below from to i s (omega arith) (omega arith) j (ltb-true _ _ x) ∙ sym (moved-below from to (i + 1) s low high j (ltb-true _ _ x)))
    (λ x. let u : to ≤ j = ltb-false _ _ x in by_cases (ltb j (to + i))
    (λ y. let v : j < to + i = ltb-true _ _ y in moved_in from to i s (omega arith) (omega arith) j u v ∙ sym (moved_in from to (i + 1) s low high j u (omega arith)))
    (λ y. let v : to + i ≤ j = ltb-false _ _ y in
    moved-above from to i s (omega arith) (omega arith) j v ∙ sym (moved-above from to (i + 1) s low high j (strictly-above j ne v))))))
  where
    strictly-above : (j : ℕ) → (j ≡ to + i → ⊥) → to + i ≤ j → to + (i + 1) ≤ j
    strictly-above j n h = omega arith

pub moved-one : (from to : ℕ) (s : List ℕ) → from < length s → to < length s → set s to (get_or s from 0) ≡ moved from to 1 s
moved-one from to s f t =
    let none : s ≡ moved from to 0 s = moved_none from to s (omega arith) (omega arith) in
    let i : to ≡ to + 0 = omega arith in
    let p : from ≡ from + 0 = omega arith in
    ap (λ (k : ℕ). set s k (get_or s from 0)) i ∙ ap (λ (k : ℕ). set s (to + 0) (get_or s k 0)) p
    ∙ ap (λ (x : List ℕ). set x (to + 0) (get_or s (from + 0) 0)) none ∙ store-more from to 0 s (omega arith) (omega arith)

-- cells that move down, i of them and then k more
pub moved_on : (from to i k : ℕ) (s : List ℕ) → to ≤ from → from + i + k ≤ length s → moved (from + i) (to + i) k (moved from to i s) ≡ moved from to (i + k) s
moved_on from to i k s d h =
    let m : List ℕ = moved from to i s in
    let a : from + i ≤ length s = omega arith in
    let b : to + i ≤ length s = omega arith in
    let l : length m ≡ length s = moved_length from to i s a b in
    let a2 : from + i + k ≤ length m = omega arith in
    let b2 : to + i + k ≤ length m = omega arith in
    let a3 : from + (i + k) ≤ length s = omega arith in
    let b3 : to + (i + k) ≤ length s = omega arith in
    ext_get_or 0 (moved (from + i) (to + i) k m) (moved from to (i + k) s)
    (moved_length (from + i) (to + i) k m a2 b2 ∙ l ∙ sym (moved_length from to (i + k) s a3 b3))
    (λ j z. by_cases (ltb j to)
    (λ x. let u : j < to = ltb-true _ _ x in
    moved-below (from + i) (to + i) k m a2 b2 j (omega arith) ∙ moved-below from to i s a b j u ∙ sym (moved-below from to (i + k) s a3 b3 j u))
    (λ x. let u : to ≤ j = ltb-false _ _ x in by_cases (ltb j (to + i))
    (λ y. let v : j < to + i = ltb-true _ _ y in
    moved-below (from + i) (to + i) k m a2 b2 j v ∙ moved_in from to i s a b j u v ∙ sym (moved_in from to (i + k) s a3 b3 j u (omega arith)))
    (λ y. let v : to + i ≤ j = ltb-false _ _ y in by_cases (ltb j (to + i + k))
    (λ w. let o : j < to + i + k = ltb-true _ _ w in
    moved_in (from + i) (to + i) k m a2 b2 j v o ∙ moved-above from to i s a b (from + i + (j - (to + i))) (omega arith)
    ∙ at_place s (let e : from + i + (j - (to + i)) ≡ from + (j - to) = omega arith in e) ∙ sym (moved_in from to (i + k) s a3 b3 j u (omega arith)))
    (λ w. let o : to + i + k ≤ j = ltb-false _ _ w in
    moved-above (from + i) (to + i) k m a2 b2 j o ∙ moved-above from to i s a b j v ∙ sym (moved-above from to (i + k) s a3 b3 j (omega arith))))))

-- cells that move up, all but the first k and then these
pub moved_back : (from to k m : ℕ) (s : List ℕ) → from ≤ to → to + k + m ≤ length s → moved from to k (moved (from + k) (to + k) m s) ≡ moved from to (k + m) s
moved_back from to k m s d h =
    let x : List ℕ = moved (from + k) (to + k) m s in
    let a : from + k + m ≤ length s = omega arith in
    let l : length x ≡ length s = moved_length (from + k) (to + k) m s a h in
    let a2 : from + k ≤ length x = omega arith in
    let b2 : to + k ≤ length x = omega arith in
    let a3 : from + (k + m) ≤ length s = omega arith in
    let b3 : to + (k + m) ≤ length s = omega arith in
    ext_get_or 0 (moved from to k x) (moved from to (k + m) s)
    (moved_length from to k x a2 b2 ∙ l ∙ sym (moved_length from to (k + m) s a3 b3))
    (λ j z. by_cases (ltb j to)
    (λ p. let u : j < to = ltb-true _ _ p in
    moved-below from to k x a2 b2 j u ∙ moved-below (from + k) (to + k) m s a h j (omega arith) ∙ sym (moved-below from to (k + m) s a3 b3 j u))
    (λ p. let u : to ≤ j = ltb-false _ _ p in by_cases (ltb j (to + k))
    (λ q. let v : j < to + k = ltb-true _ _ q in
    moved_in from to k x a2 b2 j u v ∙ moved-below (from + k) (to + k) m s a h (from + (j - to)) (omega arith)
    ∙ sym (moved_in from to (k + m) s a3 b3 j u (omega arith)))
    (λ q. let v : to + k ≤ j = ltb-false _ _ q in by_cases (ltb j (to + k + m))
    (λ w. let o : j < to + k + m = ltb-true _ _ w in
    moved-above from to k x a2 b2 j v ∙ moved_in (from + k) (to + k) m s a h j v o
    ∙ at_place s (let e : from + k + (j - (to + k)) ≡ from + (j - to) = omega arith in e) ∙ sym (moved_in from to (k + m) s a3 b3 j u (omega arith)))
    (λ w. let o : to + k + m ≤ j = ltb-false _ _ w in
    moved-above from to k x a2 b2 j v ∙ moved-above (from + k) (to + k) m s a h j o ∙ sym (moved-above from to (k + m) s a3 b3 j (omega arith))))))

-- ---- blocks

pub block-still : (b : Block) (s : List ℕ) → b.from + b.count ≤ length s → b.from ≤ b.to → b.to ≤ b.from → s ≡ moved_block b s
block-still b s h l m =
    let z : b.from ≡ b.to = omega arith in
    moved-still b.from b.count s h ∙ ap (λ (k : ℕ). moved b.from k b.count s) z

module _ (b d : Block) (s : List ℕ) where
  pub both-up : (x y : List ℕ) → b.from < b.to → x ≡ moved_block d s → y ≡ moved_block b x → y ≡ both_moved b d s
  unfolding both_moved
  both-up x y l e g = rw (lt-ltb _ _ l) (g ∙ ap (λ (z : List ℕ). moved_block b z) e)

  pub both-down : (x y : List ℕ) → b.to ≤ b.from → x ≡ moved_block b s → y ≡ moved_block d x → y ≡ both_moved b d s
  unfolding both_moved
  both-down x y l e g = rw (le-ltb _ _ l) (g ∙ ap (λ (z : List ℕ). moved_block d z) e)

  -- where one is after the other, before and afterwards, neither is in the other's way
  module _ (bf : b.from + b.count ≤ length s) (bt : b.to + b.count ≤ length s) (df : d.from + d.count ≤ length s) (dt : d.to + d.count ≤ length s)
      (old-order : b.from + b.count ≤ d.from) (new-order : b.to + b.count ≤ d.to) where
    abbrev after-d : List ℕ
    after-d = moved_block d s

    abbrev after-b : List ℕ
    after-b = moved_block b s

    d-size : length after-d ≡ length s
    d-size = moved_length d.from d.to d.count s df dt

    b-size : length after-b ≡ length s
    b-size = moved_length b.from b.to b.count s bf bt

    in-up : b.from < b.to → both_moved b d s ≡ moved_block b after-d
    unfolding both_moved
    in-up l = rw (lt-ltb _ _ l) refl

    in-down : b.to ≤ b.from → both_moved b d s ≡ moved_block d after-b
    unfolding both_moved
    in-down l = rw (le-ltb _ _ l) refl

    pub both-length : length (both_moved b d s) ≡ length s
    both-length = by_cases (ltb b.from b.to)
        (λ t. ap length (in-up (ltb-true _ _ t)) ∙ moved_length b.from b.to b.count after-d (omega (arith, d-size)) (omega (arith, d-size)) ∙ d-size)
        (λ t. ap length (in-down (ltb-false _ _ t)) ∙ moved_length d.from d.to d.count after-b (omega (arith, b-size)) (omega (arith, b-size)) ∙ b-size)

    pub both_first : (j : ℕ) → b.to ≤ j → j < b.to + b.count → get_or (both_moved b d s) j 0 ≡ get_or s (b.from + (j - b.to)) 0
    both_first j l h = by_cases (ltb b.from b.to)
        (λ t. let u : b.from < b.to = ltb-true _ _ t in
        ap (λ (x : List ℕ). get_or x j 0) (in-up u)
        ∙ moved_in b.from b.to b.count after-d (omega (arith, d-size)) (omega (arith, d-size)) j l h
        ∙ moved-below d.from d.to d.count s df dt (b.from + (j - b.to)) (omega arith))
        (λ t. ap (λ (x : List ℕ). get_or x j 0) (in-down (ltb-false _ _ t))
        ∙ moved-below d.from d.to d.count after-b (omega (arith, b-size)) (omega (arith, b-size)) j (omega arith)
        ∙ moved_in b.from b.to b.count s bf bt j l h)

    pub both-second : (j : ℕ) → d.to ≤ j → j < d.to + d.count → get_or (both_moved b d s) j 0 ≡ get_or s (d.from + (j - d.to)) 0
    both-second j l h = by_cases (ltb b.from b.to)
        (λ t. ap (λ (x : List ℕ). get_or x j 0) (in-up (ltb-true _ _ t))
        ∙ moved-above b.from b.to b.count after-d (omega (arith, d-size)) (omega (arith, d-size)) j (omega arith)
        ∙ moved_in d.from d.to d.count s df dt j l h)
        (λ t. let u : b.to ≤ b.from = ltb-false _ _ t in
        ap (λ (x : List ℕ). get_or x j 0) (in-down u)
        ∙ moved_in d.from d.to d.count after-b (omega (arith, b-size)) (omega (arith, b-size)) j l h
        ∙ moved-above b.from b.to b.count s bf bt (d.from + (j - d.to)) (omega arith))

    pub both_below : (j : ℕ) → j < b.to → get_or (both_moved b d s) j 0 ≡ get_or s j 0
    both_below j h = by_cases (ltb b.from b.to)
        (λ t. ap (λ (x : List ℕ). get_or x j 0) (in-up (ltb-true _ _ t))
        ∙ moved-below b.from b.to b.count after-d (omega (arith, d-size)) (omega (arith, d-size)) j h
        ∙ moved-below d.from d.to d.count s df dt j (omega arith))
        (λ t. ap (λ (x : List ℕ). get_or x j 0) (in-down (ltb-false _ _ t))
        ∙ moved-below d.from d.to d.count after-b (omega (arith, b-size)) (omega (arith, b-size)) j (omega arith)
        ∙ moved-below b.from b.to b.count s bf bt j h)

    pub both-above : (j : ℕ) → d.to + d.count ≤ j → get_or (both_moved b d s) j 0 ≡ get_or s j 0
    both-above j h = by_cases (ltb b.from b.to)
        (λ t. ap (λ (x : List ℕ). get_or x j 0) (in-up (ltb-true _ _ t))
        ∙ moved-above b.from b.to b.count after-d (omega (arith, d-size)) (omega (arith, d-size)) j (omega arith)
        ∙ moved-above d.from d.to d.count s df dt j h)
        (λ t. ap (λ (x : List ℕ). get_or x j 0) (in-down (ltb-false _ _ t))
        ∙ moved-above d.from d.to d.count after-b (omega (arith, b-size)) (omega (arith, b-size)) j h
        ∙ moved-above b.from b.to b.count s bf bt j (omega arith))

-- ---- cells cleared

module _ (low high : ℕ) (s : List ℕ) (l : low ≤ high) (h : high ≤ length s) where
  front : length (take low s ++ replicate (high - low) 0) ≡ high
  front = length-append (take low s) (replicate (high - low) 0) ∙ omega (arith, length-take-le low s (omega arith), length-replicate {A = ℕ} (high - low) 0)

  pub cleared-length : length (cleared low high s) ≡ length s
  unfolding cleared
  cleared-length = length-append (take low s ++ replicate (high - low) 0) (drop high s) ∙ omega (arith, front, length-drop high s)

  pub cleared-in : (j : ℕ) → low ≤ j → j < high → get_or (cleared low high s) j 0 ≡ 0
  unfolding cleared
  cleared-in j u v =
      append_left (take low s ++ replicate (high - low) 0) (drop high s) j (omega (arith, front))
      ∙ append_right (take low s) (replicate (high - low) 0) j (omega (arith, length-take-le low s (omega arith)))
      ∙ get_or-replicate (high - low) (j - length (take low s)) 0 0 (omega (arith, length-take-le low s (omega arith)))

  pub cleared-below : (j : ℕ) → j < low → get_or (cleared low high s) j 0 ≡ get_or s j 0
  unfolding cleared
  cleared-below j u =
      append_left (take low s ++ replicate (high - low) 0) (drop high s) j (omega (arith, front))
      ∙ append_left (take low s) (replicate (high - low) 0) j (omega (arith, length-take-le low s (omega arith)))
      ∙ get_or-take low s j 0 u

  pub cleared-above : (j : ℕ) → high ≤ j → get_or (cleared low high s) j 0 ≡ get_or s j 0
  unfolding cleared
  cleared-above j u =
      append_right (take low s ++ replicate (high - low) 0) (drop high s) j (omega (arith, front))
      ∙ get_or-drop high s (j - length (take low s ++ replicate (high - low) 0)) 0
      ∙ at_place s (let e : high + (j - length (take low s ++ replicate (high - low) 0)) ≡ j = omega (arith, front) in e)
