-- Laws of digits, their number, and bytes put one behind another.
use Prim.Native.Nat.{ℕ, suc, zero, ◌+◌, ◌*◌, ◌-◌, ◌^◌, ◌/◌, ◌%◌, ◌≤◌, ◌<◌}
use mathlib.Core.List.{List, [], ◌∷◌, ◌++◌, append-nil, append_assoc}
use mathlib.Core.Bool.{Bool, true, false, ◌&&◌}
use mathlib.Core.Path.{◌≡◌, refl, sym, ap, ◌∙◌}
use native.Mathlib.Omega.{arith}
use native.Mathlib.Nat.{pow-zero, pow-suc, div-lt_iff_lt-mul, mul-le-mul_left, lt_of_lt_of_le}
use native.Mathlib.Numerals.{add-one}
use lib.Dec.{eqb}
use lib.ListN.{length, take, drop, get_or, set, length-append, length-set, length-take, length-drop, drop_of_length-le}
use lib.Seq.{length-sets, take-suc, take_all}
use borrow.Author.Tests.{ne_eqb}
use Rattle.basis.proofs.SetsLaws.{drop-written}
use Rattle.basis.proofs.Cases.{by_cases}
use Rattle.basis.proofs.SetsLaws.{sets-append}
use Rattle.basis.proofs.Tests.{true-not-false}
use Rattle.text.specs.Digits.{digit_text, digits_before, digits, cell_text, cell_texts, Puts}

-- ---- bytes put one behind another

pub puts-append : (xs ys t u v : List ℕ) (i j k : ℕ) → Puts i xs t j u → Puts j ys u k v → Puts i (xs ++ ys) t k v
puts-append xs ys t u v i j k p q =
    (omega (arith, length-append xs ys, p.0, q.0), q.1 ∙ rw (p.1, p.0) (sym (sets-append xs ys t i)), omega (arith, q.2, ap length p.1 ∙ length-sets t i xs))

-- ---- digits

-- no digit is left to make
pub digits-end : (base steps width n : ℕ) (rest : List ℕ) → (eqb n 0 && eqb width 0) ≡ true → digits_before base steps width n rest ≡ rest
unfolding digits_before
digits-end base zero width n rest e = refl
digits-end base (suc steps) width n rest e = rw e

pub digits_more : (base steps width n : ℕ) (rest : List ℕ) → (eqb n 0 && eqb width 0) ≡ false
    → digits_before base (suc steps) width n rest ≡ digits_before base steps (width - 1) (n / base) (digit_text (n % base) ∷ rest)
unfolding digits_before
digits_more base steps width n rest e = rw e

-- at most one for each step
pub digits-length : (base steps width n : ℕ) (rest : List ℕ) → length (digits_before base steps width n rest) ≤ steps + length rest
unfolding digits_before
digits-length base zero width n rest = omega arith
digits-length base (suc steps) width n rest =
    by_cases (eqb n 0 && eqb width 0)
    (λ e. rw (digits-end base (suc steps) width n rest e) (omega arith))
    (λ e. rw (digits_more base steps width n rest e) (omega (arith, digits-length base steps (width - 1) (n / base) (digit_text (n % base) ∷ rest))))

pub decimal-length : (n : ℕ) → length (digits 10 1 n) ≤ 10
decimal-length n = digits-length 10 10 1 n []

-- a digit less
pub quotient-below : (base bound n k : ℕ) → 0 < bound → bound ≤ base → n < bound ^ suc k → n / base < bound ^ k
quotient-below base bound n k z h l =
    let p : bound ^ k * bound ≤ bound ^ k * base = mul-le-mul_left (bound ^ k) h in
    let q : n < bound ^ k * bound = rw pow-suc at l in
    (div-lt_iff_lt-mul {k = base} {x = n} {y = bound ^ k} (omega arith)).1 (lt_of_lt_of_le q p)

-- so many as the width, of a number that needs no more
pub digits-width : (base steps width n : ℕ) (rest : List ℕ) → 0 < base → width ≤ steps → n < base ^ width → length (digits_before base steps width n rest) ≡ width + length rest
digits-width base steps zero n rest z h l =
    let e : n ≡ 0 = omega (arith, pow-zero base) in
    rw (digits-end base steps 0 n rest (rw e)) (omega arith)
digits-width base zero (suc width) n rest z h l = absurd (omega arith)
digits-width base (suc steps) (suc width) n rest z h l =
    let f : (eqb n 0 && eqb (suc width) 0) ≡ false = by_cases (eqb n 0) (λ e. rw e (ne_eqb (suc width) 0 (λ x. omega arith))) (λ e. rw e) in
    let m : suc width - 1 ≡ width = omega arith in
    rw (digits_more base steps (suc width) n rest f, m, digits-width base steps width (n / base) (digit_text (n % base) ∷ rest) z (omega arith) (quotient-below base base n width z (omega arith) l)) (omega arith)

pub cell-length : (c : ℕ) → c < 2 ^ 32 → length (cell_text c) ≡ 8
cell-length c h = digits-width 16 10 8 c [] (omega arith) (omega arith) (omega arith)

-- ---- digits made from a buffer's end

-- what all_made tests, at place i of the buffer
abbrev pub all_made : ℕ → ℕ → ℕ → Bool
all_made left i width = eqb left 0 && eqb (width - (10 - i)) 0

-- where a digit is to be made there is a place for it
pub place-left : (left width i : ℕ) → left < 10 ^ i → width ≤ 10 → all_made left i width ≡ false → 0 < i
place-left left width zero l h f =
    let e : left ≡ 0 = omega arith in
    let g : width - (10 - zero) ≡ 0 = omega arith in
    absurd (true-not-false (rw (e, g)) (sym f))
place-left left width (suc i) l h f = omega arith

pub fill_start : (base width n : ℕ) (buffer : List ℕ) → length buffer ≡ 10 → digits base width n ≡ digits_before base 10 (width - (10 - 10)) n (drop 10 buffer)
fill_start base width n buffer l =
    let z : width - (10 - 10) ≡ width = omega arith in
    let h : length buffer ≤ 10 = omega arith in
    rw (z, drop_of_length-le buffer h)

pub fill-next : (base width n left i j v : ℕ) (buffer : List ℕ) → i ≡ suc j → i ≤ 10 → length buffer ≡ 10
    → all_made left i width ≡ false → v ≡ digit_text (left % base)
    → digits base width n ≡ digits_before base i (width - (10 - i)) left (drop i buffer)
    → digits base width n ≡ digits_before base j (width - (10 - j)) (left / base) (drop j (set buffer j v))
fill-next base width n left i j v buffer e h l f d q =
    let k : width - (10 - suc j) - 1 ≡ width - (10 - j) = omega arith in
    let f' : all_made left (suc j) width ≡ false = rw e at f in
    let q' : digits base width n ≡ digits_before base (suc j) (width - (10 - suc j)) left (drop (suc j) buffer) = rw e at q in
    q' ∙ digits_more base j (width - (10 - suc j)) left (drop (suc j) buffer) f' ∙ rw (k, drop-written buffer j v (omega arith), d)

-- a part of ten places
pub part_length : (b : List ℕ) (first : ℕ) → length (take (10 - first) (drop first b)) ≤ 10
part_length b first = omega (arith, length-take (10 - first) (drop first b))

-- a space, and the digits that were made
pub field_put : (t u b ds : List ℕ) (at first k : ℕ) → length b ≡ 10 → drop first b ≡ ds
    → Puts (at + 1) (take (10 - first) (drop first b)) (set t at 32) k u → Puts at (32 ∷ ds) t k u
field_put t u b ds at first k l e p =
    let h : length (drop first b) ≤ 10 - first = omega (arith, length-drop first b) in
    let d : take (10 - first) (drop first b) ≡ ds = take_all (10 - first) (drop first b) h ∙ e in
    let n : k ≡ at + 1 + length ds = rw d at p.0 in
    (omega arith, rw (add-one, d) at p.1, omega (arith, p.2, length-set t at 32))

-- ---- cells

pub cell_texts-append : (cs : List ℕ) (c : ℕ) → cell_texts (cs ++ (c ∷ [])) ≡ cell_texts cs ++ (32 ∷ cell_text c)
unfolding cell_texts
cell_texts-append [] c = rw append-nil
cell_texts-append (x ∷ cs) c = rw (cell_texts-append cs c, append_assoc)

pub cells-none : (t : List ℕ) (at : ℕ) → at < length t → Puts at (cell_texts []) t at t
unfolding cell_texts
cells-none t at h = (omega arith, refl, h)

pub cells-next : (cs t u v : List ℕ) (at i j k : ℕ) → i < length cs → Puts at (cell_texts (take i cs)) t j u → Puts j (32 ∷ cell_text (get_or cs i 0)) u k v
    → Puts at (cell_texts (take (i + 1) cs)) t k v
cells-next cs t u v at i j k h p q =
    rw (add-one, take-suc cs i 0 h, cell_texts-append (take i cs) (get_or cs i 0))
    (puts-append (cell_texts (take i cs)) (32 ∷ cell_text (get_or cs i 0)) t u v at j k p q)
