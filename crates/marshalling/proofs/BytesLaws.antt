-- Laws of cells as bytes: lengths, what stands at a place, and reading and writing one after another.
use Prim.Native.Nat.{ℕ, zero, suc, ◌+◌, ◌*◌, ◌^◌, ◌/◌, ◌%◌, ◌≤◌, ◌<◌}
use mathlib.Core.List.{List, [], ◌∷◌, ◌++◌}
use mathlib.Core.Path.{◌≡◌, refl, sym, ap, ◌∙◌}
use native.Mathlib.Omega.{arith}
use lib.ListN.{length, take, drop, get_or, set}
use lib.Seq.{take-length, take_all, sets}
use Rattle.convert.proofs.CopyLaws.{copy_step}
use Rattle.marshalling.specs.Bytes.{cell_of, cells_of, bytes_of}

-- a cell further is four bytes further
four-suc-add : (i k : ℕ) → 4 * suc i + k ≡ suc (suc (suc (suc (4 * i + k))))
four-suc-add i k = omega arith

four-suc : (i : ℕ) → 4 * suc i ≡ suc (suc (suc (suc (4 * i))))
four-suc i = omega arith

-- ---- reading

pub cells-length : (b : List ℕ) → length (cells_of b) ≡ length b / 4
unfolding cells_of
cells-length [] = refl
cells-length (b0 ∷ []) = refl
cells-length (b0 ∷ b1 ∷ []) = refl
cells-length (b0 ∷ b1 ∷ b2 ∷ []) = refl
cells-length (b0 ∷ b1 ∷ b2 ∷ b3 ∷ b) = omega (arith, cells-length b)

-- a cell is that of its four bytes
pub cells_at : (b : List ℕ) (i : ℕ) → i < length b / 4
    → get_or (cells_of b) i 0 ≡ cell_of (get_or b (4 * i) 0) (get_or b (4 * i + 1) 0) (get_or b (4 * i + 2) 0) (get_or b (4 * i + 3) 0)
unfolding cells_of
cells_at [] i h = absurd (omega arith)
cells_at (b0 ∷ []) i h = absurd (omega arith)
cells_at (b0 ∷ b1 ∷ []) i h = absurd (omega arith)
cells_at (b0 ∷ b1 ∷ b2 ∷ []) i h = absurd (omega arith)
cells_at (b0 ∷ b1 ∷ b2 ∷ b3 ∷ b) zero h = refl
cells_at (b0 ∷ b1 ∷ b2 ∷ b3 ∷ b) (suc i) h = rw (four-suc-add i 1, four-suc-add i 2, four-suc-add i 3, four-suc i) (cells_at b i (omega arith))

-- ---- writing

pub bytes-length : (c : List ℕ) → length (bytes_of c) ≡ 4 * length c
unfolding bytes_of
bytes-length [] = refl
bytes-length (x ∷ c) = omega (arith, bytes-length c)

-- the four bytes of a cell
pub bytes-at : (c : List ℕ) (i : ℕ) → i < length c
    → (get_or (bytes_of c) (4 * i) 0 ≡ get_or c i 0 % 2 ^ 8)
    × (get_or (bytes_of c) (4 * i + 1) 0 ≡ get_or c i 0 / 2 ^ 8 % 2 ^ 8)
    × (get_or (bytes_of c) (4 * i + 2) 0 ≡ get_or c i 0 / 2 ^ 16 % 2 ^ 8)
    × (get_or (bytes_of c) (4 * i + 3) 0 ≡ get_or c i 0 / 2 ^ 24)
unfolding bytes_of
bytes-at [] i h = absurd (omega arith)
bytes-at (x ∷ c) zero h = (refl, refl, refl, refl)
bytes-at (x ∷ c) (suc i) h = rw (four-suc-add i 1, four-suc-add i 2, four-suc-add i 3, four-suc i) (bytes-at c i (omega arith))

pub bytes_take : (n : ℕ) (c : List ℕ) → take (4 * n) (bytes_of c) ≡ bytes_of (take n c)
unfolding bytes_of
bytes_take zero c = refl
bytes_take (suc n) [] = rw (four-suc n)
bytes_take (suc n) (x ∷ c) = rw (four-suc n, bytes_take n c)

-- ---- one after another

-- what stands in s before place i was put into a, and now what stands at i is
pub put_next : (s a x : List ℕ) (i v j : ℕ) → i < length s → i < length a → x ≡ take i s ++ drop i a → get_or s i 0 ≡ v → j ≡ i + 1
    → set x i v ≡ take j s ++ drop j a
put_next s a x i v j h k q e f = rw (f, ← e) (copy_step s a x i h k q)

pub cells-next : (b a x : List ℕ) (i v : ℕ) → i < length b / 4 → i < length a → x ≡ take i (cells_of b) ++ drop i a
    → v ≡ cell_of (get_or b (4 * i) 0) (get_or b (4 * i + 1) 0) (get_or b (4 * i + 2) 0) (get_or b (4 * i + 3) 0)
    → set x i v ≡ take (i + 1) (cells_of b) ++ drop (i + 1) a
cells-next b a x i v h k q e = put_next (cells_of b) a x i v (i + 1) (omega (arith, cells-length b)) k q (cells_at b i h ∙ sym e) refl

pub cells-all : (b a x : List ℕ) (i n : ℕ) → x ≡ take i (cells_of b) ++ drop i a → i ≡ n → n ≡ length b / 4 → x ≡ cells_of b ++ drop n a
cells-all b a x i n q e f =
    let l : length (cells_of b) ≡ i = omega (arith, cells-length b) in
    q ∙ rw (← l, take-length) (ap (λ k. cells_of b ++ drop k a) (l ∙ e))

-- the four bytes of a cell put behind those before it
pub bytes_next : (c a x : List ℕ) (i b : ℕ) → i < length c → get_or c i 0 < 2 ^ 32 → 4 * i + 3 < length a → x ≡ take (4 * i) (bytes_of c) ++ drop (4 * i) a
    → b ≡ get_or c i 0 / 16777216 % 256
    → sets x (4 * i) (get_or c i 0 % 256 ∷ get_or c i 0 / 256 % 256 ∷ get_or c i 0 / 65536 % 256 ∷ b ∷ [])
    ≡ take (4 * (i + 1)) (bytes_of c) ++ drop (4 * (i + 1)) a
bytes_next c a x i b h s k q e =
    let l = bytes-length c in
    let t = bytes-at c i h in
    let at : (j k v : ℕ) → k ≡ j → get_or (bytes_of c) j 0 ≡ v → get_or (bytes_of c) k 0 ≡ v = λ j k v f g. ap (λ m. get_or (bytes_of c) m 0) f ∙ g in
    let q1 = put_next (bytes_of c) a x (4 * i) (get_or c i 0 % 256) (suc (4 * i)) (omega arith) (omega arith) q t.0 (omega arith) in
    let q2 = put_next (bytes_of c) a _ (suc (4 * i)) (get_or c i 0 / 256 % 256) (suc (suc (4 * i))) (omega arith) (omega arith) q1 (at (4 * i + 1) _ _ (omega arith) t.1) (omega arith) in
    let q3 = put_next (bytes_of c) a _ (suc (suc (4 * i))) (get_or c i 0 / 65536 % 256) (suc (suc (suc (4 * i)))) (omega arith) (omega arith) q2 (at (4 * i + 2) _ _ (omega arith) t.2) (omega arith) in
    put_next (bytes_of c) a _ (suc (suc (suc (4 * i)))) b (4 * (i + 1)) (omega arith) (omega arith) q3 (at (4 * i + 3) _ _ (omega arith) (omega (arith, t.3, e, s))) (omega arith)

pub bytes-all : (c a x : List ℕ) (i n : ℕ) → x ≡ take (4 * i) (bytes_of c) ++ drop (4 * i) a → i ≡ n → length c ≤ n → x ≡ bytes_of c ++ drop (4 * n) a
bytes-all c a x i n q e h = q ∙ rw (e, take_all (4 * n) (bytes_of c) (omega (arith, bytes-length c)))
