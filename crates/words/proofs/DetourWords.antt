-- A law for each case of the word of a search for detours.
use Prim.Native.Nat.{ℕ, zero, suc, ◌-◌, ◌≤◌, ◌<◌, min}
use mathlib.Core.Bool.{Bool}
use mathlib.Core.List.{List, [], ◌∷◌, ◌++◌, append-nil}
use mathlib.Core.Path.{◌≡◌, refl, sym, ap, ◌∙◌}
use native.Mathlib.Omega.{arith}
use lib.ListN.{length, take, drop, set, length-take, length-drop, drop_of_length-le}
use lib.Seq.{take_all}
use borrow.Rule.Slice.PartMut.{put_mid, Post-is}
use borrow.Author.Tests.{le-leb, lt-leb}
use Rattle.basis.specs.Choice.{pick}
use Rattle.plain.specs.Requests.{none_found, found, Detour, detoured, Reply, refused, short}
use Rattle.words.specs.Words.{word}
use Rattle.words.specs.Detours.{detour_cells, detouring, detours_reply, detours_out, NumbersStand, SaysDetours}

pub two-set : (out : List ℕ) (x y : ℕ) → 2 ≤ length out → set (set out 0 x) 1 y ≡ x ∷ y ∷ drop 2 out
two-set [] x y l = absurd (omega arith)
two-set (a ∷ []) x y l = absurd (omega arith)
two-set (a ∷ b ∷ out) x y l = refl

-- no more than there are
take-nothing : (j : ℕ) → ◌≡◌ {A = List ℕ} (take j []) []
take-nothing zero = refl
take-nothing (suc j) = refl

take-fewer : (k count : ℕ) (ns : List ℕ) → length ns ≤ k → take (min count k) ns ≡ take count ns
take-fewer k zero ns l = let e : min 0 k ≡ 0 = omega arith in ap (λ (j : ℕ). take j ns) e
take-fewer k (suc count) [] l = take-nothing (min (suc count) k)
take-fewer zero (suc count) (n ∷ ns) l = absurd (omega arith)
take-fewer (suc k) (suc count) (n ∷ ns) l =
    let e : min (suc count) (suc k) ≡ suc (min count k) = omega arith in
    ap (λ (j : ℕ). take j (n ∷ ns)) e ∙ ap (λ (ms : List ℕ). n ∷ ms) (take-fewer k count ns (omega arith))

drop-two : (k : ℕ) (out : List ℕ) → 2 ≤ length out → drop k (drop 2 out) ≡ drop (suc (suc k)) out
drop-two k [] l = absurd (omega arith)
drop-two k (a ∷ []) l = absurd (omega arith)
drop-two k (a ∷ b ∷ out) l = refl

module _ (numbers : List ℕ) (count n : ℕ) (out : List ℕ) (six : length numbers ≡ 6) (is : n ≡ min count 6) where
  same : take n numbers ≡ take count numbers
  same = ap (λ (j : ℕ). take j numbers) is ∙ take-fewer 6 count numbers (omega arith)

  so-many : length (take count numbers) ≡ n
  so-many = ap length (sym same) ∙ length-take n numbers ∙ omega arith

  -- copied to the part of out from its third cell on
  module _ (long : 8 ≤ length out) (part : List ℕ) (copied : part ≡ take n numbers ++ drop n (take (length out - 2) (drop 2 out))) where
    whole : take (length out - 2) (drop 2 out) ≡ drop 2 out
    whole = take_all (length out - 2) (drop 2 out) (omega (arith, length-drop 2 out))

    nothing-after : put_mid 2 (length out - 2) out part ≡ take 2 out ++ part
    nothing-after =
        ap (λ (x : List ℕ). take 2 out ++ (part ++ x)) (Post-is 2 (length out) out (omega arith) ∙ drop_of_length-le out {i = length out} (omega arith))
        ∙ ap (λ (x : List ℕ). take 2 out ++ x) (append-nil part)

    pub numbers-stand : NumbersStand numbers count out (put_mid 2 (length out - 2) out part)
    numbers-stand = nothing-after ∙ ap (λ (x : List ℕ). take 2 out ++ x) (copied ∙ rw (whole, same, so-many) refl)

module _ (reply : Reply) (out : List ℕ) (w : ℕ) where
  pub detours-refused : (r : ℕ) → refused r ≡ reply → w ≡ word (refused r) → SaysDetours reply w out out
  unfolding detours_reply detours_out detouring
  detours-refused r e f = rw (← e) (f, refl)

  module _ (d : Detour) (e : detoured d ≡ reply) where
    pub detours-short : length out < 8 → w ≡ word (short 8) → SaysDetours reply w out out
    unfolding detours_reply detours_out detouring
    detours-short l f = rw (← e, lt-leb 8 (length out) l) (f, refl)

    detours-given : (out' : List ℕ) → 8 ≤ length out → w ≡ word (detoured d) → out' ≡ detour_cells d ++ drop (length (detour_cells d)) out → SaysDetours reply w out out'
    unfolding detours_reply detours_out detouring
    detours-given out' l f o = rw (← e, le-leb 8 (length out) l) (f, o)

  pub detours-none : (tried : ℕ) (ended : Bool) → detoured (record { best = none_found; tried = tried; ended = ended }) ≡ reply → 8 ≤ length out
      → (out' : List ℕ) → out' ≡ tried ∷ pick ended 1 0 ∷ drop 2 out → w ≡ word (detoured (record { best = none_found; tried = tried; ended = ended })) → SaysDetours reply w out out'
  detours-none tried ended e l out' o f = detours-given (record { best = none_found; tried = tried; ended = ended }) e out' l f o

  pub detours-found : (total tried : ℕ) (ended : Bool) (numbers : List ℕ) (count : ℕ)
      → detoured (record { best = found total (take count numbers); tried = tried; ended = ended }) ≡ reply → 8 ≤ length out
      → (middle out' : List ℕ) → middle ≡ tried ∷ pick ended 1 0 ∷ drop 2 out → NumbersStand numbers count middle out'
      → w ≡ word (detoured (record { best = found total (take count numbers); tried = tried; ended = ended })) → SaysDetours reply w out out'
  detours-found total tried ended numbers count e l middle out' m o f =
      detours-given (record { best = found total (take count numbers); tried = tried; ended = ended }) e out' l f
      (o ∙ rw m (ap (λ (xs : List ℕ). tried ∷ pick ended 1 0 ∷ (take count numbers ++ xs)) (drop-two (length (take count numbers)) out (omega arith))))
