-- What `tables_why` returns and leaves in each case.
use Prim.Native.Nat.{ℕ, zero, suc, ◌+◌, ◌-◌, ◌≤◌, ◌<◌}
use mathlib.Core.List.{List, [], ◌∷◌, ◌++◌, append-nil}
use mathlib.Core.Path.{◌≡◌, refl, sym, ap, ◌∙◌}
use native.Mathlib.Omega.{arith}
use native.Mathlib.Nat.{le_of_suc-le-suc}
use lib.ListN.{length, take, drop, set, length-take}
use lib.Seq.{take_all}
use borrow.Author.Tests.{le-leb, lt-leb}
use borrow.Rule.Slice.PartMut.{put_mid, mid_of}
use Rattle.plain.specs.Requests.{Reason, old_as, new_past, because, Reply, refused, short}
use Rattle.words.specs.Words.{word}
use Rattle.words.specs.Why.{why_room, reasoning, reason_cells, why_reply, why_out, GivesReason, GivesVariables}

-- ---- the word, and the cells that out is left with

module _ (reply : Reply) (out : List ℕ) (w : ℕ) where
  pub why-refused : (r : ℕ) → refused r ≡ reply → w ≡ word (refused r) → GivesReason reply out w out
  unfolding why_reply why_out reasoning
  why-refused r e f = rw (← e) (f, refl)

  module _ (y : Reason) (e : because y ≡ reply) where
    pub why-short : length out < why_room → w ≡ word (short why_room) → GivesReason reply out w out
    unfolding why_reply why_out reasoning
    why-short h f = rw (← e, lt-leb why_room (length out) h) (f, refl)

    pub why-given : (out' : List ℕ) → why_room ≤ length out → w ≡ word (because y) → out' ≡ reason_cells y ++ drop (length (reason_cells y)) out → GivesReason reply out w out'
    unfolding why_reply why_out reasoning
    why-given out' h f o = rw (← e, le-leb why_room (length out) h) (f, o)

pub new-cells : (k s : ℕ) (out : List ℕ) → why_room ≤ length out → set out 0 k ≡ reason_cells (new_past k s) ++ drop (length (reason_cells (new_past k s))) out
unfolding reason_cells
new-cells k s [] h = absurd (omega arith)
new-cells k s (x ∷ xs) h = refl

pub old-cells : (n m : ℕ) (vars out out' : List ℕ) → m ≤ length vars → GivesVariables vars m out out'
    → out' ≡ reason_cells (old_as n (take m vars)) ++ drop (length (reason_cells (old_as n (take m vars)))) out
unfolding reason_cells
old-cells n m vars out out' h e =
    let a = length-take m vars in
    let l : length (take m vars) ≡ m = omega arith in
    let j : m + 1 ≡ suc m = omega arith in
    e ∙ ap (λ (i : ℕ). (m ∷ take m vars) ++ drop i out) j ∙ ap (λ (i : ℕ). (i ∷ take m vars) ++ drop (suc i) out) (sym l)

-- ---- the variables, copied after the first cell

drop_all : (l : List ℕ) (n : ℕ) → length l ≤ n → drop n l ≡ []
drop_all [] zero h = refl
drop_all [] (suc n) h = refl
drop_all (x ∷ l) zero h = absurd (omega arith)
drop_all (x ∷ l) (suc n) h = drop_all l n (le_of_suc-le-suc h)

after_first : (x m n : ℕ) (front xs : List ℕ) → n ≡ length xs → set (put_mid 1 n (x ∷ xs) (front ++ drop m (mid_of 1 n (x ∷ xs)))) 0 m ≡ (m ∷ front) ++ drop m xs
after_first x m n front xs e =
    let a : take n xs ≡ xs = take_all n xs (omega arith) in
    let b : drop n xs ≡ [] = drop_all xs n (omega arith) in
    ap {B = List ℕ} (λ (l : List ℕ). m ∷ l) (ap (λ (l : List ℕ). (front ++ drop m (take n xs)) ++ l) b ∙ append-nil (front ++ drop m (take n xs)) ∙ ap (λ (l : List ℕ). front ++ drop m l) a)

pub gives-variables : (vars out q : List ℕ) (m : ℕ) → why_room ≤ length out
    → q ≡ take m vars ++ drop m (mid_of 1 (length out - 1) out) → GivesVariables vars m out (set (put_mid 1 (length out - 1) out q) 0 m)
gives-variables vars [] q m h e = absurd (omega arith)
gives-variables vars (x ∷ xs) q m h e =
    let n : length (x ∷ xs) - 1 ≡ length xs = omega arith in
    let j : m + 1 ≡ suc m = omega arith in
    ap (λ (l : List ℕ). set (put_mid 1 (length (x ∷ xs) - 1) (x ∷ xs) l) 0 m) e ∙ after_first x m (length (x ∷ xs) - 1) (take m vars) xs n
    ∙ ap (λ (i : ℕ). (m ∷ take m vars) ++ drop i (x ∷ xs)) (sym j)
