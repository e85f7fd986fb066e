-- Laws of what the reader of pair form stores: variables numbered, cells written.
use Prim.Native.Nat.{ℕ, suc, ◌+◌, ◌-◌, ◌≤◌, ◌<◌, max}
use mathlib.Core.List.{List, [], ◌∷◌, ◌++◌, append_assoc}
use mathlib.Core.Bool.{Bool, true, false}
use mathlib.Core.Path.{◌≡◌, refl, sym, ap, ◌∙◌}
use native.Mathlib.Omega.{arith}
use native.Mathlib.Numerals.{add-one}
use lib.ListN.{length, take, drop, get_or, set, length-append, length-set, length-drop, drop_of_length-le}
use lib.Seq.{sets, sets-eq, drop-set-lt, take-set-le, length-sets, drop-cons, take-append_seam, drop_at, length-take-le, take-suc-set, take-set-lt, paste, set-append_left}
use lib.Dec.{eqb, ltb}
use borrow.Author.Tests.{eq-eqb, ne_eqb, le-leb, lt-leb, ltb-true, ltb-false}
use Rattle.basis.specs.Choice.{pick}
use Rattle.basis.proofs.SetsLaws.{sets-append}
use Rattle.forms.specs.Cells.{tag, variable, ELIST}
use Rattle.forms.specs.Numbering.{rank, seen, met, renamed}
use Rattle.forms.proofs.NumberingLaws.{rank-le, met-append}
use Rattle.pair_reader.specs.Storing.{numbered_from, Stored}

-- what is moved one place up, and x before it
pub insert-moved : (out : List ℕ) (to end x : ℕ) → to ≤ end → end < length out
    → set (paste out (to + 1) (drop to out) (end - to)) to x ≡ sets out to (x ∷ take (end - to) (drop to out))
insert-moved out to end x h k =
    let a : length (take (end - to) (drop to out)) ≡ end - to = length-take-le (end - to) (drop to out) (omega (arith, length-drop to out)) in
    let b : suc to + length (take (end - to) (drop to out)) ≤ length (set out to x) = omega (arith, a, length-set out to x) in
    let d : length (take (suc to) out) ≡ suc to = length-take-le (suc to) out (omega arith) in
    let e : to < length (take (suc to) out) = omega arith in
    let f : to < suc to = omega arith in
    let g : to < suc to + (end - to) = omega arith in
    rw (
      add-one,
      append_assoc (take (suc to) out) (take (end - to) (drop to out)) (drop (suc to + (end - to)) out),
      set-append_left (take (suc to) out) (take (end - to) (drop to out) ++ drop (suc to + (end - to)) out) to x e,
      sets-eq (take (end - to) (drop to out)) (set out to x) (suc to) b,
      a,
      take-set-lt (suc to) out to x f,
      drop-set-lt (suc to + (end - to)) out to x g,
      append_assoc (set (take (suc to) out) to x) (take (end - to) (drop to out)) (drop (suc to + (end - to)) out),
    )

-- how many variables there are is more than the rank of any
pub rank-most : (vars : List ℕ) (count c r : ℕ) → count ≤ length vars → r ≡ rank (take count vars) c → r ≤ count
rank-most vars count c r h e = omega (arith, e, rank-le (take count vars) c, length-take-le count vars h)

-- a part that was just written stands there, and is written over
pub sets-part : (e l : List ℕ) (to : ℕ) → to + length e ≤ length l → take (length e) (drop to (sets l to e)) ≡ e
sets-part e l to h =
    let a : length (take to l) ≡ to = length-take-le to l (omega arith) in
    rw (sets-eq e l to h, append_assoc (take to l) e (drop (to + length e) l), drop_at (take to l) (e ++ drop (to + length e) l) to a)
    (take-append_seam e (drop (to + length e) l))

take-sets : (e l : List ℕ) (i j : ℕ) → i ≤ j → take i (sets l j e) ≡ take i l
take-sets [] l i j h = refl
take-sets (a ∷ e) l i j h = take-sets e (set l j a) i (suc j) (omega arith) ∙ take-set-le i l j a h

drop-sets : (e l : List ℕ) (n j : ℕ) → j + length e ≤ n → drop n (sets l j e) ≡ drop n l
drop-sets [] l n j h = refl
drop-sets (a ∷ e) l n j h = drop-sets e (set l j a) n (suc j) (omega arith) ∙ drop-set-lt n l j a (omega arith)

pub sets_over : (e f l : List ℕ) (to : ℕ) → length e ≤ length f → to + length f ≤ length l → sets (sets l to e) to f ≡ sets l to f
sets_over e f l to h k =
    let k₁ : to + length f ≤ length (sets l to e) = rw (length-sets l to e) k in
    let k₂ : to ≤ to = omega arith in
    let k₃ : to + length e ≤ to + length f = omega arith in
    rw (sets-eq f (sets l to e) to k₁, sets-eq f l to k, take-sets e l to to k₂, drop-sets e l (to + length f) to k₃)

-- a part that was just written moves up behind x
pub sets-insert : (e l out : List ℕ) (to end x : ℕ) → l ≡ sets out to e → end ≡ to + length e → end < length out
    → sets l to (x ∷ take (end - to) (drop to l)) ≡ sets out to (x ∷ e)
sets-insert e l out to end x p q h =
    let a : end - to ≡ length e = omega arith in
    let b : to + length e ≤ length out = omega arith in
    let d : to + suc (length e) ≤ length out = omega arith in
    let g : length e ≤ suc (length e) = omega arith in
    rw (a, p, sets-part e out to b) (sets_over e (x ∷ e) out to g d)

-- ---- the search for a variable's rank

module _ (vs : List ℕ) (x i : ℕ) (r : rank vs x ≡ i + rank (drop i vs) x) where
  -- not here: the rank is further on
  pub rank-next : i < length vs → (get_or vs i 0 ≡ x → ⊥) → rank vs x ≡ i + 1 + rank (drop (i + 1) vs) x
  unfolding rank
  rank-next h e =
      let q : rank (drop i vs) x ≡ suc (rank (drop (i + 1) vs) x) = rw (drop-cons vs i 0 h, ne_eqb (get_or vs i 0) x e, add-one) in
      omega (arith, r, q)

  -- here
  pub rank-found : i < length vs → get_or vs i 0 ≡ x → rank vs x ≡ i
  unfolding rank
  rank-found h e =
      let q : rank (drop i vs) x ≡ 0 = rw (drop-cons vs i 0 h, eq-eqb (get_or vs i 0) x e) in
      omega (arith, r, q)

  -- nowhere
  pub rank-absent : length vs ≤ i → rank vs x ≡ i
  unfolding rank
  rank-absent h =
      let q : rank (drop i vs) x ≡ 0 = rw (drop_of_length-le vs h) in
      omega (arith, r, q)

-- ---- numbering on the way

pub numbered-append : (xs ys vs : List ℕ) → numbered_from vs (xs ++ ys) ≡ numbered_from vs xs ++ numbered_from (met vs xs) ys
unfolding numbered_from met
numbered-append [] ys vs = refl
numbered-append (x ∷ xs) ys vs = ap (λ (l : List ℕ). renamed (seen vs x) x ∷ l) (numbered-append xs ys (seen vs x))

pub numbered-length : (xs vs : List ℕ) → length (numbered_from vs xs) ≡ length xs
unfolding numbered_from
numbered-length [] vs = refl
numbered-length (x ∷ xs) vs = ap suc (numbered-length xs (seen vs x))

-- a variable that is not among vs ranks behind them once it is met
rank-behind : (vs : List ℕ) (c : ℕ) → rank vs c ≡ length vs → rank (vs ++ (c ∷ [])) c ≡ length vs
unfolding rank
rank-behind [] c e = rw (eq-eqb c c refl)
rank-behind (y ∷ ys) c e = go (eqb y c) e (λ q. rank-behind ys c q)
  where
    go : (b : Bool) → pick b 0 (suc (rank ys c)) ≡ suc (length ys) → (rank ys c ≡ length ys → rank (ys ++ (c ∷ [])) c ≡ length ys)
        → pick b 0 (suc (rank (ys ++ (c ∷ [])) c)) ≡ suc (length ys)
    go true q f = absurd (omega arith)
    go false q f = ap suc (f (omega arith))

-- ---- what the readers store

module _ (vars : List ℕ) (count : ℕ) (out : List ℕ) (to : ℕ) where
  pub stored-none : count ≤ length vars → Stored [] vars count out to vars count out to
  unfolding numbered_from met
  stored-none h = record { end-at = omega arith; cells = refl; known = refl; count_at = sym (length-take-le count vars h); kept = refl }

  -- a cell that is no variable
  pub stored-cell : (c : ℕ) → variable c ≡ false → count ≤ length vars → Stored (c ∷ []) vars count out to vars count (set out to c) (to + 1)
  unfolding numbered_from met seen renamed
  stored-cell c q h =
      record { end-at = omega arith; cells = rw q; known = rw q; count_at = rw q (sym (length-take-le count vars h)); kept = refl }

  module _ (c r : ℕ) (q : variable c ≡ true) (h : count < length vars) (e : r ≡ rank (take count vars) c) where
    old-length : length (take count vars) ≡ count
    old-length = length-take-le count vars (omega arith)

    -- it is known already
    variable-old : r < count → (seen (take count vars) c ≡ take count vars) × (max count (r + 1) ≡ count)
    unfolding seen
    variable-old g =
        let m : rank (take count vars) c < length (take count vars) = omega (arith, old-length) in
        (rw (q, lt-leb (length (take count vars)) (rank (take count vars) c) m), omega arith)

    -- it is met for the first time
    variable-new : count ≤ r → (seen (take count vars) c ≡ take count vars ++ (c ∷ [])) × (max count (r + 1) ≡ count + 1) × (rank (take count vars) c ≡ length (take count vars))
    unfolding seen
    variable-new g =
        let m : length (take count vars) ≤ rank (take count vars) c = omega (arith, old-length) in
        (rw (q, le-leb (length (take count vars)) (rank (take count vars) c) m), omega (arith, rank-le (take count vars) c, old-length), omega (arith, rank-le (take count vars) c, old-length))

    -- the rank that was found is the one among the variables that are known then
    variable-rank : renamed (seen (take count vars) c) c ≡ 268435456 + r
    unfolding renamed
    variable-rank = rw q (ap (λ (n : ℕ). tag 1 n) (go (ltb r count) refl) ∙ omega arith)
      where
        go : (b : Bool) → ltb r count ≡ b → rank (seen (take count vars) c) c ≡ r
        go true p = let w = variable-old (ltb-true r count p) in rw w.0 (sym e)
        go false p = let w = variable-new (ltb-false r count p) in rw w.0 (rank-behind (take count vars) c w.2 ∙ sym w.2 ∙ sym e)

    variable-known : (take (max count (r + 1)) (set vars count c) ≡ seen (take count vars) c) × (max count (r + 1) ≡ length (seen (take count vars) c))
    variable-known = go (ltb r count) refl
      where
        go : (b : Bool) → ltb r count ≡ b
            → (take (max count (r + 1)) (set vars count c) ≡ seen (take count vars) c) × (max count (r + 1) ≡ length (seen (take count vars) c))
        go true p =
            let w = variable-old (ltb-true r count p) in
            rw (w.0, w.1) (take-set-le count vars count c (omega arith), sym old-length)
        go false p =
            let w = variable-new (ltb-false r count p) in
            rw (w.0, w.1) (rw add-one (take-suc-set vars count c h), simp length-append (omega (arith, old-length)))

    -- a variable
    pub stored-variable : (vars₁ : List ℕ) (count₁ : ℕ) → vars₁ ≡ set vars count c → count₁ ≡ max count (r + 1)
        → Stored (c ∷ []) vars count out to vars₁ count₁ (set out to (268435456 + r)) (to + 1)
    unfolding numbered_from met
    stored-variable vars₁ count₁ p n =
        record { end-at = omega arith; cells = rw variable-rank; known = rw (n, p) variable-known.0; count_at = n ∙ variable-known.1; kept = rw p (simp length-set) }

-- one run behind another
pub stored-append : (f g vars : List ℕ) (count : ℕ) (out : List ℕ) (to : ℕ) (vars₁ : List ℕ) (count₁ : ℕ) (out₁ : List ℕ) (to₁ : ℕ) (vars₂ : List ℕ) (count₂ : ℕ) (out₂ : List ℕ) (to₂ : ℕ)
    → Stored f vars count out to vars₁ count₁ out₁ to₁ → Stored g vars₁ count₁ out₁ to₁ vars₂ count₂ out₂ to₂ → Stored (f ++ g) vars count out to vars₂ count₂ out₂ to₂
stored-append f g vars count out to vars₁ count₁ out₁ to₁ vars₂ count₂ out₂ to₂ a b =
    let k : take count₁ vars₁ ≡ met (take count vars) f = a.known in
    let l : to₁ ≡ to + length (numbered_from (take count vars) f) = omega (arith, a.end-at, numbered-length f (take count vars)) in
    record {
      end-at = simp length-append (omega (arith, a.end-at, b.end-at));
      cells = b.cells ∙ rw (k, a.cells, l, numbered-append f g (take count vars), sets-append (numbered_from (take count vars) f) (numbered_from (met (take count vars) f) g) out to);
      known = b.known ∙ rw (k, met-append f g (take count vars));
      count_at = b.count_at ∙ rw (k, met-append f g (take count vars));
      kept = b.kept ∙ a.kept;
    }

-- ELIST is put before what was just stored
pub stored_last : (e vars : List ℕ) (count : ℕ) (out : List ℕ) (to : ℕ) (vars₁ : List ℕ) (count₁ : ℕ) (out₁ : List ℕ) (end : ℕ) (out₂ : List ℕ)
    → Stored e vars count out to vars₁ count₁ out₁ end → end < length out → out₂ ≡ sets out₁ to (ELIST ∷ take (end - to) (drop to out₁))
    → Stored (ELIST ∷ e) vars count out to vars₁ count₁ out₂ (end + 1)
unfolding numbered_from met seen renamed
stored_last e vars count out to vars₁ count₁ out₁ end out₂ a h w =
    let l : end ≡ to + length (numbered_from (take count vars) e) = omega (arith, a.end-at, numbered-length e (take count vars)) in
    record {
      end-at = omega (arith, a.end-at);
      cells = w ∙ sets-insert (numbered_from (take count vars) e) out₁ out to end ELIST a.cells l h;
      known = a.known;
      count_at = a.count_at;
      kept = a.kept;
    }
