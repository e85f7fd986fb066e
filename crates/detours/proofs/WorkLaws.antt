-- The cells that a search works in: what is chosen, and what stands for the least total.
use Prim.Native.Nat.{ℕ, zero, suc, ◌+◌, ◌-◌, ◌≤◌, ◌<◌}
use mathlib.Core.Path.{◌≡◌, refl, sym, ap, ◌∙◌, subst}
use mathlib.Core.Bool.{Bool, true, false, ◌||◌}
use mathlib.Core.List.{List, [], ◌∷◌, ◌++◌, map}
use native.Mathlib.Omega.{arith}
use lib.Dec.{eqb}
use lib.ListN.{length, get_or, set, length-set, take, drop}
use lib.Seq.{get_or-set_same, get_or-set_other, take-suc, paste, paste-zero, paste-suc}
use Rattle.std.specs.List.{list_any}
use Rattle.std.proofs.lemmas.List.{get_or-drop, length-drop}
use borrow.Author.Tests.{eq-eqb, ne_eqb, eqb-true, eqb-false, lt-ltb, le-ltb}
use Rattle.basis.proofs.Cases.{by_cases}
use Rattle.plain.specs.Requests.{none_found, found}
use Rattle.plain.specs.Detours.{Option, diverts, total_of, numbers_in, better}
use Rattle.detours.specs.Searching.{work_cells, best_from, numbers_from, diverters_from, diverters_in, no_total, cells_at, numbers_chosen, best_in, Chosen, Stays, among, Copied, Keeps}

-- ---- cells in a row

-- equal cells, at another place or in other cells
pub cells_same : (work work' : List ℕ) (from from' n : ℕ) → ((i : ℕ) → i < n → get_or work' (from' + i) 0 ≡ get_or work (from + i) 0) → cells_at work' from' n ≡ cells_at work from n
unfolding cells_at
cells_same work work' from from' zero e = refl
cells_same work work' from from' (suc n) e =
    rw (cells_same work work' from from' n (λ i l. e i (omega arith)), e n (omega arith)) refl

pub cells-more : (work : List ℕ) (from n : ℕ) → cells_at work from (suc n) ≡ cells_at work from n ++ (get_or work (from + n) 0 ∷ [])
unfolding cells_at
cells-more work from n = refl

-- ---- among

pub among-more : (d : ℕ) (xs : List ℕ) (x : ℕ) → among d (xs ++ (x ∷ [])) ≡ (among d xs || eqb x d)
unfolding among
among-more d [] x = by_cases (eqb x d) (λ e. rw e refl) (λ e. rw e refl)
among-more d (y ∷ ys) x = by_cases (eqb y d) (λ e. rw e refl) (λ e. rw e (among-more d ys x))

pub among_none : (d : ℕ) (work : List ℕ) (from : ℕ) → among d (cells_at work from 0) ≡ false
unfolding among cells_at
among_none d work from = refl

or-true : (a : Bool) → (a || true) ≡ true
or-true true = refl
or-true false = refl

or-false : (a : Bool) → (a || false) ≡ a
or-false true = refl
or-false false = refl

-- the last cell is the one looked for, or is not
pub among-here : (d : ℕ) (work : List ℕ) (from n : ℕ) → get_or work (from + n) 0 ≡ d → among d (cells_at work from (suc n)) ≡ true
among-here d work from n e =
    ap (among d) (cells-more work from n) ∙ among-more d (cells_at work from n) (get_or work (from + n) 0)
    ∙ ap (λ (b : Bool). among d (cells_at work from n) || b) (eq-eqb (get_or work (from + n) 0) d e) ∙ or-true (among d (cells_at work from n))

pub among-before : (d : ℕ) (work : List ℕ) (from n : ℕ) → (get_or work (from + n) 0 ≡ d → ⊥) → among d (cells_at work from (suc n)) ≡ among d (cells_at work from n)
among-before d work from n e =
    ap (among d) (cells-more work from n) ∙ among-more d (cells_at work from n) (get_or work (from + n) 0)
    ∙ ap (λ (b : Bool). among d (cells_at work from n) || b) (ne_eqb (get_or work (from + n) 0) d e) ∙ or-false (among d (cells_at work from n))

-- looked for from the last cell down
module _ (d : ℕ) (work : List ℕ) (n i : ℕ) (some : 0 < i) (e : among d (diverters_in work n) ≡ among d (diverters_in work i)) where
  lower : suc (i - 1) ≡ i
  lower = omega arith

  pub among-found : get_or work (diverters_from + (i - 1)) 0 ≡ d → true ≡ among d (diverters_in work n)
  among-found f = sym (e ∙ ap (λ (k : ℕ). among d (diverters_in work k)) (sym lower) ∙ among-here d work diverters_from (i - 1) f)

  pub among-lower : (get_or work (diverters_from + (i - 1)) 0 ≡ d → ⊥) → among d (diverters_in work n) ≡ among d (diverters_in work (i - 1))
  among-lower f = e ∙ ap (λ (k : ℕ). among d (diverters_in work k)) (sym lower) ∙ among-before d work diverters_from (i - 1) f

pub among-ended : (d : ℕ) (work : List ℕ) (n i : ℕ) → i ≡ 0 → among d (diverters_in work n) ≡ among d (diverters_in work i) → false ≡ among d (diverters_in work n)
among-ended d work n i z e = sym (e ∙ ap (λ (k : ℕ). among d (diverters_in work k)) z ∙ among_none d work diverters_from)

-- the first n cells from a place on, as a part
cells-part : (work : List ℕ) (from n : ℕ) → from + n ≤ length work → cells_at work from n ≡ take n (drop from work)
unfolding cells_at
cells-part work from zero l = refl
cells-part work from (suc n) l =
    let e : n < length (drop from work) = simp length-drop (omega arith) in
    rw (cells-part work from n (omega arith), ← get_or-drop from work n 0) (sym (take-suc (drop from work) n 0 e))

any-among : (d : ℕ) (xs : List ℕ) → list_any (λ y. eqb y d) xs ≡ among d xs
unfolding among
any-among d [] = refl
any-among d (x ∷ xs) = ap (λ (b : Bool). eqb x d || b) (any-among d xs)

pub among-part : (d : ℕ) (work : List ℕ) (from n : ℕ) → from + n ≤ length work
    → list_any (λ y. eqb y d) (take n (drop from work)) ≡ among d (cells_at work from n)
among-part d work from n l = any-among d (take n (drop from work)) ∙ ap (among d) (sym (cells-part work from n l))

pub diverts-among : (d : ℕ) (os : List Option) → diverts d os ≡ among d (map (λ o. o.diverter) os)
unfolding diverts among
diverts-among d [] = refl
diverts-among d (o ∷ os) = by_cases (eqb o.diverter d) (λ e. rw e refl) (λ e. rw e (diverts-among d os))

-- ---- what is chosen

total-more : (os : List Option) (o : Option) → total_of (os ++ (o ∷ [])) ≡ total_of os + o.minutes
unfolding total_of
total-more [] o = omega arith
total-more (x ∷ os) o = rw (total-more os o) (omega arith)

map_more : (f : Option → ℕ) (os : List Option) (o : Option) → map f (os ++ (o ∷ [])) ≡ map f os ++ (f o ∷ [])
map_more f [] o = refl
map_more f (x ∷ os) o = ap (λ (ys : List ℕ). f x ∷ ys) (map_more f os o)

pub stays-self : (work : List ℕ) (n : ℕ) → Stays work n work
stays-self work n = record { size = refl; numbers = λ i l. refl; diverters = λ i l. refl }

pub stays_then : {work middle work' : List ℕ} {n : ℕ} → Stays work n middle → Stays middle n work' → Stays work n work'
stays_then a b = record {
  size = b.size ∙ a.size;
  numbers = λ i l. b.numbers i l ∙ a.numbers i l;
  diverters = λ i l. b.diverters i l ∙ a.diverters i l;
}

pub stays-fewer : {work work' : List ℕ} {n : ℕ} → Stays work (suc n) work' → Stays work n work'
stays-fewer a = record {
  size = a.size;
  numbers = λ i l. a.numbers i (omega arith);
  diverters = λ i l. a.diverters i (omega arith);
}

-- a cell that is written outside of what was chosen
pub stays-set : (work : List ℕ) (n k x : ℕ) → ((i : ℕ) → i < n → numbers_from + i ≡ k → ⊥) → ((i : ℕ) → i < n → diverters_from + i ≡ k → ⊥) → Stays work n (set work k x)
stays-set work n k x a b = record {
  size = length-set work k x;
  numbers = λ i l. get_or-set_other work k (numbers_from + i) x 0 (a i l);
  diverters = λ i l. get_or-set_other work k (diverters_from + i) x 0 (b i l);
}

pub chosen-stays : {work work' : List ℕ} {n sum : ℕ} {os : List Option} → Stays work n work' → Chosen work n sum os → Chosen work' n sum os
chosen-stays {work} {work'} {n} s c = record {
  numbers = cells_same work work' numbers_from numbers_from n s.numbers ∙ c.numbers;
  diverters = cells_same work work' diverters_from diverters_from n s.diverters ∙ c.diverters;
  total = c.total;
}

-- one more
pub chosen_more : {work : List ℕ} {n sum : ℕ} {os : List Option} (o : Option) → Chosen work n sum os
    → get_or work (numbers_from + n) 0 ≡ o.number → get_or work (diverters_from + n) 0 ≡ o.diverter → Chosen work (suc n) (sum + o.minutes) (os ++ (o ∷ []))
chosen_more {work} {n} {sum} {os} o c a b = record {
  numbers = cells-more work numbers_from n ∙ rw (c.numbers, a) (sym (map_more (λ p. p.number) os o));
  diverters = cells-more work diverters_from n ∙ rw (c.diverters, b) (sym (map_more (λ p. p.diverter) os o));
  total = rw c.total (sym (total-more os o));
}

-- ---- the least total

pub best-same : (n : ℕ) (work work' : List ℕ) → get_or work' 1 0 ≡ get_or work 1 0 → ((i : ℕ) → i < n → get_or work' (best_from + i) 0 ≡ get_or work (best_from + i) 0) → best_in n work' ≡ best_in n work
unfolding best_in
best-same n work work' e f = rw (e, cells_same work work' best_from best_from n f) refl

pub best_none : (n : ℕ) (work : List ℕ) → get_or work 1 0 ≡ no_total → best_in n work ≡ none_found
unfolding best_in
best_none n work e = simp (eq-eqb _ _ e)

pub best-found : (n : ℕ) (work : List ℕ) → (get_or work 1 0 ≡ no_total → ⊥) → best_in n work ≡ found (get_or work 1 0) (cells_at work best_from n)
unfolding best_in
best-found n work e = simp (ne_eqb _ _ e)

better-none : (os : List Option) → better none_found os ≡ found (total_of os) (numbers_in os)
unfolding better
better-none os = refl

better-lower : (total : ℕ) (ns : List ℕ) (os : List Option) → total_of os < total → better (found total ns) os ≡ found (total_of os) (numbers_in os)
unfolding better
better-lower total ns os l = simp (lt-ltb _ _ l)

better-not : (total : ℕ) (ns : List ℕ) (os : List Option) → total ≤ total_of os → better (found total ns) os ≡ found total ns
unfolding better
better-not total ns os l = simp (le-ltb _ _ l)

-- a lower total replaces, whatever stood there
replaced : (n : ℕ) (work : List ℕ) (os : List Option) → total_of os < get_or work 1 0 → better (best_in n work) os ≡ found (total_of os) (numbers_in os)
replaced n work os l = by_cases (eqb (get_or work 1 0) no_total)
    (λ e. rw (best_none n work (eqb-true _ _ e)) (better-none os))
    (λ e. rw (best-found n work (eqb-false _ _ e)) (better-lower (get_or work 1 0) (cells_at work best_from n) os l))

module _ (work : List ℕ) (n total : ℕ) (few : n ≤ 6) (size : length work ≡ work_cells) (small : total < no_total) where
  -- the total is written, then the numbers are copied
  pub kept : (work' : List ℕ) → total < get_or work 1 0 → Copied (set work 1 total) n work' → Keeps work n total work'
  kept work' l c = record {
    stays = record {
      size = c.size ∙ length-set work 1 total;
      numbers = λ i k. c.high i ∙ get_or-set_other work 1 (numbers_from + i) total 0 (λ e. omega arith);
      diverters = λ i k. above i ∙ get_or-set_other work 1 (diverters_from + i) total 0 (λ e. omega arith);
    };
    left = c.low 0 (omega arith) ∙ get_or-set_other work 1 0 total 0 (λ e. omega arith);
    best = λ os s. best os s;
  }
    where
      above : (i : ℕ) → get_or work' (diverters_from + i) 0 ≡ get_or (set work 1 total) (diverters_from + i) 0
      above i = let e : diverters_from + i ≡ numbers_from + (6 + i) = omega arith in rw e (c.high (6 + i))

      is : get_or work' 1 0 ≡ total
      is = c.low 1 (omega arith) ∙ get_or-set_same work 1 total 0 (omega arith)

      copied : cells_at work' best_from n ≡ numbers_chosen work n
      copied = cells_same work work' numbers_from best_from n (λ i k. c.copies i k ∙ get_or-set_other work 1 (numbers_from + i) total 0 (λ e. omega arith))

      best : (os : List Option) → Chosen work n total os → best_in n work' ≡ better (best_in n work) os
      best os s =
          best-found n work' (λ e. omega (arith, is))
          ∙ rw (is, copied, s.numbers, s.total) refl
          ∙ sym (replaced n work os (omega (arith, s.total)))

  pub not-kept : get_or work 1 0 ≤ total → Keeps work n total work
  not-kept l = record {
    stays = stays-self work n;
    left = refl;
    best = λ os s.
        let f = best-found n work (λ e. omega arith) in
        f ∙ sym (rw f (better-not (get_or work 1 0) (cells_at work best_from n) os (omega (arith, s.total))));
  }

-- ---- numbers copied

pub copied_none : (work : List ℕ) → Copied work 0 work
copied_none work = record { size = refl; copies = λ i l. absurd (omega arith); low = λ i l. refl; high = λ i. refl }

module _ (work work' : List ℕ) (i : ℕ) (l : i < 6) (size : length work ≡ work_cells) (c : Copied work i work') where
  pub copied_more : Copied work (suc i) (set work' (best_from + i) (get_or work' (numbers_from + i) 0))
  copied_more = record {
    size = length-set work' (best_from + i) (get_or work' (numbers_from + i) 0) ∙ c.size;
    copies = λ j k. by_cases (eqb j i)
        (λ e. let f = eqb-true j i e in rw f (get_or-set_same work' (best_from + i) (get_or work' (numbers_from + i) 0) 0 (omega (arith, c.size)) ∙ c.high i))
        (λ e. let f = eqb-false j i e in
        get_or-set_other work' (best_from + i) (best_from + j) (get_or work' (numbers_from + i) 0) 0 (λ z. f (omega arith)) ∙ c.copies j (omega (arith, f)));
    low = λ j k. get_or-set_other work' (best_from + i) j (get_or work' (numbers_from + i) 0) 0 (λ z. omega arith) ∙ c.low j k;
    high = λ j. get_or-set_other work' (best_from + i) (numbers_from + j) (get_or work' (numbers_from + i) 0) 0 (λ z. omega arith) ∙ c.high j;
  }

pub copied_all : (work : List ℕ) (n : ℕ) → n ≤ 6 → length work ≡ work_cells
    → Copied work n (paste work best_from (drop numbers_from work) n)
copied_all work zero l size = subst (Copied work 0) (paste-zero work best_from (drop numbers_from work)) (copied_none work)
copied_all work (suc n) l size =
    let c = copied_all work n (omega arith) size in
    let e : get_or (paste work best_from (drop numbers_from work) n) (numbers_from + n) 0 ≡ get_or (drop numbers_from work) n 0 =
    c.high n ∙ sym (get_or-drop numbers_from work n 0) in
    let k : n < length (drop numbers_from work) = simp length-drop (omega arith) in
    subst (Copied work (suc n))
    (ap (set (paste work best_from (drop numbers_from work) n) (best_from + n)) e ∙ paste-suc work best_from (drop numbers_from work) n 0 (omega arith) k)
    (copied_more work (paste work best_from (drop numbers_from work) n) n (omega arith) size c)
