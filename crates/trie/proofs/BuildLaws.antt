-- After a build every child that enters is found by the lookup alone, where a parent has one child for each token. Slots are
-- taken and never freed, so from a child's own slot to its place no slot is free; and half of the slots stay free, so that
-- every child finds a place.
use Rattle.std.proofs.Common.{◌≡◌, ℕ, zero, suc, ◌+◌, ◌-◌, ◌*◌, ◌%◌, ◌^◌, ◌<◌, ◌≤◌, true, eqb, leb, ◌⊎◌, List, [], ◌∷◌, ◌++◌, length, get_or, set, sym, refl, ap, ◌∙◌, subst, inl, inr, mod-lt, arith, length-set, get_or-set_other, get_or-set_same, eq-eqb, ne_eqb, eqb-true, leb-false, leb-true}
use mathlib.Core.Bool.{false≢true}
use borrow.Author.Tests.{eqb-false}
use Rattle.basis.proofs.Tests.{strictly}
use Rattle.basis.specs.Choice.{pick}
use Rattle.basis.proofs.Cases.{by_cases}
use Rattle.trie.specs.Siblings.{Trie}
use Rattle.trie.specs.Index.{power_of_two, slot_of, slot_after, confirmed, probe, lookup, enters, entering, insert_from, insert, insert_all, empty_index, built_index, roomy}
use Rattle.trie.specs.Ledger.{Reach, here, on, zeros}
use Rattle.trie.proofs.IndexLaws.{Confirmed, confirmed-true, confirmed-is}
use Rattle.trie.proofs.WalkLaws.{both_true}

-- ---- reaching an entry

module _ (t : Trie) (index : List ℕ) (p y x : ℕ) (is : Confirmed t p y x) (one : (a : ℕ) → Confirmed t p y a → a ≡ x) where
  pub reach-probe : {k slot : ℕ} → Reach index x k slot → probe k t index p y slot ≡ x
  unfolding probe
  reach-probe (here k slot e) = rw (e, ne_eqb x 0 (λ z. omega (arith, is.above)), confirmed-true t p y x is)
  reach-probe (on k slot h r) = by_cases (confirmed t p y (get_or index slot 0))
      (λ e. rw (ne_eqb _ _ h, e) (one (get_or index slot 0) (confirmed-is t p y _ e)))
      (λ e. rw (ne_eqb _ _ h, e) (reach-probe r))

-- slots that are taken keep their entries
pub reach-kept : (index new : List ℕ) (x : ℕ) → length new ≡ length index → ((i : ℕ) → (get_or index i 0 ≡ 0 → ⊥) → get_or new i 0 ≡ get_or index i 0) → (x ≡ 0 → ⊥)
    → {k slot : ℕ} → Reach index x k slot → Reach new x k slot
reach-kept index new x l f h (here j slot e) = here j slot (f slot (λ z. h (sym e ∙ z)) ∙ e)
reach-kept index new x l f h (on j slot e r) =
    on j slot (λ z. e (sym (f slot e) ∙ z)) (rw l (reach-kept index new x l f h r))

-- ---- one entry

pub record Inserted (index new : List ℕ) (x k slot : ℕ) : Type 0 where
  pub at : ℕ
  pub inside : at < length index
  pub free : get_or index at 0 ≡ 0
  pub is : new ≡ set index at x
  pub reach : Reach new x k slot

module _ (index : List ℕ) (x : ℕ) where
  -- f is d slots ahead
  abbrev Ahead : ℕ → ℕ → ℕ → Type 0
  Ahead slot f d = (f ≡ slot + d) ⊎ (f + length index ≡ slot + d)

  after-inside : (slot : ℕ) → slot < length index → slot_after (length index) slot < length index
  unfolding slot_after
  after-inside slot h = by_cases (eqb (suc slot) (length index))
      (λ e. rw e (omega arith))
      (λ e. rw e (let z = eqb-false _ _ e in less slot (length index) h z))
    where
      less : (a b : ℕ) → a < b → (suc a ≡ b → ⊥) → suc a < b
      less a b h e = omega arith

  ahead-on : (slot f d : ℕ) → slot < length index → f < length index → Ahead slot f (suc d) → Ahead (slot_after (length index) slot) f d
  unfolding slot_after
  ahead-on slot f d h k a = by_cases (eqb (suc slot) (length index))
      (λ e. rw e (round (eqb-true _ _ e) a))
      (λ e. rw e (straight a))
    where
      round : suc slot ≡ length index → Ahead slot f (suc d) → (f ≡ 0 + d) ⊎ (f + length index ≡ 0 + d)
      round e (inl z) = absurd (omega arith)
      round e (inr z) = inl (omega arith)

      straight : Ahead slot f (suc d) → (f ≡ suc slot + d) ⊎ (f + length index ≡ suc slot + d)
      straight (inl z) = inl (omega arith)
      straight (inr z) = inr (omega arith)

  ahead_none : (slot f : ℕ) → slot < length index → Ahead slot f 0 → f ≡ slot
  ahead_none slot f h (inl z) = omega arith
  ahead_none slot f h (inr z) = absurd (omega arith)

  pub taken-kept : (i : ℕ) → get_or index i 0 ≡ 0 → (j : ℕ) → (get_or index j 0 ≡ 0 → ⊥) → get_or (set index i x) j 0 ≡ get_or index j 0
  taken-kept i e j h = get_or-set_other index i j x 0 (λ z. h (ap (λ (a : ℕ). get_or index a 0) z ∙ e))

  pub inserted : (k slot f d : ℕ) → slot < length index → f < length index → get_or index f 0 ≡ 0 → Ahead slot f d → d < k → Inserted index (insert_from k index slot x) x k slot
  unfolding insert_from
  inserted zero slot f d h g e a l = absurd (omega arith)
  inserted (suc k) slot f zero h g e a l =
      let z : get_or index slot 0 ≡ 0 = ap (λ (i : ℕ). get_or index i 0) (sym (ahead_none slot f h a)) ∙ e in
      rw (eq-eqb _ _ z) (record { at = slot; inside = h; free = z; is = refl; reach = here k slot (get_or-set_same index slot x 0 h) })
  inserted (suc k) slot f (suc d) h g e a l = by_cases (eqb (get_or index slot 0) 0)
      (λ z. rw z (record { at = slot; inside = h; free = eqb-true _ _ z; is = refl; reach = here k slot (get_or-set_same index slot x 0 h) }))
      (λ z. let r = inserted k (slot_after (length index) slot) f d (after-inside slot h) g e (ahead-on slot f d h g a) (omega arith) in
      let kept : get_or (insert_from k index (slot_after (length index) slot) x) slot 0 ≡ get_or index slot 0 = ap (λ (m : List ℕ). get_or m slot 0) r.is ∙ taken-kept r.at r.free slot (eqb-false _ _ z) in
      let long : length (insert_from k index (slot_after (length index) slot) x) ≡ length index = ap length r.is ∙ length-set index r.at x in
      rw z (record { at = r.at; inside = r.inside; free = r.free; is = r.is; reach = on k slot (λ q. eqb-false _ _ z (sym kept ∙ q)) (rw long r.reach) }))

-- ---- free slots

pub zeros-set : (index : List ℕ) (i x : ℕ) → i < length index → get_or index i 0 ≡ 0 → (x ≡ 0 → ⊥) → zeros index ≡ suc (zeros (set index i x))
unfolding zeros
zeros-set [] i x h e n = absurd (omega arith)
zeros-set (y ∷ ys) zero x h e n = rw (eq-eqb y 0 e, ne_eqb x 0 n)
zeros-set (y ∷ ys) (suc i) x h e n = by_cases (eqb y 0) (λ z. rw z (ap suc (zeros-set ys i x (omega arith) e n))) (λ z. rw z (zeros-set ys i x (omega arith) e n))

pub zeros-some : (index : List ℕ) → 0 < zeros index → (f : ℕ) × (f < length index) × (get_or index f 0 ≡ 0)
unfolding zeros
zeros-some [] h = absurd (omega arith)
zeros-some (y ∷ ys) h = by_cases (eqb y 0)
    (λ z. (0, omega arith, eqb-true _ _ z))
    (λ z. let r = zeros-some ys (rw z at h) in (suc r.0, omega (arith, r.1), r.2))

pub zeros-free : (n : ℕ) → zeros (empty_index n) ≡ n
unfolding empty_index zeros
zeros-free zero = refl
zeros-free (suc n) = ap suc (zeros-free n)

pub length-free : (n : ℕ) → length (empty_index n) ≡ n
unfolding empty_index
length-free zero = refl
length-free (suc n) = ap suc (length-free n)

slot-inside : (size p y : ℕ) → 0 < size → slot_of size p y < size
unfolding slot_of
slot-inside size p y h = mod-lt ((p + y) % (2 ^ 32)) h

pub ahead_of : (index : List ℕ) (x slot f : ℕ) → slot < length index → f < length index → (d : ℕ) × Ahead index x slot f d × (d < length index)
ahead_of index x slot f h g = by_cases (leb slot f)
    (λ e. let l : slot ≤ f = leb-true _ _ e in (f - slot, inl (omega arith), omega arith))
    (λ e. let l : f < slot = leb-false _ _ e in (f + length index - slot, inr (omega arith), omega arith))

-- ---- all of them

abbrev Member : ℕ → List ℕ → Type 0
Member x [] = ⊥
Member x (y ∷ ys) = (x ≡ y) ⊎ Member x ys

abbrev NoZero : List ℕ → Type 0
NoZero [] = Unit {0}
NoZero (x ∷ xs) = (x ≡ 0 → ⊥) × NoZero xs

module _ (t : Trie) where
  abbrev own : ℕ → ℕ → ℕ
  own size x = slot_of size (t.at x).parent (t.at x).token

  record Filled (index new xs : List ℕ) : Type 0 where
    long : length new ≡ length index
    kept : (i : ℕ) → (get_or index i 0 ≡ 0 → ⊥) → get_or new i 0 ≡ get_or index i 0
    reached : (x : ℕ) → Member x xs → Reach new x (length index) (own (length index) x)

  one-inserted : (index : List ℕ) (x : ℕ) → 0 < zeros index → Inserted index (insert t index x) x (length index) (own (length index) x)
  one-inserted index x h =
      let f = zeros-some index h in
      let s = slot-inside (length index) (t.at x).parent (t.at x).token (omega (arith, f.1)) in
      let d = ahead_of index x (own (length index) x) f.0 s f.1 in
      inserted index x (length index) (own (length index) x) f.0 d.0 s f.1 f.2 d.1 d.2

  filled : (xs index : List ℕ) → NoZero xs → length xs ≤ zeros index → Filled index (insert_all t index xs) xs
  unfolding insert_all
  filled [] index n h = record { long = refl; kept = λ i e. refl; reached = λ x m. absurd m }
  filled (x ∷ xs) index n h =
      let mid : List ℕ = insert t index x in
      let p : Inserted index mid x (length index) (own (length index) x) = one-inserted index x (omega arith) in
      let long : length mid ≡ length index = ap length p.is ∙ length-set index p.at x in
      let less : zeros index ≡ suc (zeros mid) = zeros-set index p.at x p.inside p.free n.0 ∙ ap (λ (m : List ℕ). suc (zeros m)) (sym p.is) in
      let r = filled xs mid n.1 (omega arith) in
      let stays : (i : ℕ) → (get_or index i 0 ≡ 0 → ⊥) → get_or mid i 0 ≡ get_or index i 0 = λ i e. ap (λ (m : List ℕ). get_or m i 0) p.is ∙ taken-kept index x p.at p.free i e in
      record {
        long = r.long ∙ long;
        kept = λ i e. r.kept i (λ z. e (sym (stays i e) ∙ z)) ∙ stays i e;
        reached = λ y m. which mid r p long y m;
      }
    where
      which : (mid : List ℕ) → Filled mid (insert_all t mid xs) xs → Inserted index mid x (length index) (own (length index) x) → length mid ≡ length index
          → (y : ℕ) → Member y (x ∷ xs) → Reach (insert_all t mid xs) y (length index) (own (length index) y)
      which mid r p long y (inl e) = rw e (reach-kept mid (insert_all t mid xs) x r.long r.kept n.0 p.reach)
      which mid r p long y (inr m) = subst (λ (k : ℕ). Reach (insert_all t mid xs) y k (own k y)) long (r.reached y m)

-- ---- the children to enter

member-left : (x : ℕ) (xs ys : List ℕ) → Member x xs → Member x (xs ++ ys)
member-left x [] ys m = absurd m
member-left x (z ∷ zs) ys (inl e) = inl e
member-left x (z ∷ zs) ys (inr m) = inr (member-left x zs ys m)

member_right : (x : ℕ) (xs ys : List ℕ) → Member x ys → Member x (xs ++ ys)
member_right x [] ys m = m
member_right x (z ∷ xs) ys m = inr (member_right x xs ys m)

no-zero-append : (xs ys : List ℕ) → NoZero xs → NoZero ys → NoZero (xs ++ ys)
no-zero-append [] ys n m = m
no-zero-append (x ∷ xs) ys n m = (n.0, no-zero-append xs ys n.1 m)

module _ (t : Trie) where
  entering-has : (n x : ℕ) → x < n → enters t x ≡ true → Member x (entering t n)
  unfolding entering
  entering-has zero x h e = absurd (omega arith)
  entering-has (suc n) x h e = by_cases (eqb x n)
      (λ z. let k : x ≡ n = eqb-true _ _ z in
      let e' : enters t n ≡ true = ap (enters t) (sym k) ∙ e in
      member_right x (entering t n) (pick (enters t n) (n ∷ []) []) (rw e' (inl k)))
      (λ z. member-left x (entering t n) (pick (enters t n) (n ∷ []) []) (entering-has n x (strictly x n (omega arith) (eqb-false _ _ z)) e))

  -- the subgoal root is no child
  root-out : (t.at 0).parent ≡ 0 → (n : ℕ) → n ≡ 0 → enters t n ≡ true → ⊥
  unfolding enters
  root-out o n z e = let f : enters t 0 ≡ true = ap (enters t) (sym z) ∙ e in false≢true (rw o at f)

  entering-some : (t.at 0).parent ≡ 0 → (n : ℕ) → NoZero (entering t n)
  unfolding entering
  entering-some o zero = tt
  entering-some o (suc n) = no-zero-append (entering t n) (pick (enters t n) (n ∷ []) []) (entering-some o n) (by_cases (enters t n)
      (λ e. rw e ((λ z. root-out o n z e), tt))
      (λ e. rw e tt))

  roomy-parts : (size : ℕ) → roomy t size ≡ true → (power_of_two size ≡ true) × (2 * length (entering t t.nodes) ≤ size)
  unfolding roomy
  roomy-parts size e = let a = both_true _ _ e in (a.0, leb-true _ _ a.1)

  -- after a build every child that enters is found by the lookup alone
  pub built-finds : (t.at 0).parent ≡ 0 → (size : ℕ) → roomy t size ≡ true → (x : ℕ) → x < t.nodes → enters t x ≡ true → (t.at x).parent < x
      → ((a : ℕ) → Confirmed t (t.at x).parent (t.at x).token a → a ≡ x) → lookup t (built_index t size) (t.at x).parent (t.at x).token ≡ x
  unfolding lookup built_index
  built-finds o size e x h k up one =
      let a = roomy-parts size e in
      let xs : List ℕ = entering t t.nodes in
      let r = filled t xs (empty_index size) (entering-some o t.nodes) (rw (zeros-free size) (omega (arith, a.1))) in
      let long : length (insert_all t (empty_index size) xs) ≡ size = r.long ∙ length-free size in
      let way : Reach (insert_all t (empty_index size) xs) x size (own t size x) = rw (length-free size) at (r.reached x (entering-has t.nodes x h k)) in
      rw (long, a.0) (reach-probe t (insert_all t (empty_index size) xs) (t.at x).parent (t.at x).token x (record { above = up; below = h; parent_is = refl; token-is = refl }) one way)
