-- Where a walk by any way of finding ended: the node in range, and which tokens are left.
use Prim.Native.Nat.{ℕ, suc, ◌-◌, ◌<◌, ◌≤◌}
use mathlib.Core.Path.{◌≡◌, refl, sym, ap, ◌∙◌}
use mathlib.Core.Bool.{Bool, true, false, ◌&&◌}
use mathlib.Core.List.{List, [], ◌∷◌}
use native.Mathlib.Omega.{arith}
use lib.ListN.{length, drop}
use lib.Dec.{eqb}
use Rattle.basis.specs.Choice.{pick}
use Rattle.trie.specs.Siblings.{Trie, sound}
use Rattle.trie.specs.Walks.{Walk, whole, stopped, damaged, onward, Finding, walk_from_by, walk_by, shown}
use Rattle.trie.specs.declared.Search.{Search}
use Rattle.trie.specs.declared.Search.TheVariants.{Found, Last, Damaged}
use Rattle.trie.specs.declared.Walked.TheVariants as walked
use Rattle.trie.proofs.SearchLaws.{Finds}

-- what the code's answer says of the walk
pub shown-whole : (w : Walk) (n : ℕ) → walked.Whole n ≡ shown w → w ≡ whole n
shown-whole (whole k) n e = let z : n ≡ k = cc in ap whole (sym z)
shown-whole (stopped p l xs) n e = let z : ◌≡◌ {A = ℕ} 0 1 = cc in absurd (omega arith)
shown-whole damaged n e = let z : ◌≡◌ {A = ℕ} 0 1 = cc in absurd (omega arith)

pub shown-stopped : (w : Walk) (n last k : ℕ) → walked.Stopped n last k ≡ shown w → (left : List ℕ) × ((w ≡ stopped n last left) × (k ≡ length left))
shown-stopped (whole j) n last k e = let z : ◌≡◌ {A = ℕ} 0 1 = cc in absurd (omega arith)
shown-stopped (stopped p l xs) n last k e =
    let z : n ≡ p = cc in let y : last ≡ l = cc in let x : k ≡ length xs = cc in
    (xs, (rw (z, y), x))
shown-stopped damaged n last k e = let z : ◌≡◌ {A = ℕ} 0 1 = cc in absurd (omega arith)

pub shown-damaged : (w : Walk) → walked.Damaged ≡ shown w → w ≡ damaged
shown-damaged (whole j) e = let z : ◌≡◌ {A = ℕ} 0 1 = cc in absurd (omega arith)
shown-damaged (stopped p l xs) e = let z : ◌≡◌ {A = ℕ} 0 1 = cc in absurd (omega arith)
shown-damaged damaged e = refl

pub record EndsWhole (t : Trie) (n : ℕ) : Type 0 where
  pub within : n < t.nodes
  pub judged : sound t n ≡ true

pub record EndsBefore (t : Trie) (parent last : ℕ) (ys left : List ℕ) : Type 0 where
  pub parent-within : parent < t.nodes
  pub parent-judged : sound t parent ≡ true
  pub last_within : last < t.nodes
  pub fewer : length left ≤ length ys
  pub left_is : drop (length ys - length left) ys ≡ left

root-test : (b d : Bool) (v w : Walk) → pick (b && d) v damaged ≡ w → (damaged ≡ w → ⊥) → (b ≡ true) × (v ≡ w)
root-test true true v w e f = (refl, e)
root-test true false v w e f = absurd (f e)
root-test false d v w e f = absurd (f e)

module _ {find : Finding} (finds : Finds find) where
  step-whole : (t : Trie) (n x k : ℕ) (xs : List ℕ) → n < t.nodes → sound t n ≡ true → (f : Search) → find t n x ≡ f →
      onward f n (x ∷ xs) (λ child. walk_from_by find t child xs) ≡ whole k →
      ((c : ℕ) → c < t.nodes → sound t c ≡ true → walk_from_by find t c xs ≡ whole k → EndsWhole t k) → EndsWhole t k
  step-whole t n x k xs h s (Found c) e w next =
      let f = finds.found t n x c h s e in next c f.within f.judged w
  step-whole t n x k xs h s (Last l) e w next = let z : ◌≡◌ {A = ℕ} 0 1 = cc in absurd (omega arith)
  step-whole t n x k xs h s Damaged e w next = let z : ◌≡◌ {A = ℕ} 0 1 = cc in absurd (omega arith)

  from-whole : (ys : List ℕ) (t : Trie) (n k : ℕ) → n < t.nodes → sound t n ≡ true → walk_from_by find t n ys ≡ whole k → EndsWhole t k
  unfolding walk_from_by
  from-whole [] t n k h s e = let z : n ≡ k = cc in rw (← z) (record { within = h; judged = s })
  from-whole (x ∷ xs) t n k h s e =
      step-whole t n x k xs h s (find t n x) refl e (λ c i j w. from-whole xs t c k i j w)

  step-stopped : (t : Trie) (n x p l : ℕ) (xs left : List ℕ) → n < t.nodes → sound t n ≡ true → (f : Search) → find t n x ≡ f →
      onward f n (x ∷ xs) (λ child. walk_from_by find t child xs) ≡ stopped p l left →
      ((c : ℕ) → c < t.nodes → sound t c ≡ true → walk_from_by find t c xs ≡ stopped p l left → EndsBefore t p l xs left) → EndsBefore t p l (x ∷ xs) left
  step-stopped t n x p l xs left h s (Found c) e w next =
      let f = finds.found t n x c h s e in
      let r = next c f.within f.judged w in
      let i : length left ≤ length xs = r.fewer in
      let j : length (x ∷ xs) - length left ≡ suc (length xs - length left) = omega arith in
      record {
        parent-within = r.parent-within;
        parent-judged = r.parent-judged;
        last_within = r.last_within;
        fewer = omega arith;
        left_is = ap (λ (k : ℕ). drop k (x ∷ xs)) j ∙ r.left_is;
      }
  step-stopped t n x p l xs left h s (Last k) e w next =
      let f = finds.ended t n x k h s e in
      let a : n ≡ p = cc in
      let b : k ≡ l = cc in
      let d : ◌≡◌ {A = List ℕ} (x ∷ xs) left = cc in
      let j : length (x ∷ xs) - length (x ∷ xs) ≡ 0 = omega arith in
      rw (← a, ← b, ← d) (record {
        parent-within = f.parent-within;
        parent-judged = s;
        last_within = f.last_within;
        fewer = omega arith;
        left_is = ap (λ (i : ℕ). drop i (x ∷ xs)) j;
      })
  step-stopped t n x p l xs left h s Damaged e w next = let z : ◌≡◌ {A = ℕ} 0 1 = cc in absurd (omega arith)

  from-stopped : (ys : List ℕ) (t : Trie) (n p l : ℕ) (left : List ℕ) → n < t.nodes → sound t n ≡ true → walk_from_by find t n ys ≡ stopped p l left → EndsBefore t p l ys left
  unfolding walk_from_by
  from-stopped [] t n p l left h s e = let z : ◌≡◌ {A = ℕ} 0 1 = cc in absurd (omega arith)
  from-stopped (x ∷ xs) t n p l left h s e =
      step-stopped t n x p l xs left h s (find t n x) refl e (λ c i j w. from-stopped xs t c p l left i j w)

  root-from : (t : Trie) (root : ℕ) (ys : List ℕ) (w : Walk) → walk_by find t root ys ≡ w → (damaged ≡ w → ⊥) → (sound t root ≡ true) × (walk_from_by find t root ys ≡ w)
  unfolding walk_by
  root-from t root ys w e f = root-test (sound t root) (eqb (t.at root).parent root) (walk_from_by find t root ys) w e f

  pub walk-whole : (t : Trie) (root k : ℕ) (ys : List ℕ) → root < t.nodes → walk_by find t root ys ≡ whole k → EndsWhole t k
  walk-whole t root k ys h e =
      let r = root-from t root ys (whole k) e (λ x. let z : ◌≡◌ {A = ℕ} 0 1 = cc in omega arith) in
      from-whole ys t root k h r.0 r.1

  pub walk-stopped : (t : Trie) (root p l : ℕ) (ys left : List ℕ) → root < t.nodes → walk_by find t root ys ≡ stopped p l left → EndsBefore t p l ys left
  walk-stopped t root p l ys left h e =
      let r = root-from t root ys (stopped p l left) e (λ x. let z : ◌≡◌ {A = ℕ} 0 1 = cc in omega arith) in
      from-stopped ys t root p l left h r.0 r.1
