-- Where two walks of one trie stop: at one node, then both went the same way and share what is found, and what they share
-- beyond it is shared by the tokens left; or at two, then they share no more than the one found.
use Prim.Native.Nat.{ℕ, suc, ◌+◌, ◌<◌, ◌≤◌}
use mathlib.Core.Path.{◌≡◌, refl, sym, ap, ◌∙◌, subst}
use mathlib.Core.Bool.{Bool, true, false, ◌&&◌}
use mathlib.Core.List.{[], ◌∷◌}
use native.Mathlib.Omega.{arith}
use lib.Dec.{eqb}
use lib.ListN.{length}
use borrow.Author.Tests.{eqb-true, eqb-false}
use Rattle.basis.specs.Choice.{pick}
use Rattle.basis.proofs.Cases.{by_cases}
use Rattle.forms.specs.Compact.{same}
use Rattle.plain.specs.Words.{Word, common}
use Rattle.trie.specs.Siblings.{Trie, sound}
use Rattle.trie.specs.Walks.{Walk, whole, stopped, damaged, onward, Finding, walk_from_by, walk_by}
use Rattle.trie.specs.declared.Search.{Search}
use Rattle.trie.specs.declared.Search.TheVariants.{Found, Last, Damaged}
use Rattle.trie.proofs.SearchLaws.{Finds}
use Rattle.drafts.proofs.Steady.{Steady}

-- ---- a node below another

data Below (t : Trie) (c : ℕ) : ℕ → Type 0 where
  here : (p : ℕ) → c ≡ p → Below t c p
  down : (q p : ℕ) → Below t c q → (t.at p).parent ≡ q → q < p → Below t c p

below-most : {t : Trie} {c p : ℕ} → Below t c p → c ≤ p
below-most (here p e) = omega arith
below-most (down q p b e l) = let i = below-most b in omega arith

below_up : {t : Trie} {n c p : ℕ} → (t.at c).parent ≡ n → n < c → Below t c p → Below t n p
below_up {t} {n} {c} e l (here p f) = down n p (here n refl) (ap (λ (i : ℕ). (t.at i).parent) (sym f) ∙ e) (omega arith)
below_up e l (down q p b f k) = down q p (below_up e l b) f k

-- no node is below two children of one
below_one : {t : Trie} {n c d p : ℕ} → (t.at c).parent ≡ n → n < c → (t.at d).parent ≡ n → n < d → Below t c p → Below t d p → c ≡ d
below_one e l f k (here p i) (here r j) = i ∙ sym j
below_one {t} {n} {c} {d} e l f k (here p i) (down q r b g m) =
    let z : q ≡ n = sym g ∙ ap (λ (y : ℕ). (t.at y).parent) (sym i) ∙ e in
    let y = below-most b in absurd (omega arith)
below_one {t} {n} {c} {d} e l f k (down q p b g m) (here r j) =
    let z : q ≡ n = sym g ∙ ap (λ (y : ℕ). (t.at y).parent) (sym j) ∙ f in
    let y = below-most b in absurd (omega arith)
below_one {t} {n} {c} {d} e l f k (down q p b g m) (down r o b' g' m') = below_one e l f k b (subst (Below t d) (sym g' ∙ g) b')

-- ---- the walks

pub record Stops (u w : Word) (p' : ℕ) (left' : Word) (p : ℕ) (left : Word) : Type 0 where
  pub same_count : p' ≡ p → length u + length left ≡ length w + length left'
  pub same-common : p' ≡ p → common w u + length left ≡ length w + common left left'
  pub same_word : p' ≡ p → same w u ≡ same left left'
  pub other-common : (p' ≡ p → ⊥) → common w u + length left' ≤ length u
  pub other_word : (p' ≡ p → ⊥) → same w u ≡ false

pub record Passes (u w left' : Word) : Type 0 where
  pub less : common w u + length left' ≤ length u
  pub differ : same w u ≡ false

common-none : (u : Word) → common [] u ≡ 0
unfolding common
common-none u = refl

common-same : (a : ℕ) (w u : Word) → common (a ∷ w) (a ∷ u) ≡ suc (common w u)
unfolding common
common-same a w u = by_cases (eqb a a) (λ e. rw e) (λ e. absurd (eqb-false a a e refl))

word_same : (a : ℕ) (w u : Word) → same (a ∷ w) (a ∷ u) ≡ same w u
unfolding same
word_same a w u = by_cases (eqb a a) (λ e. rw e) (λ e. absurd (eqb-false a a e refl))

common-other : (b a : ℕ) (w u : Word) → eqb b a ≡ false → common (b ∷ w) (a ∷ u) ≡ 0
unfolding common
common-other b a w u e = rw e

word-other : (b a : ℕ) (w u : Word) → eqb b a ≡ false → same (b ∷ w) (a ∷ u) ≡ false
unfolding same
word-other b a w u e = rw e

not_stopped : {A : Type 0} {n p l : ℕ} {left : Word} → whole n ≡ stopped p l left → A
not_stopped e = let z : ◌≡◌ {A = ℕ} 0 1 = cc in absurd (omega arith)

not-damaged : {A : Type 0} {p l : ℕ} {left : Word} → damaged ≡ stopped p l left → A
not-damaged e = let z : ◌≡◌ {A = ℕ} 0 1 = cc in absurd (omega arith)

stopped-node : {n k p l : ℕ} {xs left : Word} → stopped n k xs ≡ stopped p l left → n ≡ p
stopped-node e = cc

stopped-left : {n k p l : ℕ} {xs left : Word} → stopped n k xs ≡ stopped p l left → xs ≡ left
stopped-left e = cc

module _ {find : Finding} (finds : Finds find) (steady : Steady find) (t : Trie) where
  step_fewer : (n x p l : ℕ) (xs left : Word) (f : Search) → onward f n (x ∷ xs) (λ child. walk_from_by find t child xs) ≡ stopped p l left
      → ((c : ℕ) → walk_from_by find t c xs ≡ stopped p l left → length left ≤ length xs) → length left ≤ suc (length xs)
  step_fewer n x p l xs left (Found c) e next = let i = next c e in omega arith
  step_fewer n x p l xs left (Last k) e next = let i : ◌≡◌ {A = Word} (x ∷ xs) left = stopped-left e in rw (← i) (omega arith)
  step_fewer n x p l xs left Damaged e next = not-damaged e

  from-fewer : (xs : Word) (n p l : ℕ) (left : Word) → walk_from_by find t n xs ≡ stopped p l left → length left ≤ length xs
  unfolding walk_from_by
  from-fewer [] n p l left e = not_stopped e
  from-fewer (x ∷ xs) n p l left e = step_fewer n x p l xs left (find t n x) e (λ c f. from-fewer xs c p l left f)

  step-below : (n x p l : ℕ) (xs left : Word) → n < t.nodes → sound t n ≡ true → (f : Search) → find t n x ≡ f
      → onward f n (x ∷ xs) (λ child. walk_from_by find t child xs) ≡ stopped p l left
      → ((c : ℕ) → c < t.nodes → sound t c ≡ true → walk_from_by find t c xs ≡ stopped p l left → Below t c p) → Below t n p
  step-below n x p l xs left h s (Found c) e w next =
      let k = finds.found t n x c h s e in below_up k.parent_is (steady.rises t n x c h s e) (next c k.within k.judged w)
  step-below n x p l xs left h s (Last k) e w next = here p (stopped-node w)
  step-below n x p l xs left h s Damaged e w next = not-damaged w

  from-below : (xs : Word) (n p l : ℕ) (left : Word) → n < t.nodes → sound t n ≡ true → walk_from_by find t n xs ≡ stopped p l left → Below t n p
  unfolding walk_from_by
  from-below [] n p l left h s e = not_stopped e
  from-below (x ∷ xs) n p l left h s e = step-below n x p l xs left h s (find t n x) refl e (λ c i j w. from-below xs c p l left i j w)

  -- two tokens: only a stop at the node itself is one stop
  module _ (n : ℕ) (h : n < t.nodes) (s : sound t n ≡ true) (a b : ℕ) (u w : Word) (differ : a ≡ b → ⊥) (p' l' : ℕ) (left' : Word) (p l : ℕ) (left : Word) where
    parted : (f g : Search) → find t n a ≡ f → find t n b ≡ g
        → onward f n (a ∷ u) (λ child. walk_from_by find t child u) ≡ stopped p' l' left'
        → onward g n (b ∷ w) (λ child. walk_from_by find t child w) ≡ stopped p l left
        → p' ≡ p → ◌≡◌ {A = Word} (a ∷ u) left' × ◌≡◌ {A = Word} (b ∷ w) left
    parted (Last i) (Last j) e f x y q = (stopped-left x, stopped-left y)
    parted (Last i) (Found d) e f x y q =
        let k = finds.found t n b d h s f in
        let z : n ≡ p' = stopped-node x in
        let r = steady.rises t n b d h s f in
        let m = below-most (from-below w d p l left k.within k.judged y) in absurd (omega arith)
    parted (Found c) (Last j) e f x y q =
        let k = finds.found t n a c h s e in
        let z : n ≡ p = stopped-node y in
        let r = steady.rises t n a c h s e in
        let m = below-most (from-below u c p' l' left' k.within k.judged x) in absurd (omega arith)
    parted (Found c) (Found d) e f x y q =
        let i = finds.found t n a c h s e in
        let j = finds.found t n b d h s f in
        let one : c ≡ d = below_one i.parent_is (steady.rises t n a c h s e) j.parent_is (steady.rises t n b d h s f)
        (subst (Below t c) q (from-below u c p' l' left' i.within i.judged x)) (from-below w d p l left j.within j.judged y) in
        absurd (differ (sym i.token-is ∙ ap (λ (z : ℕ). (t.at z).token) one ∙ j.token-is))
    parted Damaged g e f x y q = not-damaged x
    parted (Last i) Damaged e f x y q = not-damaged y
    parted (Found c) Damaged e f x y q = not-damaged y

  -- the first tokens differ
  stops-apart : (b a : ℕ) (u w : Word) (p' : ℕ) (left' : Word) (p : ℕ) (left : Word) → eqb b a ≡ false → length left' ≤ length (a ∷ u)
      → (p' ≡ p → ◌≡◌ {A = Word} (a ∷ u) left' × ◌≡◌ {A = Word} (b ∷ w) left) → Stops (a ∷ u) (b ∷ w) p' left' p left
  stops-apart b a u w p' left' p left e few one = record {
    same_count = λ q. let o = one q in rw (← o.0, ← o.1) (omega arith);
    same-common = λ q. let o = one q in rw (← o.0, ← o.1) (omega arith);
    same_word = λ q. let o = one q in rw (← o.0, ← o.1);
    other-common = λ _. let z = common-other b a w u e in omega arith;
    other_word = λ _. word-other b a w u e;
  }

  -- and are one
  stops-on : (a : ℕ) (u w : Word) (p' : ℕ) (left' : Word) (p : ℕ) (left : Word) → Stops u w p' left' p left → Stops (a ∷ u) (a ∷ w) p' left' p left
  stops-on a u w p' left' p left r = record {
    same_count = λ q. omega (arith, r.same_count q);
    same-common = λ q. omega (arith, r.same-common q, common-same a w u);
    same_word = λ q. word_same a w u ∙ r.same_word q;
    other-common = λ q. omega (arith, r.other-common q, common-same a w u);
    other_word = λ q. word_same a w u ∙ r.other_word q;
  }

  stops-here : (a n : ℕ) (u w : Word) (p' : ℕ) (left' : Word) (p : ℕ) (left : Word) → n ≡ p' → n ≡ p → ◌≡◌ {A = Word} (a ∷ u) left' → ◌≡◌ {A = Word} (a ∷ w) left → Stops (a ∷ u) (a ∷ w) p' left' p left
  stops-here a n u w p' left' p left i j e f = record {
    same_count = λ q. rw (← e, ← f) (omega arith);
    same-common = λ q. rw (← e, ← f) (omega arith);
    same_word = λ q. rw (← e, ← f);
    other-common = λ q. absurd (q (sym i ∙ j));
    other_word = λ q. absurd (q (sym i ∙ j));
  }

  step-stops : (n a : ℕ) (u w : Word) (p' l' : ℕ) (left' : Word) (p l : ℕ) (left : Word) → n < t.nodes → sound t n ≡ true → (f : Search) → find t n a ≡ f
      → onward f n (a ∷ u) (λ child. walk_from_by find t child u) ≡ stopped p' l' left'
      → onward f n (a ∷ w) (λ child. walk_from_by find t child w) ≡ stopped p l left
      → ((c : ℕ) → c < t.nodes → sound t c ≡ true → walk_from_by find t c u ≡ stopped p' l' left' → walk_from_by find t c w ≡ stopped p l left → Stops u w p' left' p left)
      → Stops (a ∷ u) (a ∷ w) p' left' p left
  step-stops n a u w p' l' left' p l left h s (Found c) e x y next =
      let k = finds.found t n a c h s e in stops-on a u w p' left' p left (next c k.within k.judged x y)
  step-stops n a u w p' l' left' p l left h s (Last k) e x y next = stops-here a n u w p' left' p left (stopped-node x) (stopped-node y) (stopped-left x) (stopped-left y)
  step-stops n a u w p' l' left' p l left h s Damaged e x y next = not-damaged x

  from-stops : (u w : Word) (n p' l' : ℕ) (left' : Word) (p l : ℕ) (left : Word) → n < t.nodes → sound t n ≡ true
      → walk_from_by find t n u ≡ stopped p' l' left' → walk_from_by find t n w ≡ stopped p l left → Stops u w p' left' p left
  unfolding walk_from_by
  from-stops [] w n p' l' left' p l left h s x y = not_stopped x
  from-stops (a ∷ u) [] n p' l' left' p l left h s x y = not_stopped y
  from-stops (a ∷ u) (b ∷ w) n p' l' left' p l left h s x y = by_cases (eqb b a)
      (λ e. let z : b ≡ a = eqb-true b a e in
      subst (λ (i : ℕ). Stops (a ∷ u) (i ∷ w) p' left' p left) (sym z)
      (step-stops n a u w p' l' left' p l left h s (find t n a) refl x
      (subst (λ (i : ℕ). onward (find t n i) n (i ∷ w) (λ child. walk_from_by find t child w) ≡ stopped p l left) z y)
      (λ c i j v q. from-stops u w c p' l' left' p l left i j v q)))
      (λ e. stops-apart b a u w p' left' p left e (from-fewer (a ∷ u) n p' l' left' x)
      (parted n h s a b u w (λ q. eqb-false b a e (sym q)) p' l' left' p l left (find t n a) (find t n b) refl refl x y))

  -- ---- one that is found whole

  step-passes : (n a j : ℕ) (u w : Word) (p' l' : ℕ) (left' : Word) → (f : Search)
      → onward f n (a ∷ u) (λ child. walk_from_by find t child u) ≡ stopped p' l' left'
      → onward f n (a ∷ w) (λ child. walk_from_by find t child w) ≡ whole j
      → ((c : ℕ) → walk_from_by find t c u ≡ stopped p' l' left' → walk_from_by find t c w ≡ whole j → Passes u w left') → Passes (a ∷ u) (a ∷ w) left'
  step-passes n a j u w p' l' left' (Found c) x y next =
      let r = next c x y in record { less = omega (arith, r.less, common-same a w u); differ = word_same a w u ∙ r.differ }
  step-passes n a j u w p' l' left' (Last k) x y next = not_stopped (sym y)
  step-passes n a j u w p' l' left' Damaged x y next = not-damaged x

  from-passes : (u w : Word) (n p' l' : ℕ) (left' : Word) (j : ℕ) → walk_from_by find t n u ≡ stopped p' l' left' → walk_from_by find t n w ≡ whole j → Passes u w left'
  unfolding walk_from_by
  from-passes [] w n p' l' left' j x y = not_stopped x
  from-passes (a ∷ u) [] n p' l' left' j x y = record { less = (let few = from-fewer (a ∷ u) n p' l' left' x in let z = common-none (a ∷ u) in omega arith); differ = unfold same in refl }
  from-passes (a ∷ u) (b ∷ w) n p' l' left' j x y = by_cases (eqb b a)
      (λ e. let z : b ≡ a = eqb-true b a e in
      subst (λ (i : ℕ). Passes (a ∷ u) (i ∷ w) left') (sym z)
      (step-passes n a j u w p' l' left' (find t n a) x
      (subst (λ (i : ℕ). onward (find t n i) n (i ∷ w) (λ child. walk_from_by find t child w) ≡ whole j) z y)
      (λ c v q. from-passes u w c p' l' left' j v q)))
      (λ e. let few = from-fewer (a ∷ u) n p' l' left' x in record { less = let z = common-other b a w u e in omega arith; differ = word-other b a w u e })

  -- ---- a token is left

  step-some : (n x p l : ℕ) (xs left : Word) (f : Search) → onward f n (x ∷ xs) (λ child. walk_from_by find t child xs) ≡ stopped p l left
      → ((c : ℕ) → walk_from_by find t c xs ≡ stopped p l left → (y : ℕ) × (ys : Word) × (left ≡ y ∷ ys)) → (y : ℕ) × (ys : Word) × (left ≡ y ∷ ys)
  step-some n x p l xs left (Found c) e next = next c e
  step-some n x p l xs left (Last k) e next = (x, xs, sym (stopped-left e))
  step-some n x p l xs left Damaged e next = not-damaged e

  from_some : (xs : Word) (n p l : ℕ) (left : Word) → walk_from_by find t n xs ≡ stopped p l left → (y : ℕ) × (ys : Word) × (left ≡ y ∷ ys)
  unfolding walk_from_by
  from_some [] n p l left e = not_stopped e
  from_some (x ∷ xs) n p l left e = step-some n x p l xs left (find t n x) e (λ c f. from_some xs c p l left f)

  -- ---- from a root

  root-test : (b d : Bool) (v z : Walk) → pick (b && d) v damaged ≡ z → (damaged ≡ z → ⊥) → (b ≡ true) × (v ≡ z)
  root-test true true v z e f = (refl, e)
  root-test true false v z e f = absurd (f e)
  root-test false d v z e f = absurd (f e)

  module _ (root : ℕ) where
    from-root : (ys : Word) (z : Walk) → walk_by find t root ys ≡ z → (damaged ≡ z → ⊥) → (sound t root ≡ true) × (walk_from_by find t root ys ≡ z)
    unfolding walk_by
    from-root ys z e f = root-test (sound t root) (eqb (t.at root).parent root) (walk_from_by find t root ys) z e f

    pub stopped-some : (w : Word) (p l : ℕ) (left : Word) → walk_by find t root w ≡ stopped p l left → (y : ℕ) × (ys : Word) × (left ≡ y ∷ ys)
    stopped-some w p l left e = from_some w root p l left (from-root w (stopped p l left) e (λ z. not-damaged z)).1

    pub stopped-fewer : (w : Word) (p l : ℕ) (left : Word) → walk_by find t root w ≡ stopped p l left → length left ≤ length w
    stopped-fewer w p l left e = from-fewer w root p l left (from-root w (stopped p l left) e (λ z. not-damaged z)).1

    pub walks-pass : (u w : Word) (p' l' : ℕ) (left' : Word) (j : ℕ) → walk_by find t root u ≡ stopped p' l' left' → walk_by find t root w ≡ whole j → Passes u w left'
    walks-pass u w p' l' left' j x y =
        from-passes u w root p' l' left' j (from-root u (stopped p' l' left') x (λ z. not-damaged z)).1
        (from-root w (whole j) y (λ e. let z : ◌≡◌ {A = ℕ} 0 1 = cc in omega arith)).1

    module _ (within : root < t.nodes) where
      pub walks-stop : (u w : Word) (p' l' : ℕ) (left' : Word) (p l : ℕ) (left : Word) → walk_by find t root u ≡ stopped p' l' left' → walk_by find t root w ≡ stopped p l left → Stops u w p' left' p left
      walks-stop u w p' l' left' p l left x y =
          let i = from-root u (stopped p' l' left') x (λ e. not-damaged e) in
          from-stops u w root p' l' left' p l left within i.0 i.1 (from-root w (stopped p l left) y (λ e. not-damaged e)).1
