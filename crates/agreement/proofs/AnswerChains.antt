-- The chains of answers: they hold all answers exactly where they hold as many as there are.
use Prim.Native.Nat.{ℕ, zero, suc, ◌+◌, ◌≤◌, ◌<◌}
use mathlib.Core.Path.{◌≡◌, refl, sym, ap, ◌∙◌, subst}
use mathlib.Core.Bool.{Bool, true, false, ◌||◌, false≢true, or-true}
use mathlib.Core.List.{List, [], ◌∷◌, ◌++◌, map, head-eq_of_cons-eq}
use native.Mathlib.Omega.{arith}
use lib.Dec.{eqb}
use lib.ListN.{length, length-append}
use borrow.Author.Tests.{eqb-true, eqb-false, ne_eqb}
use Rattle.basis.specs.Choice.{pick}
use Rattle.basis.proofs.Cases.{by_cases}
use Rattle.forms.specs.Compact.{same}
use Rattle.forms.proofs.RoundTrip.{same_true, same_self}
use Rattle.plain.specs.Words.{Word, has}
use Rattle.plain.specs.Coding.{Coding}
use Rattle.plain.specs.Table.{after}
use Rattle.plain.proofs.WordLaws.{or_right, has-append}
use Rattle.plain.proofs.Keys.{Fresh}
use Rattle.plain.proofs.AfterLaws.{after-least, after-found}
use Rattle.store.specs.Views.{View}
use Rattle.agreement.specs.Whole.{up_to, chain, chains}
use Rattle.agreement.specs.Faults.{among, chained}
use Rattle.agreement.proofs.Pigeons.{no-more, fresh-append, fresh-cons}
use Rattle.agreement.proofs.RisingChains.{InChain, here, there, Rises, chain-most, chain_first, chain_next, after-above}

-- ---- numbers as words

abbrev one : ℕ → Word
one x = x ∷ []

abbrev words : List ℕ → List Word
words l = map one l

words_append : (l k : List ℕ) → words (l ++ k) ≡ words l ++ words k
words_append [] k = refl
words_append (x ∷ l) k = ap {B = List Word} (λ r. one x ∷ r) (words_append l k)

one_same : (x y : ℕ) → same (one x) (one y) ≡ true → x ≡ y
one_same x y e = head-eq_of_cons-eq (same_true (one x) (one y) e)

-- a word that is held is a number
words-one : (l : List ℕ) (y : Word) → has (words l) y ≡ true → (x : ℕ) × (y ≡ one x)
unfolding has
words-one [] y e = absurd (false≢true e)
words-one (x ∷ l) y e = by_cases (same (one x) y) (λ s. (x, sym (same_true (one x) y s))) (λ s. words-one l y (or_right (same (one x) y) (has (words l) y) e s))

among-has : (x : ℕ) (l : List ℕ) → among x l ≡ true → has (words l) (one x) ≡ true
unfolding among has
among-has x [] e = absurd (false≢true e)
among-has x (y ∷ l) e = by_cases (eqb y x)
    (λ q. let z : y ≡ x = eqb-true y x q in rw (z, same_self (one x)))
    (λ q. rw (among-has x l (or_right (eqb y x) (among x l) e q), or-true (same (one y) (one x))))

-- ---- 1 to n

numbers : ℕ → List Word
numbers n = up_to (λ i. one (suc i)) n

numbers-length : (n : ℕ) → length (numbers n) ≡ n
unfolding numbers up_to
numbers-length zero = refl
numbers-length (suc n) = length-append (numbers n) _ ∙ omega (arith, numbers-length n)

has_one : (x y : ℕ) → has (one x ∷ []) (one y) ≡ true → x ≡ y
unfolding has
has_one x y e = by_cases (same (one x) (one y)) (λ s. one_same x y s) (λ s. absurd (false≢true (sym (rw s) ∙ e)))

numbers-most : (n x : ℕ) → has (numbers n) (one x) ≡ true → (0 < x) × (x ≤ n)
unfolding numbers up_to
numbers-most zero x e = absurd (none e)
  where
    none : has [] (one x) ≡ true → ⊥
    none e = unfold has in false≢true e
numbers-most (suc n) x e = by_cases (has (numbers n) (one x))
    (λ h. let r = numbers-most n x h in (r.0, omega (arith, r.1)))
    (λ h. let z : suc n ≡ x = has_one (suc n) x (or_right (has (numbers n) (one x)) (has (one (suc n) ∷ []) (one x)) (sym (has-append (numbers n) (one (suc n) ∷ []) (one x)) ∙ e) h) in (omega arith, omega arith))

has-self : (x : ℕ) → has (one x ∷ []) (one x) ≡ true
unfolding has
has-self x = rw (same_self (one x))

numbers-all : (n x : ℕ) → 0 < x → x ≤ n → has (numbers n) (one x) ≡ true
unfolding numbers up_to
numbers-all zero x h k = absurd (omega arith)
numbers-all (suc n) x h k = has-append (numbers n) (one (suc n) ∷ []) (one x) ∙ by_cases (eqb x (suc n))
    (λ e. let z : x ≡ suc n = eqb-true _ _ e in rw (z, has-self (suc n), or-true (has (numbers n) (one (suc n)))))
    (λ e. rw (numbers-all n x h (lower (eqb-false _ _ e))))
  where
    lower : (x ≡ suc n → ⊥) → x ≤ n
    lower ne = omega arith

numbers-fresh : (n : ℕ) → Fresh (numbers n)
unfolding numbers up_to
numbers-fresh zero = unfold Fresh in tt
numbers-fresh (suc n) = fresh-append (numbers n) (one (suc n) ∷ []) (numbers-fresh n) (unfold Fresh has in (refl, tt)) apart
  where
    apart : (y : Word) → has (numbers n) y ≡ true → has (one (suc n) ∷ []) y ≡ false
    apart y e = by_cases (has (one (suc n) ∷ []) y)
        (λ h.
        let w = words-one (suc n ∷ []) y h in
        let z : suc n ≡ w.0 = has_one (suc n) w.0 (subst (λ (u : Word). has (one (suc n) ∷ []) u ≡ true) w.1 h) in
        let r = numbers-most n w.0 (subst (λ (u : Word). has (numbers n) u ≡ true) w.1 e) in
        absurd (omega (arith, r.1)))
        (λ h. h)

-- ---- the chains of a view

-- answer a is one of the view's
abbrev Valid : View → ℕ → Type 0
Valid v a = (0 < a) × (a ≤ v.answers)

-- what is asked of each answer and of each first one
pub record Chained (v : View) : Type 0 where
  pub owner-low : (a : ℕ) → 0 < a → a ≤ v.answers → 0 < (v.answer a).subgoal
  pub owner-high : (a : ℕ) → 0 < a → a ≤ v.answers → (v.answer a).subgoal ≤ v.subgoals
  pub next-own : (a : ℕ) → 0 < a → a ≤ v.answers → ((v.answer a).next ≡ 0 → ⊥) → (a < (v.answer a).next) × ((v.answer a).next ≤ v.answers) × ((v.answer (v.answer a).next).subgoal ≡ (v.answer a).subgoal)
  pub first-own : (s : ℕ) → 0 < s → s ≤ v.subgoals → ((v.subgoal s).first ≡ 0 → ⊥) → ((v.subgoal s).first ≤ v.answers) × ((v.answer (v.subgoal s).first).subgoal ≡ s)

module _ (c : Coding) (v : View) (R : Chained v) where
  abbrev A : ℕ
  A = v.answers

  abbrev next : ℕ → ℕ
  next a = (v.answer a).next

  -- the subgoal of an answer; there is no answer 0
  owner : ℕ → ℕ
  owner a = pick (eqb a 0) 0 (v.answer a).subgoal

  owner_of : (a : ℕ) → 0 < a → owner a ≡ (v.answer a).subgoal
  unfolding owner
  owner_of a h = rw (ne_eqb a 0 (λ z. omega arith))

  owned : (a s : ℕ) → 0 < s → owner a ≡ s → 0 < a
  unfolding owner
  owned zero s h e = absurd (omega arith)
  owned (suc a) s h e = omega arith

  some : (a : ℕ) → (a ≡ 0 → ⊥) → 0 < a
  some a h = omega arith

  rising : (s : ℕ) → 0 < s → Rises owner next (suc A) s
  rising s h = record {
    rises = λ a k e z.
        let p : 0 < a = owned a s h e in
        let q = R.next-own a p (omega arith) z in
        record { above = q.0; below = omega (arith, q.1); under = owner_of (next a) (omega (arith, q.0)) ∙ q.2 ∙ sym (owner_of a p) ∙ e };
  }

  first-owner : (s : ℕ) → 0 < s → s ≤ v.subgoals → ((v.subgoal s).first ≡ 0 → ⊥) → ((v.subgoal s).first < suc A) × (owner (v.subgoal s).first ≡ s)
  first-owner s h k z = let q = R.first-own s h k z in (omega (arith, q.0), owner_of (v.subgoal s).first (some _ z) ∙ q.1)

  -- all of a chain have one owner
  chain-owner : (s a x : ℕ) → 0 < s → a < suc A → owner a ≡ s → InChain next a x → (x < suc A) × (owner x ≡ s)
  chain-owner s a x h k e (here q) = (subst (λ (y : ℕ). y < suc A) q k, ap owner (sym q) ∙ e)
  chain-owner s a x h k e (there z q) = let f = (rising s h).rises a k e z in chain-owner s (next a) x h f.below f.under q

  -- ---- a chain as a list

  chain-none : (k : ℕ) → chain c v k 0 ≡ []
  unfolding chain
  chain-none zero = refl
  chain-none (suc k) = refl

  chain-cons : (k a : ℕ) → (a ≡ 0 → ⊥) → chain c v (suc k) a ≡ a ∷ chain c v k (next a)
  unfolding chain
  chain-cons k a ne = rw (ne_eqb a 0 ne)

  no_word : (y : Word) → has [] y ≡ true → ⊥
  unfolding has
  no_word y e = false≢true e

  has-cons : (x : Word) (l : List Word) (y : Word) → has (x ∷ l) y ≡ (same x y || has l y)
  unfolding has
  has-cons x l y = refl

  chain-member : (k a x : ℕ) → has (words (chain c v k a)) (one x) ≡ true → (a ≡ 0 → ⊥) × InChain next a x
  chain-member zero a x e = absurd (no_word (one x) (unfold chain in e))
  chain-member (suc k) a x e = by_cases (eqb a 0)
      (λ z. absurd (no_word (one x) (subst (λ (l : List ℕ). has (words l) (one x) ≡ true) (ap (chain c v (suc k)) (eqb-true a 0 z) ∙ chain-none (suc k)) e)))
      (λ z.
      let ne : a ≡ 0 → ⊥ = eqb-false a 0 z in
      let f : (same (one a) (one x) || has (words (chain c v k (next a))) (one x)) ≡ true =
      sym (has-cons (one a) (words (chain c v k (next a))) (one x)) ∙ subst (λ (l : List ℕ). has (words l) (one x) ≡ true) (chain-cons k a ne) e in (
        ne,
        by_cases (same (one a) (one x))
            (λ s. here (one_same a x s))
            (λ s. let r = chain-member k (next a) x (or_right (same (one a) (one x)) (has (words (chain c v k (next a))) (one x)) f s) in there r.0 r.1),
      ))

  chain-fresh : (k s a : ℕ) → 0 < s → ((a ≡ 0 → ⊥) → (a < suc A) × (owner a ≡ s)) → Fresh (words (chain c v k a))
  chain-fresh zero s a h o = unfold chain Fresh in tt
  chain-fresh (suc k) s a h o = by_cases (eqb a 0)
      (λ z. subst (λ (l : List ℕ). Fresh (words l)) (sym (ap (chain c v (suc k)) (eqb-true a 0 z) ∙ chain-none (suc k))) (unfold Fresh in tt))
      (λ z.
      let ne : a ≡ 0 → ⊥ = eqb-false a 0 z in
      let b = o ne in
      subst (λ (l : List ℕ). Fresh (words l)) (sym (chain-cons k a ne))
      (fresh-cons (one a) (words (chain c v k (next a))) (absent (has (words (chain c v k (next a))) (one a)) refl b)
      (chain-fresh k s (next a) h (λ y. let f = (rising s h).rises a b.0 b.1 y in (f.below, f.under)))))
    where
      absent : (t : Bool) → has (words (chain c v k (next a))) (one a) ≡ t → (a < suc A) × (owner a ≡ s) → has (words (chain c v k (next a))) (one a) ≡ false
      absent false e b = e
      absent true e b =
          let r = chain-member k (next a) a e in
          let f = (rising s h).rises a b.0 b.1 r.0 in
          let m = chain-most owner next (suc A) s (rising s h) (next a) a f.below f.under r.1 in
          absurd (omega (arith, f.above))

  -- ---- the chains of the subgoals

  chains-suc : (n : ℕ) → words (chains c v (suc n)) ≡ words (chains c v n) ++ words (chain c v A (v.subgoal (suc n)).first)
  unfolding chains
  chains-suc n = words_append (chains c v n) (chain c v A (v.subgoal (suc n)).first)

  -- x is in the chain of its owner, one of the first n subgoals
  record Held (n x : ℕ) : Type 0 where
    valid : x < suc A
    low : 0 < owner x
    high : owner x ≤ n
    starts : (v.subgoal (owner x)).first ≡ 0 → ⊥
    reached : InChain next (v.subgoal (owner x)).first x

  held_in : (n x : ℕ) → n < v.subgoals → has (words (chain c v A (v.subgoal (suc n)).first)) (one x) ≡ true → Held (suc n) x
  held_in n x k e =
      let r = chain-member A (v.subgoal (suc n)).first x e in
      let o = first-owner (suc n) (omega arith) k r.0 in
      let p = chain-owner (suc n) (v.subgoal (suc n)).first x (omega arith) o.0 o.1 r.1 in
      record {
        valid = p.0;
        low = omega (arith, p.1);
        high = omega (arith, p.1);
        starts = subst (λ (s : ℕ). (v.subgoal s).first ≡ 0 → ⊥) (sym p.1) r.0;
        reached = subst (λ (s : ℕ). InChain next (v.subgoal s).first x) (sym p.1) r.1;
      }

  held_more : (n x : ℕ) → Held n x → Held (suc n) x
  held_more n x h = record { valid = h.valid; low = h.low; high = omega (arith, h.high); starts = h.starts; reached = h.reached }

  chains-member : (n x : ℕ) → n ≤ v.subgoals → has (words (chains c v n)) (one x) ≡ true → Held n x
  chains-member zero x k e = absurd (no_word (one x) (unfold chains in e))
  chains-member (suc n) x k e =
      let f : (has (words (chains c v n)) (one x) || has (words (chain c v A (v.subgoal (suc n)).first)) (one x)) ≡ true =
      sym (has-append (words (chains c v n)) (words (chain c v A (v.subgoal (suc n)).first)) (one x)) ∙ subst (λ (l : List Word). has l (one x) ≡ true) (chains-suc n) e in
      by_cases (has (words (chains c v n)) (one x))
      (λ h. held_more n x (chains-member n x (omega arith) h))
      (λ h. held_in n x k (or_right (has (words (chains c v n)) (one x)) _ f h))

  chains-fresh : (n : ℕ) → n ≤ v.subgoals → Fresh (words (chains c v n))
  chains-fresh zero k = unfold chains Fresh in tt
  chains-fresh (suc n) k = subst Fresh (sym (chains-suc n))
      (fresh-append (words (chains c v n)) (words (chain c v A (v.subgoal (suc n)).first)) (chains-fresh n (omega arith))
      (chain-fresh A (suc n) (v.subgoal (suc n)).first (omega arith) (first-owner (suc n) (omega arith) k)) apart)
    where
      apart : (y : Word) → has (words (chains c v n)) y ≡ true → has (words (chain c v A (v.subgoal (suc n)).first)) y ≡ false
      apart y e = by_cases (has (words (chain c v A (v.subgoal (suc n)).first)) y)
          (λ h.
          let w = words-one (chains c v n) y e in
          let p = chains-member n w.0 (omega arith) (subst (λ (u : Word). has (words (chains c v n)) u ≡ true) w.1 e) in
          let r = chain-member A (v.subgoal (suc n)).first w.0 (subst (λ (u : Word). has (words (chain c v A (v.subgoal (suc n)).first)) u ≡ true) w.1 h) in
          let o = first-owner (suc n) (omega arith) k r.0 in
          let q = chain-owner (suc n) (v.subgoal (suc n)).first w.0 (omega arith) o.0 o.1 r.1 in
          absurd (omega (arith, p.high, q.1)))
          (λ h. h)

  inside : (y : Word) → has (words (chains c v v.subgoals)) y ≡ true → has (numbers A) y ≡ true
  inside y e =
      let w = words-one (chains c v v.subgoals) y e in
      let p = chains-member v.subgoals w.0 (omega arith) (subst (λ (u : Word). has (words (chains c v v.subgoals)) u ≡ true) w.1 e) in
      let q : 0 < w.0 = owned w.0 (owner w.0) p.low refl in
      let m : w.0 ≤ A = below p.valid in
      subst (λ (u : Word). has (numbers A) u ≡ true) (sym w.1) (numbers-all A w.0 q m)
    where
      below : {x : ℕ} → x < suc A → x ≤ A
      below h = omega arith

  words-length : (l : List ℕ) → length (words l) ≡ length l
  words-length [] = refl
  words-length (x ∷ l) = ap suc (words-length l)

  -- ---- as many as there are: then all

  pub all_held : length (chains c v v.subgoals) ≡ A → (a : ℕ) → 0 < a → a ≤ A → has (words (chains c v v.subgoals)) (one a) ≡ true
  all_held count a h k = by_cases (has (words (chains c v v.subgoals)) (one a))
      (λ e. e)
      (λ e.
      let m = no-more (one a ∷ words (chains c v v.subgoals)) (numbers A) (unfold Fresh in (e, chains-fresh v.subgoals (omega arith))) (covered e) in
      absurd (omega (arith, words-length (chains c v v.subgoals), numbers-length A)))
    where
      covered : has (words (chains c v v.subgoals)) (one a) ≡ false → (y : Word) → has (one a ∷ words (chains c v v.subgoals)) y ≡ true → has (numbers A) y ≡ true
      covered e y q = by_cases (same (one a) y)
          (λ s. subst (λ (u : Word). has (numbers A) u ≡ true) (same_true (one a) y s) (numbers-all A a h k))
          (λ s. inside y (or_right (same (one a) y) _ (sym (has-cons (one a) (words (chains c v v.subgoals)) y) ∙ q) s))

  chains-grow : (n : ℕ) (y : Word) → has (words (chains c v n)) y ≡ true → has (words (chains c v (suc n))) y ≡ true
  chains-grow n y e = subst (λ (l : List Word). has l y ≡ true) (sym (chains-suc n)) (has-append (words (chains c v n)) _ y ∙ rw e)

  in-chains : (n s a : ℕ) → 0 < s → s ≤ n → has (words (chain c v A (v.subgoal s).first)) (one a) ≡ true → has (words (chains c v n)) (one a) ≡ true
  in-chains zero s a h k e = absurd (omega arith)
  in-chains (suc n) s a h k e = by_cases (eqb s (suc n))
      (λ z.
      let q : s ≡ suc n = eqb-true _ _ z in
      subst (λ (l : List Word). has l (one a) ≡ true) (sym (chains-suc n))
      (has-append (words (chains c v n)) (words (chain c v A (v.subgoal (suc n)).first)) (one a)
      ∙ rw (subst (λ (x : ℕ). has (words (chain c v A (v.subgoal x).first)) (one a) ≡ true) q e, or-true (has (words (chains c v n)) (one a)))))
      (λ z. chains-grow n (one a) (in-chains n s a h (lower (eqb-false _ _ z)) e))
    where
      lower : (s ≡ suc n → ⊥) → s ≤ n
      lower ne = omega arith

  -- ---- all: then as many as there are

  pub all-counted : ((a : ℕ) → 0 < a → a ≤ A → has (words (chains c v v.subgoals)) (one a) ≡ true) → length (chains c v v.subgoals) ≡ v.answers
  all-counted each =
      let l = no-more (words (chains c v v.subgoals)) (numbers A) (chains-fresh v.subgoals (omega arith)) inside in
      let m = no-more (numbers A) (words (chains c v v.subgoals)) (numbers-fresh A) back in
      omega (arith, words-length (chains c v v.subgoals), numbers-length A)
    where
      number_of : (n : ℕ) (y : Word) → has (numbers n) y ≡ true → (x : ℕ) × (y ≡ one x)
      number_of zero y e = absurd (no_word y (unfold numbers up_to in e))
      number_of (suc n) y e = by_cases (has (numbers n) y)
          (λ h. number_of n y h)
          (λ h. words-one (suc n ∷ []) y (or_right (has (numbers n) y) (has (one (suc n) ∷ []) y) (sym (has-append (numbers n) (one (suc n) ∷ []) y) ∙ (unfold numbers up_to in e)) h))

      back : (y : Word) → has (numbers A) y ≡ true → has (words (chains c v v.subgoals)) y ≡ true
      back y e =
          let w = number_of A y e in
          let r = numbers-most A w.0 (subst (λ (u : Word). has (numbers A) u ≡ true) w.1 e) in
          subst (λ (u : Word). has (words (chains c v v.subgoals)) u ≡ true) (sym w.1) (each w.0 r.0 r.1)

  -- an answer on the chain of its subgoal is on one of the chains
  pub chained-listed : (a : ℕ) → 0 < a → a ≤ A → chained c v a ≡ true → has (words (chains c v v.subgoals)) (one a) ≡ true
  unfolding chained
  chained-listed a h k e =
      in-chains v.subgoals (v.answer a).subgoal a (R.owner-low a h k) (R.owner-high a h k)
      (among-has a (chain c v A (v.subgoal (v.answer a).subgoal).first) e)

  -- ---- and back

  -- the next ones are those that come next
  module _ (firsts : (s : ℕ) → 0 < s → s ≤ v.subgoals → (v.subgoal s).first ≡ after (λ b. (v.answer b).subgoal) (suc A) 0 s)
      (nexts : (a : ℕ) → 0 < a → a ≤ A → next a ≡ after (λ b. (v.answer b).subgoal) (suc A) a (v.answer a).subgoal) where
    listed : (k b a : ℕ) → 0 < b → b ≤ a → a ≤ A → (v.answer b).subgoal ≡ (v.answer a).subgoal → A < k + b → has (words (chain c v k b)) (one a) ≡ true
    listed zero b a h l m e f = absurd (omega arith)
    listed (suc k) b a h l m e f =
        let ne : b ≡ 0 → ⊥ = λ z. omega arith in
        subst (λ (x : List ℕ). has (words x) (one a) ≡ true) (sym (chain-cons k b ne)) (has-cons (one b) (words (chain c v k (next b))) (one a) ∙ by_cases (eqb b a)
        (λ z. let q : b ≡ a = eqb-true b a z in rw (q, same_self (one a)))
        (λ z.
        let n = after-least (λ x. (v.answer x).subgoal) (suc A) b (v.answer b).subgoal a (record { above = strict l (eqb-false b a z); below = omega arith; under = sym e }) in
        let q : next b ≡ after (λ x. (v.answer x).subgoal) (suc A) b (v.answer b).subgoal = nexts b h (omega arith) in
        let o = after-found (λ x. (v.answer x).subgoal) (suc A) b (v.answer b).subgoal n.0 in
        let r : has (words (chain c v k (next b))) (one a) ≡ true =
        listed k (next b) a (omega (arith, o.above)) (omega (arith, n.1)) m (ap (λ (x : ℕ). (v.answer x).subgoal) q ∙ o.under ∙ e) (omega (arith, o.above)) in
        rw (r, or-true (same (one b) (one a)))))
      where
        strict : b ≤ a → (b ≡ a → ⊥) → b < a
        strict h k = omega arith

    each-listed : (a : ℕ) → 0 < a → a ≤ A → has (words (chains c v v.subgoals)) (one a) ≡ true
    each-listed a h k =
        let s : ℕ = (v.answer a).subgoal in
        let low = R.owner-low a h k in
        let high = R.owner-high a h k in
        let n = after-least (λ x. (v.answer x).subgoal) (suc A) 0 s a (record { above = h; below = omega arith; under = refl }) in
        let o = after-found (λ x. (v.answer x).subgoal) (suc A) 0 s n.0 in
        let q = firsts s low high in
        in-chains v.subgoals s a low high
        (listed A (v.subgoal s).first a (omega (arith, o.above)) (omega (arith, n.1)) k (ap (λ (x : ℕ). (v.answer x).subgoal) q ∙ o.under) (omega (arith, o.above)))

    pub as_many : length (chains c v v.subgoals) ≡ v.answers
    as_many = all-counted each-listed

  -- ---- what the chains give, where they hold all

  module _ (count : length (chains c v v.subgoals) ≡ v.answers) where
    reached-from : (s a : ℕ) → 0 < s → owner a ≡ s → a < suc A → ((v.subgoal s).first ≡ 0 → ⊥) × InChain next (v.subgoal s).first a
    reached-from s a h e k =
        let p = chains-member v.subgoals a (omega arith) (all_held count a (owned a s h e) (omega arith)) in
        (subst (λ (x : ℕ). (v.subgoal x).first ≡ 0 → ⊥) e p.starts, subst (λ (x : ℕ). InChain next (v.subgoal x).first a) e p.reached)

    owners : (i x : ℕ) → after owner (suc A) i x ≡ after (λ b. (v.answer b).subgoal) (suc A) i x
    owners i x = after-above owner (λ b. (v.answer b).subgoal) (suc A) i x (λ j h k. owner_of j (omega arith))

    pub chains-first : (s : ℕ) → 0 < s → s ≤ v.subgoals → (v.subgoal s).first ≡ after (λ b. (v.answer b).subgoal) (suc v.answers) 0 s
    chains-first s h k =
        chain_first owner next (suc A) s (rising s h) 0 (v.subgoal s).first
        (λ z. let o = first-owner s h k z in record { above = some _ z; below = o.0; under = o.1 })
        (λ a f. reached-from s a h f.under f.below)
        ∙ owners 0 s

    pub chains-next : (a : ℕ) → 0 < a → a ≤ v.answers → (v.answer a).next ≡ after (λ b. (v.answer b).subgoal) (suc v.answers) a (v.answer a).subgoal
    chains-next a h k =
        let s : ℕ = (v.answer a).subgoal in
        let low = R.owner-low a h k in
        let high = R.owner-high a h k in
        let r = reached-from s a low (owner_of a h) (omega arith) in
        let o = first-owner s low high r.0 in
        chain_next owner next (suc A) s (rising s low) (v.subgoal s).first a o.0 o.1 r.1 (omega arith) (owner_of a h) (λ j f. (reached-from s j low f.under f.below).1)
        ∙ owners a s
