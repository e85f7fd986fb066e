-- Laws of finding a record by its form: where it is not there, where it is, and when one more is appended.
use mathlib.Core.Path.{◌≡◌, refl, sym, ap, ◌∙◌, subst}
use mathlib.Core.Bool.{Bool, true, false, ◌||◌, false≢true, true≢false}
use mathlib.Core.List.{List, [], ◌∷◌, ◌++◌}
use Prim.Native.Nat.{ℕ, zero, suc, ◌+◌, ◌-◌, ◌≤◌, ◌<◌}
use native.Mathlib.Omega.{arith}
use lib.Dec.{eqb}
use lib.ListN.{length, get_or}
use borrow.Author.Tests.{eqb-true, eqb-false}
use Rattle.basis.specs.Choice.{pick}
use Rattle.basis.proofs.Cases.{by_cases}
use Rattle.forms.specs.Compact.{same}
use Rattle.forms.proofs.RoundTrip.{same_true}
use Rattle.plain.specs.Words.{Word, has}
use Rattle.plain.specs.Requests.{Open}
use Rattle.plain.specs.Table.{Table, Subgoal, Answer, no_subgoal, no_answer, subgoal_at, answer_at, subgoal_of_answer, called_forms, answers_to, number, subgoal_of, answer_of, with_subgoal, with_answer}
use Rattle.plain.proofs.WordLaws.{or_right, or-false-both}

-- ---- any records

module _ {R : Type 0} (test : R → Bool) where
  -- whether the test holds of some record
  unfoldable pub holds : List R → Bool
  holds [] = false
  holds (r ∷ rs) = test r || holds rs

  pub number-none : (n : ℕ) (rs : List R) → holds rs ≡ false → number test n rs ≡ 0
  unfolding holds number
  number-none n [] e = refl
  number-none n (r ∷ rs) e = let b = or-false-both (test r) (holds rs) e in rw b.0 (number-none (suc n) rs b.1)

  -- k is the number of a record of which the test holds
  pub record Numbered (n : ℕ) (rs : List R) (d : R) (k : ℕ) : Type 0 where
    pub low : n ≤ k
    pub high : k < n + length rs
    pub passes : test (get_or rs (k - n) d) ≡ true

  pub number-some : (n : ℕ) (rs : List R) (d : R) → holds rs ≡ true → Numbered n rs d (number test n rs)
  unfolding holds number
  number-some n [] d e = absurd (false≢true e)
  number-some n (r ∷ rs) d e = by_cases (test r)
      (λ p. rw p (record { low = omega arith; high = omega arith; passes = rw (self n) p }))
      (λ p. let w = number-some (suc n) rs d (or_right (test r) (holds rs) e p) in
      rw p (record {
        low = omega (arith, w.low);
        high = omega (arith, w.high);
        passes = subst (λ (i : ℕ). test (get_or (r ∷ rs) i d) ≡ true) (less (number test (suc n) rs) n w.low) w.passes;
      }))
    where
      self : (n : ℕ) → n - n ≡ 0
      self n = omega arith

      less : (k n : ℕ) → suc n ≤ k → suc (k - suc n) ≡ k - n
      less k n h = omega arith

  -- it holds of none before
  pub number-before : (n : ℕ) (rs : List R) (d : R) (i : ℕ) → n ≤ i → i < number test n rs → test (get_or rs (i - n) d) ≡ false
  unfolding number
  number-before n [] d i h k = absurd (omega arith)
  number-before n (r ∷ rs) d i h k = by_cases (test r)
      (λ p. absurd (below (rw p at k)))
      (λ p. by_cases (eqb i n)
      (λ e. rw (first (eqb-true i n e)) p)
      (λ e. subst (λ (j : ℕ). test (get_or (r ∷ rs) j d) ≡ false) (later (eqb-false i n e)) (number-before (suc n) rs d i (over (eqb-false i n e)) (rw p at k))))
    where
      below : i < n → ⊥
      below l = omega arith

      first : i ≡ n → i - n ≡ 0
      first e = omega arith

      later : (i ≡ n → ⊥) → suc (i - suc n) ≡ i - n
      later e = omega arith

      over : (i ≡ n → ⊥) → suc n ≤ i
      over e = omega arith

  -- a record more, of which the test holds only where it holds of no other
  pub number-snoc : (n : ℕ) (rs : List R) (r : R) → (test r ≡ true → holds rs ≡ false) → 0 < n
      → number test n (rs ++ (r ∷ [])) ≡ pick (test r) (n + length rs) (number test n rs)
  unfolding holds number
  number-snoc n [] r h pos = by_cases (test r) (λ e. rw e (omega arith)) (λ e. rw e)
  number-snoc n (x ∷ rs) r h pos = by_cases (test x)
      (λ p. by_cases (test r)
      (λ e. absurd (true≢false (sym p ∙ (or-false-both (test x) (holds rs) (h e)).0)))
      (λ e. rw (p, e)))
      (λ p. let w = number-snoc (suc n) rs r (λ e. (or-false-both (test x) (holds rs) (h e)).1) (omega arith) in
      rw p (w ∙ by_cases (test r) (λ e. rw e (omega arith)) (λ e. rw e)))

-- records of which two tests say the same
pub number_same : {R : Type 0} (test other : R → Bool) (n : ℕ) (rs : List R) → ((r : R) → test r ≡ other r) → number test n rs ≡ number other n rs
unfolding number
number_same test other n [] e = refl
number_same test other n (r ∷ rs) e = rw (e r, number_same test other (suc n) rs e)

-- records behind change nothing where the test holds already
pub number-kept : {R : Type 0} (test : R → Bool) (n : ℕ) (rs qs : List R) → holds test rs ≡ true → number test n (rs ++ qs) ≡ number test n rs
unfolding holds number
number-kept test n [] qs e = absurd (false≢true e)
number-kept test n (r ∷ rs) qs e = by_cases (test r) (λ p. rw p) (λ p. rw p (number-kept test (suc n) rs qs (or_right (test r) (holds test rs) e p)))

-- records are numbered from 1
pub get_or-from-one : {R : Type 0} (rs : List R) (x d : R) (k : ℕ) → 0 < k → get_or (x ∷ rs) k d ≡ get_or rs (k - 1) d
get_or-from-one rs x d zero h = absurd (omega arith)
get_or-from-one rs x d (suc k) h = ap (λ (i : ℕ). get_or rs i d) (less k)
  where
    less : (k : ℕ) → k ≡ suc k - 1
    less k = omega arith

-- ---- subgoals

holds-called : (gs : List Subgoal) (w : Word) → holds (λ g. same g.form w) gs ≡ has (called_forms gs) w
unfolding holds has
holds-called [] w = refl
holds-called (g ∷ gs) w = rw (holds-called gs w)

-- s is the number of the subgoal of form w
pub record Called (t : Table) (w : Word) (s : ℕ) : Type 0 where
  pub low : 0 < s
  pub high : s ≤ length t.subgoals
  pub form : (subgoal_at t s).form ≡ w

pub subgoal_of-none : (t : Table) (w : Word) → has (called_forms t.subgoals) w ≡ false → subgoal_of t w ≡ 0
unfolding subgoal_of
subgoal_of-none t w e = number-none (λ g. same g.form w) 1 t.subgoals (holds-called t.subgoals w ∙ e)

pub subgoal_of-some : (t : Table) (w : Word) → has (called_forms t.subgoals) w ≡ true → Called t w (subgoal_of t w)
unfolding subgoal_of subgoal_at
subgoal_of-some t w e =
    let test : Subgoal → Bool = λ g. same g.form w in
    let r = number-some test 1 t.subgoals no_subgoal (holds-called t.subgoals w ∙ e) in
    let k : ℕ = number test 1 t.subgoals in
    let low : 0 < k = omega (arith, r.low) in
    record {
      low = low;
      high = omega (arith, r.high);
      form = ap (λ (g : Subgoal). g.form) (get_or-from-one t.subgoals no_subgoal no_subgoal k low) ∙ same_true _ w r.passes;
    }

pub subgoal_of-new : (t : Table) (w v : Word) (m : ℕ) → has (called_forms t.subgoals) w ≡ false
    → subgoal_of (with_subgoal t w m) v ≡ pick (same w v) (suc (length t.subgoals)) (subgoal_of t v)
unfolding subgoal_of
subgoal_of-new t w v m e =
    number-snoc (λ g. same g.form v) 1 t.subgoals (record { form = w; m = m; state = Open })
    (λ s. holds-called t.subgoals v ∙ subst (λ (x : Word). has (called_forms t.subgoals) x ≡ false) (same_true w v s) e) (omega arith)
    ∙ ap (λ (n : ℕ). pick (same w v) n (number (λ g. same g.form v) 1 t.subgoals)) (one (length t.subgoals))
  where
    one : (n : ℕ) → 1 + n ≡ suc n
    one n = omega arith

-- ---- answers

-- an answer of form w to subgoal s
abbrev is_answer : ℕ → Word → Answer → Bool
is_answer s w a = pick (eqb a.subgoal s) (same a.form w) false

holds-answer : (l : List Answer) (s : ℕ) (w : Word) → holds (is_answer s w) l ≡ has (answers_to l s) w
unfolding holds has answers_to
holds-answer [] s w = refl
holds-answer (a ∷ l) s w = by_cases (eqb a.subgoal s) (λ e. rw (e, holds-answer l s w)) (λ e. rw (e, holds-answer l s w))

is_answer-parts : (s : ℕ) (w : Word) (a : Answer) → is_answer s w a ≡ true → (a.subgoal ≡ s) × (a.form ≡ w)
is_answer-parts s w a e = by_cases (eqb a.subgoal s)
    (λ p. (eqb-true _ _ p, same_true _ _ (rw p at e)))
    (λ p. absurd (false≢true (rw p at e)))

-- a is the number of the answer of form w to subgoal s
pub record Given (t : Table) (s : ℕ) (w : Word) (a : ℕ) : Type 0 where
  pub low : 0 < a
  pub high : a ≤ length t.answers
  pub subgoal : subgoal_of_answer t a ≡ s
  pub form : (answer_at t a).form ≡ w

pub answer_of-none : (t : Table) (s : ℕ) (w : Word) → has (answers_to t.answers s) w ≡ false → answer_of t s w ≡ 0
unfolding answer_of
answer_of-none t s w e = number-none (is_answer s w) 1 t.answers (holds-answer t.answers s w ∙ e)

pub answer_of-some : (t : Table) (s : ℕ) (w : Word) → has (answers_to t.answers s) w ≡ true → Given t s w (answer_of t s w)
unfolding answer_of answer_at
answer_of-some t s w e =
    let r = number-some (is_answer s w) 1 t.answers no_answer (holds-answer t.answers s w ∙ e) in
    let k : ℕ = number (is_answer s w) 1 t.answers in
    let low : 0 < k = omega (arith, r.low) in
    let p = is_answer-parts s w _ r.passes in
    let q = get_or-from-one t.answers no_answer no_answer k low in
    record {
      low = low;
      high = omega (arith, r.high);
      subgoal = ap (λ (a : Answer). a.subgoal) q ∙ p.0;
      form = ap (λ (a : Answer). a.form) q ∙ p.1;
    }

pub answer_of-new : (t : Table) (s : ℕ) (w : Word) (x : ℕ) (v : Word) → has (answers_to t.answers s) w ≡ false
    → answer_of (with_answer t s w) x v ≡ pick (eqb s x) (pick (same w v) (suc (length t.answers)) (answer_of t x v)) (answer_of t x v)
unfolding answer_of
answer_of-new t s w x v e =
    let r : Answer = record { subgoal = s; form = w } in
    number-snoc (is_answer x v) 1 t.answers r
    (λ p. let q = is_answer-parts x v r p in
    holds-answer t.answers x v ∙ subst (λ (y : Word). has (answers_to t.answers x) y ≡ false) q.1 (subst (λ (y : ℕ). has (answers_to t.answers y) w ≡ false) q.0 e))
    (omega arith)
    ∙ by_cases (eqb s x) (λ p. by_cases (same w v) (λ q. rw (p, q) (omega arith)) (λ q. rw (p, q))) (λ p. rw p)
