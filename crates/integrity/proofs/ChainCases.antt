-- A law for each case of walking the chains of answers.
use Prim.Native.Nat.{ℕ, zero, suc, ◌+◌, ◌-◌, ◌<◌, ◌≤◌}
use mathlib.Core.Path.{◌≡◌, refl, sym, ap, ◌∙◌}
use mathlib.Core.Bool.{Bool, true, false, ◌||◌, or-true}
use mathlib.Core.List.{List, [], ◌∷◌, ◌++◌, append_assoc, append-nil}
use native.Mathlib.Omega.{arith}
use native.Mathlib.Numerals.{add-one}
use lib.Dec.{eqb}
use lib.ListN.{length, length-append}
use borrow.Author.Tests.{eq-eqb, ne_eqb, eqb-true, eqb-false}
use Rattle.basis.proofs.Cases.{by_cases}
use Rattle.plain.specs.Coding.{Coding, coding_of}
use Rattle.space.specs.Sound.{subgoal_under, answer_under}
use Rattle.space.specs.declared.tables.Table.{Table}
use Rattle.space.specs.declared.Subgoal.{Subgoal}
use Rattle.space.specs.declared.Answer.{Answer}
use Rattle.store.specs.Views.{View}
use Rattle.store.specs.Clauses.{view_at}
use Rattle.agreement.specs.Whole.{chain, chains}
use Rattle.agreement.specs.Faults.{among, chained}
use Rattle.agreement.proofs.WholeTests.{EndsFacts, no-ends, both_ends, AnswerLocal, subgoal-local, answer-local, from_one}
use Rattle.integrity.specs.Tests.{subgoal_test, answer_test, ChainsWhole, ChainCounted, ChainSearched, chained_in}

-- ---- numbers in a list

among-append : (x : ℕ) (l k : List ℕ) → among x (l ++ k) ≡ (among x l || among x k)
unfolding among
among-append x [] k = refl
among-append x (y ∷ l) k = by_cases (eqb y x) (λ e. rw e) (λ e. rw e (among-append x l k))

among_one : (x y : ℕ) → (y ≡ x → ⊥) → among x (y ∷ []) ≡ false
unfolding among
among_one x y o = rw (ne_eqb y x o)

among_first : (x y : ℕ) (l : List ℕ) → y ≡ x → among x (y ∷ l) ≡ true
unfolding among
among_first x y l e = rw (eq-eqb y x e)

-- ---- a chain

module _ (c : Coding) (v : View) where
  chain-none : (k a : ℕ) → a ≡ 0 → chain c v k a ≡ []
  unfolding chain
  chain-none zero a e = refl
  chain-none (suc k) a e = rw (eq-eqb a 0 e)

  chain-some : (k a : ℕ) → (a ≡ 0 → ⊥) → chain c v (suc k) a ≡ a ∷ chain c v k (v.answer a).next
  unfolding chain
  chain-some k a z = rw (ne_eqb a 0 z)

  pub chains-none : length (chains c v 0) ≡ 0
  unfolding chains
  chains-none = refl

  pub chains-more : (n : ℕ) → length (chains c v (suc n)) ≡ length (chains c v n) + length (chain c v v.answers (v.subgoal (suc n)).first)
  unfolding chains
  chains-more n = length-append (chains c v n) _

abbrev pub chain_in : Table → ℕ → ℕ → List ℕ
chain_in t steps a = chain (coding_of t.head.edition) (view_at t) steps a

-- what is known of the answers that records name
module _ (t : Table) (w : ChainsWhole t) where
  pub answer-named : (a : ℕ) → 1 ≤ a → a ≤ t.head.answers → AnswerLocal (coding_of t.head.edition) (view_at t) a
  answer-named a l k =
      answer-local (coding_of t.head.edition) (view_at t) a
      (from_one (coding_of t.head.edition) (view_at t) (answer_test t) t.head.answers w.1 a l k)

  pub owner-named : (a : ℕ) → 1 ≤ a → a ≤ t.head.answers → (y : Answer) → y ≡ answer_under t.cells.now t.head a → (1 ≤ y.subgoal) × (y.subgoal ≤ t.head.subgoals)
  owner-named a l k y e = let n = answer-named a l k in rw e (n.low, n.high)

  first_of : (s first last : ℕ) → EndsFacts (view_at t) s → first ≡ ((view_at t).subgoal s).first → first ≤ t.head.answers
  first_of s first last (no-ends l f) e = omega (arith, e ∙ f)
  first_of s first last (both_ends p q o x y z n) e = omega arith

  pub first-named : (s : ℕ) → 1 ≤ s → s ≤ t.head.subgoals → (g : Subgoal) → g ≡ subgoal_under t.cells.now t.head s → g.first ≤ t.head.answers
  first-named s l k g e =
      first_of s g.first 0
      (subgoal-local (coding_of t.head.edition) (view_at t) s
      (from_one (coding_of t.head.edition) (view_at t) (subgoal_test t) t.head.subgoals w.0 s l k)).ends
      (ap (λ (x : Subgoal). x.first) e)

-- the answers before a on the chain from `first` on were passed; the steps suffice for the rest
pub record Along (t : Table) (first a : ℕ) : Type 0 where
  pub passed : List ℕ
  pub steps : ℕ
  pub rest : chain_in t t.head.answers first ≡ passed ++ chain_in t steps a
  pub together : length passed + steps ≡ t.head.answers
  pub suffice : (a ≡ 0 → ⊥) → t.head.answers < steps + a
  pub within : a ≤ t.head.answers

module _ (t : Table) (first : ℕ) where
  pub along-begin : first ≤ t.head.answers → Along t first first
  along-begin l = record { passed = []; steps = t.head.answers; rest = refl; together = omega arith; suffice = λ z. omega arith; within = l }

  module _ {a : ℕ} (p : Along t first a) where
    pub along-ended : a ≡ 0 → chain_in t t.head.answers first ≡ p.passed
    along-ended z =
        p.rest ∙ ap (λ (l : List ℕ). p.passed ++ l) (chain-none (coding_of t.head.edition) (view_at t) p.steps a z) ∙ append-nil p.passed

    pub passed-most : length p.passed ≤ t.head.answers
    passed-most = omega (arith, p.together)

    module _ (z : a ≡ 0 → ⊥) where
      one-step : p.steps ≡ suc (p.steps - 1)
      one-step = let k = p.suffice z in let l = p.within in omega arith

      pub passed-less : length p.passed < t.head.answers
      passed-less = omega (arith, p.together, one-step)

      pub along-here : chain_in t t.head.answers first ≡ p.passed ++ (a ∷ chain_in t (p.steps - 1) ((view_at t).answer a).next)
      along-here =
          p.rest ∙ ap (λ (k : ℕ). p.passed ++ chain_in t k a) one-step
          ∙ ap (λ (l : List ℕ). p.passed ++ l) (chain-some (coding_of t.head.edition) (view_at t) (p.steps - 1) a z)

      module _ (w : ChainsWhole t) (y : Answer) (e : y ≡ answer_under t.cells.now t.head a) where
        pub next-rises : (y.next ≡ 0 → ⊥) → a < y.next
        next-rises o =
            let f : y.next ≡ ((view_at t).answer a).next = ap (λ (x : Answer). x.next) e in
            let l : a ≤ t.head.answers = p.within in
            let n = (answer-named t w a (omega arith) l).next-own (λ x. o (f ∙ x)) in
            omega (arith, n.0)

        next-most : y.next ≤ t.head.answers
        next-most = by_cases (eqb y.next 0)
            (λ q. zero-most (eqb-true y.next 0 q))
            (λ q.
            let f : y.next ≡ ((view_at t).answer a).next = ap (λ (x : Answer). x.next) e in
            let l : a ≤ t.head.answers = p.within in
            let n = (answer-named t w a (omega arith) l).next-own (λ x. eqb-false y.next 0 q (f ∙ x)) in
            omega (arith, n.1))
          where
            zero-most : y.next ≡ 0 → y.next ≤ t.head.answers
            zero-most q = omega arith

        pub along-on : Along t first y.next
        along-on = record {
          passed = p.passed ++ (a ∷ []);
          steps = p.steps - 1;
          rest = along-here
              ∙ ap (λ (x : Answer). p.passed ++ (a ∷ chain_in t (p.steps - 1) x.next)) (sym e)
              ∙ sym (append_assoc p.passed (a ∷ []) (chain_in t (p.steps - 1) y.next));
          together = omega (arith, length-append p.passed (a ∷ []), p.together, one-step);
          suffice = λ o. let r = next-rises o in let k = p.suffice z in omega (arith, one-step);
          within = next-most;
        }

-- ---- counting

pub record Counting (t : Table) (first a count : ℕ) : Type 0 where
  pub along : Along t first a
  pub count-is : count ≡ length along.passed

module _ (t : Table) (first : ℕ) where
  pub counting-begin : first ≤ t.head.answers → Counting t first first 0
  unfolding along-begin
  counting-begin l = record { along = along-begin t first l; count-is = refl }

  module _ {a count : ℕ} (p : Counting t first a count) where
    pub counting-ended : a ≡ 0 → ChainCounted t first count
    counting-ended z =
        (p.count-is ∙ ap length (sym (along-ended t first p.along z)), omega (arith, p.count-is, passed-most t first p.along))

    pub counting-less : (a ≡ 0 → ⊥) → count < t.head.answers
    counting-less z = omega (arith, p.count-is, passed-less t first p.along z)

    pub counting-on : (a ≡ 0 → ⊥) → ChainsWhole t → (y : Answer) → y ≡ answer_under t.cells.now t.head a → Counting t first y.next (count + 1)
    unfolding along-on
    counting-on z w y e = record {
      along = along-on t first p.along z w y e;
      count-is = omega (arith, p.count-is, length-append p.along.passed (a ∷ []));
    }

-- ---- searching

pub record Searching (t : Table) (first x a : ℕ) : Type 0 where
  pub along : Along t first a
  pub unmet : among x along.passed ≡ false

module _ (t : Table) (first x : ℕ) where
  pub searching-begin : first ≤ t.head.answers → Searching t first x first
  unfolding among along-begin
  searching-begin l = record { along = along-begin t first l; unmet = refl }

  module _ {a : ℕ} (p : Searching t first x a) where
    pub searching-ended : a ≡ 0 → ChainSearched t first x false
    searching-ended z = sym (ap (among x) (along-ended t first p.along z) ∙ p.unmet)

    module _ (z : a ≡ 0 → ⊥) where
      pub searching-found : a ≡ x → ChainSearched t first x true
      searching-found e =
          sym (ap (among x) (along-here t first p.along z) ∙ among-append x p.along.passed _
          ∙ rw (among_first x a _ e) (or-true (among x p.along.passed)))

      pub searching-on : (a ≡ x → ⊥) → ChainsWhole t → (y : Answer) → y ≡ answer_under t.cells.now t.head a → Searching t first x y.next
      unfolding along-on
      searching-on o w y e = record {
        along = along-on t first p.along z w y e;
        unmet = among-append x p.along.passed (a ∷ []) ∙ rw (p.unmet, among_one x a o);
      }

-- ---- all chains, and the chain of one answer

module _ (t : Table) where
  abbrev pub lengths_to : ℕ → ℕ
  lengths_to n = length (chains (coding_of t.head.edition) (view_at t) n)

  pub lengths_none : 0 ≡ lengths_to 0
  lengths_none = sym (chains-none (coding_of t.head.edition) (view_at t))

  pub lengths-on : (i count n : ℕ) (g : Subgoal) → count ≡ lengths_to i → g ≡ subgoal_under t.cells.now t.head (i + 1) → ChainCounted t g.first n → count + n ≡ lengths_to (i + 1)
  lengths-on i count n g e f l =
      rw add-one
      (sym (chains-more (coding_of t.head.edition) (view_at t) i
      ∙ omega (arith, e, l.0 ∙ ap (λ (x : Subgoal). length (chain_in t t.head.answers x.first)) (f ∙ ap (subgoal_under t.cells.now t.head) (add-one i)))))

  pub chained-by : (a : ℕ) (y : Answer) (g : Subgoal) (r : Bool) → y ≡ answer_under t.cells.now t.head a → g ≡ subgoal_under t.cells.now t.head y.subgoal → ChainSearched t g.first a r → r ≡ chained_in t a
  unfolding chained
  chained-by a y g r e f s = s ∙ rw (f, e)
