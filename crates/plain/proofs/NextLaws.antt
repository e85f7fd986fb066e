-- Next from 0 on gives every answer to a subgoal once, in increasing order, and then the word for its state; "no more" is final.
use mathlib.Core.Path.{◌≡◌, refl, sym, ap, ◌∙◌, subst}
use mathlib.Core.Bool.{true}
use mathlib.Core.List.{List, [], ◌∷◌, ◌++◌, append_assoc, append-nil}
use Prim.Native.Nat.{ℕ, suc, ◌+◌, ◌≤◌, ◌<◌}
use native.Mathlib.Omega.{arith}
use lib.Dec.{eqb}
use lib.ListN.{length, length-append}
use lib.Seq.{get_or_at}
use borrow.Author.Tests.{eqb-true, eqb-false, eq-eqb, ne_eqb, lt-ltb, le-leb}
use Rattle.basis.specs.Choice.{pick}
use Rattle.basis.proofs.Cases.{by_cases}
use Rattle.plain.specs.Coding.{Coding}
use Rattle.plain.specs.Requests.{next, at, lacks_next}
use Rattle.plain.specs.Table.{Table, Answer, no_answer, subgoal_at, answer_at, subgoal_of_answer, after, following, starting, onward, step}
use Rattle.plain.specs.Consequences.{numbers_of, Visits, Visiting}
use Rattle.plain.proofs.AfterLaws.{after-low, after-found, after-least, after-skip}

following-after : (t : Table) (s a : ℕ) → following t s a ≡ after (subgoal_of_answer t) (suc (length t.answers)) a s
unfolding following
following-after t s a = refl

pub next-reply : (c : Coding) (t : Table) (s a : ℕ) → 0 < s → s ≤ length t.subgoals → starting t s a ≡ true
    → (step c t (next s a)).reply ≡ pick (eqb (following t s a) 0) (lacks_next (subgoal_at t s).state) (at (following t s a))
unfolding step onward
next-reply c t s a low high e = rw (lt-ltb 0 s low, le-leb s (length t.subgoals) high, e)

pub starting-answer : (t : Table) (s a : ℕ) → a ≤ length t.answers → subgoal_of_answer t a ≡ s → starting t s a ≡ true
unfolding starting
starting-answer t s a h e = by_cases (eqb a 0) (λ z. rw z) (λ z. rw (z, le-leb a (length t.answers) h, e, eq-eqb s s refl))

module _ (c : Coding) (t : Table) (s : ℕ) (low : 0 < s) (high : s ≤ length t.subgoals) where
  abbrev total : ℕ
  total = suc (length t.answers)

  answer-behind : (seen : List Answer) (a : Answer) (rest : List Answer) → t.answers ≡ seen ++ (a ∷ rest) → answer_at t (suc (length seen)) ≡ a
  unfolding answer_at
  answer-behind seen a rest e = rw e (get_or_at (no_answer ∷ seen) a rest no_answer (suc (length seen)) refl)

  -- answers seen so far and still to see; next stands at i, and no answer behind it among the first is to s
  visits : (seen rest : List Answer) (i : ℕ) → t.answers ≡ seen ++ rest → starting t s i ≡ true
      → following t s i ≡ after (subgoal_of_answer t) total (length seen) s → Visits c t s i (numbers_of s (suc (length seen)) rest)
  unfolding numbers_of
  visits seen [] i e st f =
      let len : length t.answers ≡ length seen = ap length (e ∙ append-nil seen) in
      let z : following t s i ≡ 0 = f ∙ after-low (subgoal_of_answer t) total (length seen) s (omega arith) in
      next-reply c t s i low high st ∙ rw z
  visits seen (a ∷ rest) i e st f =
      let e' : t.answers ≡ (seen ++ (a ∷ [])) ++ rest = e ∙ sym (append_assoc seen (a ∷ []) rest) in
      let n : length (seen ++ (a ∷ [])) ≡ suc (length seen) = length-append seen (a ∷ []) ∙ omega arith in
      let here : subgoal_of_answer t (suc (length seen)) ≡ a.subgoal =
      ap (λ (x : Answer). x.subgoal) (answer-behind seen a rest e) in
      let len : length t.answers ≡ length seen + suc (length rest) = ap length e ∙ length-append seen (a ∷ rest) in
      by_cases (eqb a.subgoal s)
      (λ p.
      let to : subgoal_of_answer t (suc (length seen)) ≡ s = here ∙ eqb-true a.subgoal s p in
      let least = after-least (subgoal_of_answer t) total (length seen) s (suc (length seen)) (record { above = omega arith; below = omega arith; under = to }) in
      let found = after-found (subgoal_of_answer t) total (length seen) s least.0 in
      let k : following t s i ≡ suc (length seen) = f ∙ between (after (subgoal_of_answer t) total (length seen) s) (length seen) found.above least.1 in
      rw p (
        next-reply c t s i low high st ∙ rw (k, ne_eqb (suc (length seen)) 0 (λ z. omega arith)),
        subst (λ (b : ℕ). Visits c t s (suc (length seen)) (numbers_of s (suc b) rest)) n
            (visits (seen ++ (a ∷ [])) rest (suc (length seen)) e' (starting-answer t s (suc (length seen)) (omega arith) to) (rw n (following-after t s (suc (length seen))))),
      ))
      (λ p.
      let skip : after (subgoal_of_answer t) total (length seen) s ≡ after (subgoal_of_answer t) total (suc (length seen)) s =
      after-skip (subgoal_of_answer t) total (length seen) s (λ z. eqb-false a.subgoal s p (sym here ∙ z)) in
      rw p (subst (λ (b : ℕ). Visits c t s i (numbers_of s (suc b) rest)) n (visits (seen ++ (a ∷ [])) rest i e' st (f ∙ skip ∙ rw n))))
    where
      between : (x k : ℕ) → k < x → x ≤ suc k → x ≡ suc k
      between x k h l = omega arith

pub visiting : (c : Coding) → Visiting c
visiting c t s low high = visits c t s low high [] t.answers 0 refl (unfold starting in refl) (following-after t s 0)
