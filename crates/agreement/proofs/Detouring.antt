-- Detours: the goals are read as they are in the plain table, and one rule is followed.
use mathlib.Core.Path.{◌≡◌, refl, sym, ap, ◌∙◌, subst}
use mathlib.Core.Bool.{Bool, true, false, ◌&&◌, false≢true}
use mathlib.Core.List.{List, [], ◌∷◌, ◌++◌, map, append_assoc, append-nil}
use Prim.Native.Nat.{ℕ, zero, suc, ◌+◌, ◌≤◌, ◌<◌}
use native.Mathlib.Omega.{arith}
use lib.Dec.{eqb, leb, ltb}
use lib.ListN.{length, length-append}
use lib.Seq.{get_or_at}
use borrow.Author.Tests.{eqb-true, eqb-false, ne_eqb, ltb-true, leb-true}
use Rattle.basis.proofs.Cases.{by_cases}
use Rattle.plain.specs.Coding.{Coding}
use Rattle.plain.specs.CodingLaws.{CodingLaws}
use Rattle.plain.specs.Requests.{detours, refused}
use Rattle.plain.specs.Detours.{Live, all_within, detours_of}
use Rattle.plain.specs.Table as table
use Rattle.plain.specs.Table.{Table, no_answer, answer_at, subgoal_of_answer, after, numbered_answers, goal_of, detouring, step}
use Rattle.plain.proofs.AfterLaws.{after-low, after-found, after-least, after-skip}
use Rattle.plain.proofs.StoredForms.{answer-form-legal}
use Rattle.trie.specs.Paths.{gather, longest}
use Rattle.store.specs.Views.{View, answer_trie}
use Rattle.store.specs.Decisions.{lives, lives_behind, lives_from, lives_of, goals, goal_before, goals_in, detours_in, decide, decide_by}
use Rattle.agreement.proofs.SameRecords.{later, Same, answer-own-judged, gather-answer, subgoal-judged, subgoal-state}
use Rattle.agreement.proofs.Agreeing.{Agrees, agrees-says}

lives-end : (c : Coding) (v : View) (s k : ℕ) → lives_from c v s k 0 ≡ lives []
unfolding lives_from
lives-end c v s zero = refl
lives-end c v s (suc k) = refl

module _ (c : Coding) (laws : CodingLaws c) (t : Table) (v : View) (S : Same c t v) where
  abbrev total : ℕ
  total = suc (length t.answers)

  -- ---- the answers of a goal

  module _ (s : ℕ) (low : 0 < s) (high : s ≤ length t.subgoals) where
    -- an answer, before what follows it
    lives-on : (k a : ℕ) (ls : List Live) → 0 < a → a ≤ length t.answers → subgoal_of_answer t a ≡ s → lives_from c v s k (later t a s) ≡ lives ls
        → lives_from c v s (suc k) a ≡ lives (record { number = a; form = (answer_at t a).form } ∷ ls)
    unfolding lives_from lives_behind
    lives-on k a ls la ha own e =
        rw (
          ne_eqb a 0 (λ z. omega arith),
          answer-own-judged c laws t v S a la ha s own,
          (S.answer a la ha).next ∙ ap (λ (x : ℕ). later t a x) own,
          e,
          ap (λ (x : ℕ). gather longest (answer_trie v) (v.subgoal x).root (v.answer a).leaf) (sym own) ∙ gather-answer c laws t v S a la ha,
          (S.subgoal s low high).variables ∙ ap (λ (x : ℕ). (table.subgoal_at t x).m) (sym own),
          answer-form-legal c laws t S.sound a la ha,
        )

    answer-behind : (seen : List table.Answer) (a : table.Answer) (rest : List table.Answer) → t.answers ≡ seen ++ (a ∷ rest) → answer_at t (suc (length seen)) ≡ a
    unfolding answer_at
    answer-behind seen a rest e = rw e (get_or_at (no_answer ∷ seen) a rest no_answer (suc (length seen)) refl)

    lives-rest : (seen rest : List table.Answer) (k : ℕ) → t.answers ≡ seen ++ rest → length rest ≤ k
        → lives_from c v s k (after (subgoal_of_answer t) total (length seen) s) ≡ lives (numbered_answers s (suc (length seen)) rest)
    unfolding numbered_answers
    lives-rest seen [] k e fuel =
        let len : length t.answers ≡ length seen = ap length (e ∙ append-nil seen) in
        rw (after-low (subgoal_of_answer t) total (length seen) s (omega arith)) (lives-end c v s k)
    lives-rest seen (a ∷ rest) zero e fuel = absurd (omega arith)
    lives-rest seen (a ∷ rest) (suc k) e fuel =
        let e' : t.answers ≡ (seen ++ (a ∷ [])) ++ rest = e ∙ sym (append_assoc seen (a ∷ []) rest) in
        let n : length (seen ++ (a ∷ [])) ≡ suc (length seen) = length-append seen (a ∷ []) ∙ omega arith in
        let here : answer_at t (suc (length seen)) ≡ a = answer-behind seen a rest e in
        let own : subgoal_of_answer t (suc (length seen)) ≡ a.subgoal = ap (λ (x : table.Answer). x.subgoal) here in
        let len : length t.answers ≡ length seen + suc (length rest) = ap length e ∙ length-append seen (a ∷ rest) in
        by_cases (eqb a.subgoal s)
        (λ p.
        let to : subgoal_of_answer t (suc (length seen)) ≡ s = own ∙ eqb-true a.subgoal s p in
        let least = after-least (subgoal_of_answer t) total (length seen) s (suc (length seen)) (record { above = omega arith; below = omega arith; under = to }) in
        let found = after-found (subgoal_of_answer t) total (length seen) s least.0 in
        let x : after (subgoal_of_answer t) total (length seen) s ≡ suc (length seen) = between (after (subgoal_of_answer t) total (length seen) s) (length seen) found.above least.1 in
        let r : lives_from c v s k (later t (suc (length seen)) s) ≡ lives (numbered_answers s (suc (suc (length seen))) rest) =
        subst (λ (b : ℕ). lives_from c v s k (after (subgoal_of_answer t) total b s) ≡ lives (numbered_answers s (suc b) rest)) n (lives-rest (seen ++ (a ∷ [])) rest k e' (omega arith)) in
        rw (x, p) (lives-on k (suc (length seen)) (numbered_answers s (suc (suc (length seen))) rest) (omega arith) (omega arith) to r
        ∙ ap (λ (y : table.Answer). lives (record { number = suc (length seen); form = y.form } ∷ numbered_answers s (suc (suc (length seen))) rest)) here))
        (λ p.
        let skip : after (subgoal_of_answer t) total (length seen) s ≡ after (subgoal_of_answer t) total (suc (length seen)) s =
        after-skip (subgoal_of_answer t) total (length seen) s (λ z. eqb-false a.subgoal s p (sym own ∙ z)) in
        rw (p, skip)
        (subst (λ (b : ℕ). lives_from c v s (suc k) (after (subgoal_of_answer t) total b s) ≡ lives (numbered_answers s (suc b) rest)) n (lives-rest (seen ++ (a ∷ [])) rest (suc k) e' (omega arith))))
      where
        between : (x k : ℕ) → k < x → x ≤ suc k → x ≡ suc k
        between x k h l = omega arith

    lives-forms : lives_of c v s ≡ lives (numbered_answers s 1 t.answers)
    lives-forms = rw (S.subgoal s low high).first (lives-rest [] t.answers v.answers refl (omega (arith, S.answers)))

  -- ---- the goals

  within-parts : (s n : ℕ) (b : Bool) → (ltb 0 s && leb s n && b) ≡ true → (0 < s) × (s ≤ n) × (b ≡ true)
  within-parts s n b e = by_cases (ltb 0 s)
      (λ p. by_cases (leb s n) (λ q. (ltb-true _ _ p, leb-true _ _ q, rw (p, q) at e)) (λ q. absurd (false≢true (rw (p, q) at e))))
      (λ p. absurd (false≢true (rw p at e)))

  goals-same : (ss : List ℕ) → all_within (length t.subgoals) ss ≡ true → goals_in c v ss ≡ goals (map (goal_of c t) ss)
  unfolding goals_in all_within goal_before goal_of
  goals-same [] e = refl
  goals-same (s ∷ ss) e =
      let p = within-parts s (length t.subgoals) (all_within (length t.subgoals) ss) e in
      rw (
        subgoal-judged c laws t v S s p.0 p.1,
        lives-forms s p.0 p.1,
        goals-same ss p.2,
        subgoal-state c laws t v S s p.0 p.1,
        (S.subgoal s p.0 p.1).variables,
      )

  pub detours-agrees : (ss : List ℕ) (b : ℕ) → Agrees c v [] (step c t (detours ss b)) (decide c v (detours ss b))
  unfolding step decide_by detouring detours_in
  detours-agrees ss b =
      let count : all_within v.subgoals ss ≡ all_within (length t.subgoals) ss = ap (λ (n : ℕ). all_within n ss) S.subgoals in
      by_cases (all_within (length t.subgoals) ss)
      (λ e. let f : all_within v.subgoals ss ≡ true = count ∙ e in rw (e, f, goals-same ss e) (agrees-says c t v S [] (detours_of c (map (goal_of c t) ss) b)))
      (λ e. let f : all_within v.subgoals ss ≡ false = count ∙ e in rw (e, f) (agrees-says c t v S [] (refused 7)))
