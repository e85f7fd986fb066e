-- The chain of a subgoal's answers, read by next from the first on, gives the forms of its answers in their order.
use mathlib.Core.Path.{◌≡◌, refl, sym, ap, ◌∙◌, subst}
use mathlib.Core.List.{List, [], ◌∷◌, ◌++◌, append_assoc, append-nil}
use Prim.Native.Nat.{ℕ, zero, suc, ◌+◌, ◌≤◌, ◌<◌}
use native.Mathlib.Omega.{arith}
use lib.Dec.{eqb}
use lib.ListN.{length, length-append}
use lib.Seq.{get_or_at}
use borrow.Author.Tests.{eqb-true, eqb-false, ne_eqb}
use Rattle.basis.proofs.Cases.{by_cases}
use Rattle.plain.specs.Words.{Word}
use Rattle.plain.specs.Coding.{Coding}
use Rattle.plain.specs.CodingLaws.{CodingLaws}
use Rattle.plain.specs.Table as table
use Rattle.plain.specs.Table.{Table, no_answer, answer_at, subgoal_of_answer, answers_to, after}
use Rattle.plain.proofs.AfterLaws.{after-low, after-found, after-least, after-skip}
use Rattle.plain.proofs.StoredForms.{answer-form-legal}
use Rattle.trie.specs.Paths.{gather, longest}
use Rattle.store.specs.Views.{View, answer_trie}
use Rattle.store.specs.Decisions.{unbroken, headed, chain_from, chain_of}
use Rattle.agreement.proofs.ChainSteps.{chain-ends}
use Rattle.agreement.proofs.SameRecords.{later, Same, answer-own-judged, gather-answer}

module _ (c : Coding) (laws : CodingLaws c) (t : Table) (v : View) (S : Same c t v) (s : ℕ) (low : 0 < s) (high : s ≤ length t.subgoals) where
  abbrev total : ℕ
  total = suc (length t.answers)

  -- an answer, before what follows it
  chain-on : (k a : ℕ) (ws : List Word) → 0 < a → a ≤ length t.answers → subgoal_of_answer t a ≡ s → chain_from c v s k (later t a s) ≡ unbroken ws
      → chain_from c v s (suc k) a ≡ unbroken ((answer_at t a).form ∷ ws)
  unfolding chain_from headed
  chain-on k a ws la ha own e =
      rw (
        ne_eqb a 0 (λ z. omega arith),
        answer-own-judged c laws t v S a la ha s own,
        (S.answer a la ha).next ∙ ap (λ (x : ℕ). later t a x) own,
        e,
        ap (λ (x : ℕ). gather longest (answer_trie v) (v.subgoal x).root (v.answer a).leaf) (sym own) ∙ gather-answer c laws t v S a la ha,
        (S.subgoal s low high).variables ∙ ap (λ (x : ℕ). (table.subgoal_at t x).m) (sym own),
        answer-form-legal c laws t S.sound a la ha,
      )

  answer-behind : (seen : List table.Answer) (a : table.Answer) (rest : List table.Answer) → t.answers ≡ seen ++ (a ∷ rest) → answer_at t (suc (length seen)) ≡ a
  unfolding answer_at
  answer-behind seen a rest e = rw e (get_or_at (no_answer ∷ seen) a rest no_answer (suc (length seen)) refl)

  chain-rest : (seen rest : List table.Answer) (k : ℕ) → t.answers ≡ seen ++ rest → length rest ≤ k
      → chain_from c v s k (after (subgoal_of_answer t) total (length seen) s) ≡ unbroken (answers_to rest s)
  unfolding answers_to
  chain-rest seen [] k e fuel =
      let len : length t.answers ≡ length seen = ap length (e ∙ append-nil seen) in
      rw (after-low (subgoal_of_answer t) total (length seen) s (omega arith)) (chain-ends c v s k)
  chain-rest seen (a ∷ rest) zero e fuel = absurd (omega arith)
  chain-rest seen (a ∷ rest) (suc k) e fuel =
      let e' : t.answers ≡ (seen ++ (a ∷ [])) ++ rest = e ∙ sym (append_assoc seen (a ∷ []) rest) in
      let n : length (seen ++ (a ∷ [])) ≡ suc (length seen) = length-append seen (a ∷ []) ∙ omega arith in
      let here : answer_at t (suc (length seen)) ≡ a = answer-behind seen a rest e in
      let own : subgoal_of_answer t (suc (length seen)) ≡ a.subgoal = ap (λ (x : table.Answer). x.subgoal) here in
      let len : length t.answers ≡ length seen + suc (length rest) = ap length e ∙ length-append seen (a ∷ rest) in
      by_cases (eqb a.subgoal s)
      (λ p.
      let to : subgoal_of_answer t (suc (length seen)) ≡ s = own ∙ eqb-true a.subgoal s p in
      let least = after-least (subgoal_of_answer t) total (length seen) s (suc (length seen)) (record { above = omega arith; below = omega arith; under = to }) in
      let found = after-found (subgoal_of_answer t) total (length seen) s least.0 in
      let x : after (subgoal_of_answer t) total (length seen) s ≡ suc (length seen) = between (after (subgoal_of_answer t) total (length seen) s) (length seen) found.above least.1 in
      let r : chain_from c v s k (later t (suc (length seen)) s) ≡ unbroken (answers_to rest s) =
      subst (λ (b : ℕ). chain_from c v s k (after (subgoal_of_answer t) total b s) ≡ unbroken (answers_to rest s)) n (chain-rest (seen ++ (a ∷ [])) rest k e' (omega arith)) in
      rw (x, p) (chain-on k (suc (length seen)) (answers_to rest s) (omega arith) (omega arith) to r ∙ ap (λ (y : table.Answer). unbroken (y.form ∷ answers_to rest s)) here))
      (λ p.
      let skip : after (subgoal_of_answer t) total (length seen) s ≡ after (subgoal_of_answer t) total (suc (length seen)) s =
      after-skip (subgoal_of_answer t) total (length seen) s (λ z. eqb-false a.subgoal s p (sym own ∙ z)) in
      rw (p, skip)
      (subst (λ (b : ℕ). chain_from c v s (suc k) (after (subgoal_of_answer t) total b s) ≡ unbroken (answers_to rest s)) n (chain-rest (seen ++ (a ∷ [])) rest (suc k) e' (omega arith))))
    where
      between : (x k : ℕ) → k < x → x ≤ suc k → x ≡ suc k
      between x k h l = omega arith

  pub chain-forms : chain_of c v s ≡ unbroken (answers_to t.answers s)
  chain-forms = rw (S.subgoal s low high).first (chain-rest [] t.answers v.answers refl (omega (arith, S.answers)))
