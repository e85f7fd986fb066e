-- The count of what a copy stores.
use Prim.Native.Nat.{ℕ, zero, suc, ◌+◌, ◌≤◌, ◌<◌, max}
use mathlib.Core.Path.{◌≡◌, refl, sym, ap, ◌∙◌, subst}
use mathlib.Core.List.{List, [], ◌∷◌, ◌++◌, append-nil, append_assoc}
use native.Mathlib.Omega.{arith}
use lib.Dec.{eqb}
use lib.ListN.{length, get_or}
use Rattle.basis.proofs.Cases.{by_cases}
use Rattle.plain.specs.Words.{Word, distinct, prefixes, all_inits, union, most, brings}
use Rattle.plain.specs.Table.{Table, Answer, no_answer, answer_at, called_forms, answers_to, answer_nodes, nodes}
use Rattle.plain.proofs.LongestShared.{brought}
use Rattle.plain.proofs.EnteringLaws.{nodes-brought}
use Rattle.carrying.specs.Needs.{answers_bring, Needs}
use Rattle.carrying.proofs.NodeCounts.{answers_to-append}

-- ---- the most that is shared, in either order

most-append : (vs us : List Word) (w : Word) → most (vs ++ us) w ≡ max (most vs w) (most us w)
unfolding most
most-append [] us w = omega arith
most-append (v ∷ vs) us w = omega (arith, most-append vs us w)

-- one list holds, for the question, what another does
abbrev Alike : List Word → List Word → Type 0
Alike vs us = (w : Word) → most vs w ≡ most us w

alike-snoc : (vs us : List Word) (v : Word) → Alike vs us → Alike (vs ++ (v ∷ [])) (v ∷ us)
unfolding most
alike-snoc vs us v h w = most-append vs (v ∷ []) w ∙ (unfold most in omega (arith, h w))

none-most : (w : Word) → most [] w ≡ 0
unfolding most
none-most w = refl

distinct-on : (ws vs us : List Word) → Alike vs us → distinct (vs ++ ws) ≡ distinct vs + brings [] us ws
unfolding brings
distinct-on [] vs us h = ap distinct (append-nil vs) ∙ omega arith
distinct-on (w ∷ ws) vs us h =
    let a = brought vs w in
    let b = distinct-on ws (vs ++ (w ∷ [])) (w ∷ us) (alike-snoc vs us w h) in
    let e : distinct (vs ++ (w ∷ ws)) ≡ distinct ((vs ++ (w ∷ [])) ++ ws) = ap distinct (sym (append_assoc vs (w ∷ []) ws)) in
    let m = h w in
    let z = none-most w in
    omega arith

none-distinct : distinct [] ≡ 0
unfolding distinct prefixes all_inits union
none-distinct = refl

pub distinct-brings : (ws : List Word) → distinct ws ≡ brings [] [] ws
distinct-brings ws = distinct-on ws [] [] (λ w. refl) ∙ omega (arith, none-distinct)

-- ---- answers

roots-alone : (s n : ℕ) → answer_nodes [] s n ≡ n
unfolding answer_nodes answers_to
roots-alone s zero = refl
roots-alone s (suc n) = omega (arith, roots-alone (suc s) n, none-distinct)

module _ (t : Table) where
  -- with these answers instead
  abbrev holding : List Answer → Table
  holding l = record { N = t.N; F = t.F; A = t.A; subgoals = t.subgoals; answers = l }

  held_more : (l k : List Answer) (y : Answer) → ((s : ℕ) (w : Word) → most (answers_to l s) w ≡ most (answers_to k s) w)
      → (s : ℕ) (w : Word) → most (answers_to (l ++ (y ∷ [])) s) w ≡ most (answers_to (y ∷ k) s) w
  unfolding answers_to
  held_more l k y h s w = ap (λ (x : List Word). most x w) (answers_to-append l (y ∷ []) s) ∙ by_cases (eqb y.subgoal s)
      (λ e. rw e (most-append (answers_to l s) (y.form ∷ []) w ∙ (unfold most in omega (arith, h s w))))
      (λ e. rw e (ap (λ (x : List Word). most x w) (append-nil (answers_to l s)) ∙ h s w))

  answers-on : (ys l k : List Answer) → ((s : ℕ) (w : Word) → most (answers_to l s) w ≡ most (answers_to k s) w)
      → ((i : ℕ) → i < length ys → (0 < (get_or ys i no_answer).subgoal) × ((get_or ys i no_answer).subgoal ≤ length t.subgoals))
      → nodes (holding (l ++ ys)) ≡ nodes (holding l) + answers_bring k ys
  unfolding answers_bring
  answers-on [] l k h o = ap (λ (x : List Answer). nodes (holding x)) (append-nil l) ∙ omega arith
  answers-on (y ∷ ys) l k h o =
      let own = o 0 (omega arith) in
      let a = nodes-brought (holding l) y.subgoal own.0 own.1 y.form in
      let b = answers-on ys (l ++ (y ∷ [])) (y ∷ k) (held_more l k y h) (λ i q. o (suc i) (omega arith)) in
      let e : nodes (holding (l ++ (y ∷ ys))) ≡ nodes (holding ((l ++ (y ∷ [])) ++ ys)) = ap (λ (x : List Answer). nodes (holding x)) (sym (append_assoc l (y ∷ []) ys)) in
      let m = h y.subgoal y.form in
      omega arith

  fresh-nodes : nodes (holding []) ≡ suc (distinct (called_forms t.subgoals)) + length t.subgoals
  unfolding nodes
  fresh-nodes = omega (arith, roots-alone 1 (length t.subgoals))

answer_at-place : (t : Table) (i : ℕ) → answer_at t (suc i) ≡ get_or t.answers i no_answer
unfolding answer_at
answer_at-place t i = refl

pub needs : Needs
needs t o =
    let owned : (i : ℕ) → i < length t.answers → (0 < (get_or t.answers i no_answer).subgoal) × ((get_or t.answers i no_answer).subgoal ≤ length t.subgoals) =
    λ i h. subst (λ (y : Answer). (0 < y.subgoal) × (y.subgoal ≤ length t.subgoals)) (answer_at-place t i) (o (suc i) (omega arith) (omega arith)) in
    let a = answers-on t t.answers [] [] (λ s w. refl) owned in
    let b = fresh-nodes t in
    let d = distinct-brings (called_forms t.subgoals) in
    omega arith
