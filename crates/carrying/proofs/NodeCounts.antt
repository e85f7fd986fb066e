-- The nodes of a table: more with more words, and as many where the words are recoded.
use Prim.Native.Nat.{ℕ, zero, suc, ◌≤◌}
use mathlib.Core.Path.{◌≡◌, refl, sym, ap, ◌∙◌, subst}
use mathlib.Core.Bool.{true}
use mathlib.Core.List.{List, [], ◌∷◌, ◌++◌, map, append-nil, append_assoc, map-append}
use native.Mathlib.Omega.{arith}
use lib.Dec.{eqb}
use lib.ListN.{length, length-map}
use borrow.Author.Tests.{eqb-true, eqb-false, eq-eqb, ne_eqb}
use Rattle.basis.proofs.Cases.{by_cases}
use Rattle.plain.specs.Words.{Word, distinct, common, most}
use Rattle.plain.specs.Table.{Table, Subgoal, Answer, called_forms, answers_to, answer_nodes, nodes}
use Rattle.plain.proofs.LongestShared.{brought}
use Rattle.carrying.specs.Recoding.{Recoding, recoded, takes_word}
use Rattle.carrying.specs.Carrying.{carried_subgoal, carried_answer, carried, answer_forms, takes_words, takes_table}
use Rattle.carrying.proofs.RecodingLaws.{Recodes, both}

-- ---- more words

pub distinct_more : (ws vs : List Word) → distinct vs ≤ distinct (vs ++ ws)
distinct_more [] vs = rw (append-nil vs) (omega arith)
distinct_more (w ∷ ws) vs =
    let a = brought vs w in
    let b = distinct_more ws (vs ++ (w ∷ [])) in
    let e : (vs ++ (w ∷ [])) ++ ws ≡ vs ++ (w ∷ ws) = append_assoc vs (w ∷ []) ws in
    let c : distinct (vs ++ (w ∷ [])) ≤ distinct (vs ++ (w ∷ ws)) = subst (λ (x : List Word). distinct (vs ++ (w ∷ [])) ≤ distinct x) e b in
    omega arith

pub answers_to-append : (l k : List Answer) (s : ℕ) → answers_to (l ++ k) s ≡ answers_to l s ++ answers_to k s
unfolding answers_to
answers_to-append [] k s = refl
answers_to-append (y ∷ l) k s = by_cases (eqb y.subgoal s) (λ e. rw (e, answers_to-append l k s)) (λ e. rw (e, answers_to-append l k s))

pub answer_nodes-more : (l k : List Answer) (s n : ℕ) → answer_nodes l s n ≤ answer_nodes (l ++ k) s n
unfolding answer_nodes
answer_nodes-more l k s zero = omega arith
answer_nodes-more l k s (suc n) =
    let a = distinct_more (answers_to k s) (answers_to l s) in
    let b = answer_nodes-more l k (suc s) n in
    let e : distinct (answers_to (l ++ k) s) ≡ distinct (answers_to l s ++ answers_to k s) = ap distinct (answers_to-append l k s) in
    omega arith

pub answer_nodes-longer : (l : List Answer) (s n m : ℕ) → n ≤ m → answer_nodes l s n ≤ answer_nodes l s m
unfolding answer_nodes
answer_nodes-longer l s zero m h = omega arith
answer_nodes-longer l s (suc n) zero h = absurd (omega arith)
answer_nodes-longer l s (suc n) (suc m) h = omega (arith, answer_nodes-longer l (suc s) n m (omega arith))

-- ---- recoded words

pub answers-taken : (r : Recoding) (l : List Answer) (s : ℕ) → takes_words r (answer_forms l) ≡ true → takes_words r (answers_to l s) ≡ true
unfolding answers_to takes_words
answers-taken r [] s e = refl
answers-taken r (y ∷ l) s e =
    let p = both (takes_word r y.form) (takes_words r (answer_forms l)) e in
    by_cases (eqb y.subgoal s) (λ q. rw (q, p.0) (answers-taken r l s p.1)) (λ q. rw q (answers-taken r l s p.1))

module _ (r : Recoding) (old new : ℕ → ℕ) (R : Recodes r old new) where
  common-recoded : (v w : Word) → takes_word r v ≡ true → takes_word r w ≡ true → common (recoded r v) (recoded r w) ≡ common v w
  unfolding common takes_word
  common-recoded [] w d e = refl
  common-recoded (x ∷ v) [] d e = refl
  common-recoded (x ∷ v) (y ∷ w) d e =
      let p = both (r.takes x) (takes_word r v) d in
      let q = both (r.takes y) (takes_word r w) e in
      by_cases (eqb x y)
      (λ s. let z : x ≡ y = eqb-true x y s in
      rw (s, eq-eqb (r.code x) (r.code y) (ap r.code z), common-recoded v w p.1 q.1))
      (λ s. rw (s, ne_eqb (r.code x) (r.code y) (λ z. eqb-false x y s (R.differ x y p.0 q.0 z))))

  most-recoded : (vs : List Word) (w : Word) → takes_words r vs ≡ true → takes_word r w ≡ true → most (map (recoded r) vs) (recoded r w) ≡ most vs w
  unfolding most takes_words
  most-recoded [] w d e = refl
  most-recoded (v ∷ vs) w d e =
      let p = both (takes_word r v) (takes_words r vs) d in
      rw (common-recoded v w p.0 e, most-recoded vs w p.1 e)

  takes-append : (vs ws : List Word) → takes_words r vs ≡ true → takes_words r ws ≡ true → takes_words r (vs ++ ws) ≡ true
  unfolding takes_words
  takes-append [] ws d e = e
  takes-append (v ∷ vs) ws d e = let p = both (takes_word r v) (takes_words r vs) d in rw p.0 (takes-append vs ws p.1 e)

  takes_one : (w : Word) → takes_word r w ≡ true → takes_words r (w ∷ []) ≡ true
  unfolding takes_words
  takes_one w e = rw e

  takes_first : (w : Word) (ws : List Word) → takes_words r (w ∷ ws) ≡ true → (takes_word r w ≡ true) × (takes_words r ws ≡ true)
  unfolding takes_words
  takes_first w ws e = both (takes_word r w) (takes_words r ws) e

  distinct-on : (ws vs : List Word) → takes_words r vs ≡ true → takes_words r ws ≡ true → distinct (map (recoded r) vs) ≡ distinct vs
      → distinct (map (recoded r) vs ++ map (recoded r) ws) ≡ distinct (vs ++ ws)
  distinct-on [] vs d e h = rw (append-nil (map (recoded r) vs), append-nil vs) h
  distinct-on (w ∷ ws) vs d e h =
      let p = takes_first w ws e in
      let a = brought vs w in
      let b = brought (map (recoded r) vs) (recoded r w) in
      let m = most-recoded vs w d p.0 in
      let l : length (recoded r w) ≡ length w = length-map w r.code in
      let snoc : map (recoded r) (vs ++ (w ∷ [])) ≡ map (recoded r) vs ++ (recoded r w ∷ []) = map-append (recoded r) vs (w ∷ []) in
      let one : distinct (map (recoded r) (vs ++ (w ∷ []))) ≡ distinct (vs ++ (w ∷ [])) =
      ap distinct snoc ∙ b ∙ rw (m, l, h) (sym a) in
      let k = distinct-on ws (vs ++ (w ∷ [])) (takes-append vs (w ∷ []) d (takes_one w p.0)) p.1 one in
      ap distinct (sym (append_assoc (map (recoded r) vs) (recoded r w ∷ []) (map (recoded r) ws)))
      ∙ ap (λ (x : List Word). distinct (x ++ map (recoded r) ws)) (sym snoc) ∙ k ∙ ap distinct (append_assoc vs (w ∷ []) ws)

  none-distinct : distinct (map (recoded r) []) ≡ distinct []
  none-distinct = refl

  pub distinct-recoded : (ws : List Word) → takes_words r ws ≡ true → distinct (map (recoded r) ws) ≡ distinct ws
  distinct-recoded ws e = distinct-on ws [] (unfold takes_words in refl) e none-distinct

  -- ---- a carried table

  forms-carried : (gs : List Subgoal) → called_forms (map (carried_subgoal r) gs) ≡ map (recoded r) (called_forms gs)
  forms-carried [] = refl
  forms-carried (g ∷ gs) = ap {B = List Word} (λ (l : List Word). recoded r g.form ∷ l) (forms-carried gs)

  answers-carried : (l : List Answer) (s : ℕ) → answers_to (map (carried_answer r) l) s ≡ map (recoded r) (answers_to l s)
  unfolding answers_to
  answers-carried [] s = refl
  answers-carried (y ∷ l) s = by_cases (eqb y.subgoal s) (λ e. rw (e, answers-carried l s)) (λ e. rw (e, answers-carried l s))

  answer_nodes-carried : (l : List Answer) (s n : ℕ) → takes_words r (answer_forms l) ≡ true → answer_nodes (map (carried_answer r) l) s n ≡ answer_nodes l s n
  unfolding answer_nodes
  answer_nodes-carried l s zero e = refl
  answer_nodes-carried l s (suc n) e =
      let a : distinct (answers_to (map (carried_answer r) l) s) ≡ distinct (answers_to l s) = ap distinct (answers-carried l s) ∙ distinct-recoded (answers_to l s) (answers-taken r l s e) in
      omega (arith, answer_nodes-carried l (suc s) n e)

  pub nodes-carried : (n f a : ℕ) (t : Table) → takes_table r t ≡ true → nodes (carried r n f a t) ≡ nodes t
  unfolding nodes takes_table
  nodes-carried n f a t e =
      let p = both (takes_words r (called_forms t.subgoals)) (takes_words r (answer_forms t.answers)) e in
      let x : distinct (called_forms (map (carried_subgoal r) t.subgoals)) ≡ distinct (called_forms t.subgoals) =
      ap distinct (forms-carried t.subgoals) ∙ distinct-recoded (called_forms t.subgoals) p.0 in
      let y = answer_nodes-carried t.answers 1 (length t.subgoals) p.1 in
      rw (length-map t.subgoals (carried_subgoal r)) (omega arith)
