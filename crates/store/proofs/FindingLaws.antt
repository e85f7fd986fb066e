-- A call by another way of finding a child is the call by the chains wherever its walks are. So a call with an index of no
-- cells is the call without one, whatever the cells of the space.
use Rattle.std.specs.Prelude.{Err, Ok}
use mathlib.Core.Path.{◌≡◌, refl, ap, ◌∙◌}
use mathlib.Core.Bool.{◌&&◌}
use mathlib.Core.List.{List, [], ◌∷◌}
use Prim.Native.Nat.{ℕ, ◌≤◌, ◌<◌}
use lib.Dec.{leb, ltb}
use borrow.Author.Tests.{ltb-true, leb-true}
use Rattle.basis.proofs.Cases.{by_cases}
use Rattle.forms.specs.Numbering.{met}
use Rattle.plain.specs.Words.{Word}
use Rattle.plain.specs.Coding as coding
use Rattle.plain.specs.Coding.{Coding, coding_of, Reading, naming}
use Rattle.plain.specs.Joins.{Forms, declined, formed, join_of}
use Rattle.plain.specs.Requests.{Request, Reply, Result, call_least, answer, finish, next, load, instance, counts, join, why, detours}
use Rattle.space.specs.Layout.{Sizes, sizes_of}
use Rattle.space.specs.Heading.{header_of, space_header, Header}
use Rattle.space.specs.declared.Head.{Head}
use Rattle.trie.specs.Siblings.{Trie}
use Rattle.trie.specs.Walks.{Walk, Finding, walk, walk_by}
use Rattle.trie.proofs.IndexLaws.{walk_none}
use Rattle.store.specs.Views.{View, subgoal_trie, answer_trie, view_of}
use Rattle.store.specs.Decisions.{Decision, says, gives, enters_subgoal, enters_answer, enters_empty, finishes, enters_answers, known, sound, state_of, sound_subgoal, sound_target, chain_of, side_in, Chain, broken, unbroken, on_chains, called_at, answered_at, called, called_by, answered, answered_by, walk_to, walk_to_by, all_sound, all_sound_by, nodes_needed, nodes_needed_by, answers_needed, answers_needed_by, joining, joining_by, reasoned, reasoned_by, reasoned_at, decide, decide_by}
use Rattle.store.specs.Changes.{answer_given, form_given, form_given_by, forms_given, forms_given_by, change, change_by}
use Rattle.store.specs.Calls.{under_by, under_any, under_any_by, space_step, space_step_by, used_nodes, indexed_way, indexed_step, Answers, AnswersIndexed}

-- ---- the decision

known_alike : (n s : ℕ) (d d' : Decision) → (0 < s → s ≤ n → d ≡ d') → known n s d ≡ known n s d'
known_alike n s d d' f = by_cases (ltb 0 s)
    (λ p. by_cases (leb s n) (λ q. rw (p, q) (f (ltb-true _ _ p) (leb-true _ _ q))) (λ q. rw (p, q)))
    (λ p. rw p)

chains-alike : (x y : Chain) (d d' : List Word → List Word → Decision) → ((us vs : List Word) → d us vs ≡ d' us vs) → on_chains x y d ≡ on_chains x y d'
unfolding on_chains
chains-alike broken y d d' f = refl
chains-alike (unbroken us) broken d d' f = refl
chains-alike (unbroken us) (unbroken vs) d d' f = f us vs

module _ (c : Coding) (find : Finding) (v : View) (call-walks : (w : Word) → walk_by find (subgoal_trie v) 0 w ≡ walk (subgoal_trie v) 0 w)
    (answer-walks : (s : ℕ) → 0 < s → s ≤ v.subgoals → (w : Word) → walk_to_by find v s w ≡ walk_to v s w) where
  called-alike : (x : Reading) → called_by find v x ≡ called v x
  unfolding called_by
  called-alike (coding.refused r) = refl
  called-alike (coding.accepted w m) = ap (λ (k : Walk). called_at v k m) (call-walks w)

  reasoned-alike : (ks : List ℕ) (x : Reading) → reasoned_by find v ks x ≡ reasoned v ks x
  unfolding reasoned_by
  reasoned-alike ks (coding.refused r) = refl
  reasoned-alike ks (coding.accepted w m) = ap (reasoned_at v (met [] ks) w) (call-walks w)

  module _ (s : ℕ) (low : 0 < s) (high : s ≤ v.subgoals) where
    answered-alike : (x : Reading) → answered_by find v s x ≡ answered v s x
    unfolding answered_by
    answered-alike (coding.refused r) = refl
    answered-alike (coding.accepted w m) = ap (answered_at v s w) (answer-walks s low high w)

    sound-alike : (ws : List Word) → all_sound_by find v s ws ≡ all_sound v s ws
    unfolding all_sound_by
    sound-alike [] = refl
    sound-alike (w ∷ ws) = rw (answer-walks s low high w, sound-alike ws)

    nodes-alike : (ws before : List Word) → nodes_needed_by find v s before ws ≡ nodes_needed v s before ws
    unfolding nodes_needed_by
    nodes-alike [] before = refl
    nodes-alike (w ∷ ws) before = rw (answer-walks s low high w, nodes-alike ws (w ∷ before))

    answers-alike : (ws before : List Word) → answers_needed_by find v s before ws ≡ answers_needed v s before ws
    unfolding answers_needed_by
    answers-alike [] before = refl
    answers-alike (w ∷ ws) before = rw (answer-walks s low high w, answers-alike ws (w ∷ before))

    joining-alike : (x : Forms) → joining_by find v s x ≡ joining v s x
    unfolding joining_by
    joining-alike (declined r) = refl
    joining-alike (formed ws) = rw (sound-alike ws, nodes-alike ws [], answers-alike ws [])

  pub decide-alike : (q : Request) → decide_by find c v q ≡ decide c v q
  unfolding decide_by
  decide-alike (call_least ks x) = called-alike (naming x (c.called ks))
  decide-alike (answer s ks) = known_alike v.subgoals s _ _ (λ low high. rw (answered-alike s low high (c.answered (v.subgoal s).variables ks)))
  decide-alike (finish s) = refl
  decide-alike (next s a) = refl
  decide-alike (load a out) = refl
  decide-alike (instance a out) = refl
  decide-alike counts = refl
  decide-alike (join i j ps s ks) =
      known_alike v.subgoals i _ _ (λ il ih.
      known_alike v.subgoals j _ _ (λ jl jh.
      known_alike v.subgoals s _ _ (λ low high.
      ap (sound (sound_subgoal v i && sound_subgoal v j && sound_target v s)) (chains-alike (chain_of c v i) (chain_of c v j) _ _ (λ us vs.
      joining-alike s low high (join_of c (side_in v i us) (side_in v j vs) ps (state_of (v.subgoal s).state) (v.subgoal s).variables ks))))))
  decide-alike (why ks) = reasoned-alike ks (c.called ks)
  decide-alike (detours ss b) = refl

-- ---- where every walk is that by the chains

module _ (find : Finding) (same : (t : Trie) (root : ℕ) (w : Word) → walk_by find t root w ≡ walk t root w) where
  form-same : (z : Sizes) (cs : List ℕ) (s : ℕ) (w : Word) (h : Header) → form_given_by find z cs s w h ≡ form_given z cs s w h
  unfolding form_given_by
  form-same z cs s w (Ok h) =
      let v : View = view_of z cs h in
      ap (λ (x : Walk). answer_given z cs h (answered_at v s w x)) (same (answer_trie v) (v.subgoal s).root w)
  form-same z cs s w (Err r) = refl

  forms-same : (z : Sizes) (s : ℕ) (ws : List Word) (cs : List ℕ) → forms_given_by find z cs s ws ≡ forms_given z cs s ws
  unfolding forms_given_by
  forms-same z s [] cs = refl
  forms-same z s (w ∷ ws) cs = ap (λ (ds : List ℕ). forms_given_by find z ds s ws) (form-same z cs s w (header_of z cs)) ∙ forms-same z s ws (form_given z cs s w (header_of z cs))

  change-same : (z : Sizes) (cs : List ℕ) (h : Head) (d : Decision) → change_by find z cs h d ≡ change z cs h d
  unfolding change_by
  change-same z cs h (says r) = refl
  change-same z cs h (gives ks) = refl
  change-same z cs h (enters_subgoal p l u m) = refl
  change-same z cs h (enters_answer s p l u) = refl
  change-same z cs h (enters_empty s) = refl
  change-same z cs h (finishes s) = refl
  change-same z cs h (enters_answers s ws) = forms-same z s ws cs

  step_same : (cs : List ℕ) (q : Request) (x : Header) → under_any_by find cs q x ≡ under_any cs q x
  unfolding under_any_by under_by
  step_same cs q (Ok h) =
      let v : View = view_of (sizes_of h.edition) cs h in
      rw (
        decide-alike (coding_of h.edition) find v (same (subgoal_trie v) 0) (λ s low high. same (answer_trie v) (v.subgoal s).root) q,
        change-same (sizes_of h.edition) cs h (decide (coding_of h.edition) v q),
      )
  step_same cs q (Err r) = refl

pub unindexed : (cs : List ℕ) (q : Request) → indexed_step [] cs q ≡ space_step cs q
unfolding space_step_by
unindexed cs q = step_same (indexed_way [] cs) (walk_none (used_nodes cs)) cs q (space_header cs)

pub unindexed-answers : (cs : List ℕ) (q : Request) (r : Reply) (out cs' : List ℕ) → AnswersIndexed [] cs q r out cs' → Answers cs q r out cs'
unindexed-answers cs q r out cs' k =
    let e = unindexed cs q in
    (k.0 ∙ ap (λ (x : Result (List ℕ)). x.reply) e, k.1 ∙ ap (λ (x : Result (List ℕ)). x.out) e, k.2 ∙ ap (λ (x : Result (List ℕ)). x.state) e)
