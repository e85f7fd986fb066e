-- What a decision that fits writes stays within the end of the space.
use Prim.Native.Nat.{ℕ, ◌+◌, ◌-◌, ◌≤◌, ◌<◌}
use mathlib.Core.Path.{◌≡◌, refl, ◌∙◌}
use mathlib.Core.List.{List, [], ◌∷◌, ◌++◌}
use native.Mathlib.Omega.{arith}
use lib.Dec.{eqb}
use lib.ListN.{length, set}
use borrow.Author.Tests.{eqb-false}
use Rattle.basis.specs.Writes.{Write, put, writes}
use Rattle.basis.proofs.Cases.{by_cases}
use Rattle.basis.proofs.WritesLaws.{Apart}
use Rattle.plain.specs.Words.{Word}
use Rattle.space.specs.Layout.{Sizes, subgoal_offset_of, answer_offset_of, end_offset, nodes_cell, subgoals_cell, answers_cell, node_at, child_cell, sibling_cell, link_cell, subgoal_at, first_cell, last_cell, answer_at, next_cell, node_to, subgoal_to, answer_to, subgoal_in}
use Rattle.space.specs.declared.Head.{Head}
use Rattle.trie.specs.Append.{new_node, new_root, lead_cell, append_node, append_path}
use Rattle.store.specs.Views.{view_of}
use Rattle.store.specs.Decisions.{Decision}
use Rattle.store.specs.Changes.{new_subgoal, subgoal_entered, answer_entered, change, change_by}
use Rattle.agreement.specs.Records.{Wide, Fits, says-fits, gives_fits, subgoal-fits, answer-fits, empty-fits, finish-fits}
use Rattle.agreement.proofs.HeaderTests.{Read}
use Rattle.agreement.proofs.CellRecords.{Kept, writes_kept, row_ends}
use Rattle.agreement.proofs.CellChanges.{view-held}

-- no cell from `end` on changes
abbrev pub Framed : ℕ → List ℕ → List ℕ → Type 0
Framed end cs ds = Kept 0 end cs ds

pub framed-same : (end : ℕ) (cs : List ℕ) → Framed end cs cs
framed-same end cs = record { size = refl; below = λ k h. refl; above = λ k h. refl }

pub framed_then : {end : ℕ} {cs ds es : List ℕ} → Framed end cs ds → Framed end ds es → Framed end cs es
framed_then p q = record { size = q.size ∙ p.size; below = λ k h. absurd (omega arith); above = λ k h. q.above k h ∙ p.above k h }

pub writes-framed : (end : ℕ) (ws : List Write) (cs : List ℕ) → ((j : ℕ) → end ≤ j → Apart j ws) → Framed end cs (writes ws cs)
writes-framed end ws cs a = writes_kept 0 end ws cs (λ j h. absurd (omega arith)) a

module _ {z : Sizes} (wide : Wide z) (N F A : ℕ) where
  abbrev end : ℕ
  end = end_offset z N F A

  node_row : (i : ℕ) → i < N → node_at z i + z.node ≤ end
  node_row i h = omega (arith, row_ends z.node i N h)

  pub subgoal-row : (s : ℕ) → 1 ≤ s → s ≤ F → subgoal_at z (subgoal_offset_of z N) s + z.subgoal ≤ end
  subgoal-row s l h = let k : s - 1 < F = omega arith in omega (arith, row_ends z.subgoal (s - 1) F k)

  answer-row : (a : ℕ) → 1 ≤ a → a ≤ A → answer_at z (answer_offset_of z N F) a + z.answer ≤ end
  answer-row a l h = let k : a - 1 < A = omega arith in omega (arith, row_ends z.answer (a - 1) A k)

  node-framed : (cs : List ℕ) (n parent last token : ℕ) → parent < n → last < n → n < N → Framed end cs (append_node z cs n parent last token)
  unfolding append_node lead_cell
  node-framed cs n parent last token p l h =
      let a = node_row n h in
      let b = node_row parent (omega arith) in
      let c = node_row last (omega arith) in
      let w = wide.node_wide in
      by_cases (eqb last 0)
      (λ e. rw e (writes-framed end (put (child_cell z parent) n ∷ node_to (node_at z n) (new_node token parent)) cs (λ j k. omega arith)))
      (λ e. rw e (writes-framed end (put (sibling_cell z last) n ∷ node_to (node_at z n) (new_node token parent)) cs (λ j k. omega arith)))

  path-framed : (xs : Word) (cs : List ℕ) (n parent last : ℕ) → parent < n → last < n → n + length xs ≤ N → Framed end cs (append_path z cs n parent last xs)
  unfolding append_path
  path-framed [] cs n parent last p l h = framed-same end cs
  path-framed (x ∷ xs) cs n parent last p l h =
      framed_then (node-framed cs n parent last x p l (omega arith))
      (path-framed xs (append_node z cs n parent last x) (n + 1) n 0 (omega arith) (omega arith) (omega arith))

module _ {z : Sizes} (wide : Wide z) (cs : List ℕ) (h : Head) (R : Read z cs h) where
  abbrev ending : ℕ
  ending = end_offset z h.node_capacity h.subgoal_capacity h.answer_capacity

  at-subgoals : h.subgoal_offset ≡ subgoal_offset_of z h.node_capacity
  at-subgoals = (view-held z cs h R).subgoals-at

  at-answers : h.answer_offset ≡ answer_offset_of z h.node_capacity h.subgoal_capacity
  at-answers = (view-held z cs h R).answers_at

  subgoal-framed : (parent last : ℕ) (left : Word) (m : ℕ) → parent < h.nodes → last < h.nodes → 1 ≤ length left
      → h.nodes + length left + 1 ≤ h.node_capacity → h.subgoals < h.subgoal_capacity → Framed ending cs (subgoal_entered z cs h parent last left m)
  unfolding subgoal_entered
  subgoal-framed parent last left m p l some room_n room_f =
      let N = h.node_capacity in
      let F = h.subgoal_capacity in
      let A = h.answer_capacity in
      let a = node_row wide N F A (h.nodes + length left) (omega arith) in
      let b = node_row wide N F A (h.nodes + length left - 1) (omega arith) in
      let c = subgoal-row wide N F A (h.subgoals + 1) (omega arith) (omega arith) in
      let w = wide.node_wide in
      let x = wide.subgoal-wide in
      let o = at-subgoals in
      let root : ℕ = h.nodes + length left in
      let s : ℕ = h.subgoals + 1 in
      framed_then (path-framed wide N F A left cs h.nodes parent last p l (omega arith))
      (writes-framed ending
      (put (link_cell z (root - 1)) s ∷ (node_to (node_at z root) (new_root root) ++ (subgoal_to (subgoal_at z h.subgoal_offset s) (new_subgoal (root - 1) root m) ++ (put nodes_cell (root + 1) ∷ put subgoals_cell s ∷ []))))
      (append_path z cs h.nodes parent last left) (λ j k. omega arith))

  answer-framed : (ds : List ℕ) (s leaf nodes : ℕ) → 1 ≤ s → s ≤ h.subgoal_capacity → (subgoal_in z cs h.subgoal_offset s).last ≤ h.answers → leaf < h.node_capacity
      → h.answers < h.answer_capacity → Framed ending ds (answer_entered z ds h s (subgoal_in z cs h.subgoal_offset s) leaf nodes)
  unfolding answer_entered
  answer-framed ds s leaf nodes ls ms b lf room =
      let N = h.node_capacity in
      let F = h.subgoal_capacity in
      let A = h.answer_capacity in
      let last : ℕ = (subgoal_in z cs h.subgoal_offset s).last in
      let x = node_row wide N F A leaf lf in
      let y = subgoal-row wide N F A s ls ms in
      let v = answer-row wide N F A (h.answers + 1) (omega arith) (omega arith) in
      let w1 = wide.node_wide in
      let w2 = wide.subgoal-wide in
      let w3 = wide.answer-wide in
      let os = at-subgoals in
      let oa = at-answers in
      let a : ℕ = h.answers + 1 in
      let closing : List Write =
      answer_to (answer_at z h.answer_offset a) (record { leaf = leaf; subgoal = s; next = 0 }) ++ (put (last_cell z h.subgoal_offset s) a ∷ put nodes_cell nodes ∷ put answers_cell a ∷ []) in
      by_cases (eqb last 0)
      (λ e. rw e (writes-framed ending (put (link_cell z leaf) a ∷ put (first_cell z h.subgoal_offset s) a ∷ closing) ds (λ j k. omega arith)))
      (λ e. let q : last ≡ 0 → ⊥ = eqb-false _ _ e in
      let u = answer-row wide N F A last (omega arith) (omega arith) in
      rw e (writes-framed ending (put (link_cell z leaf) a ∷ put (next_cell z h.answer_offset last) a ∷ closing) ds (λ j k. omega arith)))

  state-framed : (ds : List ℕ) (s x : ℕ) → 1 ≤ s → s ≤ h.subgoal_capacity → Framed ending ds (set ds (subgoal_at z h.subgoal_offset s + 3) x)
  state-framed ds s x ls ms =
      let y = subgoal-row wide h.node_capacity h.subgoal_capacity h.answer_capacity s ls ms in
      let w = wide.subgoal-wide in
      let os = at-subgoals in
      writes-framed ending (put (subgoal_at z h.subgoal_offset s + 3) x ∷ []) ds (λ j k. omega arith)

  pub change-framed : {d : Decision} → Fits (view_of z cs h) d
      → Framed (end_offset z h.node_capacity h.subgoal_capacity h.answer_capacity) cs (change z cs h d)
  unfolding change_by
  change-framed (says-fits r) = framed-same _ cs
  change-framed (gives_fits ks) = framed-same _ cs
  change-framed (subgoal-fits parent last left m a b c e f) = subgoal-framed parent last left m a b c e f
  change-framed (answer-fits s parent last left ls ms b lp ll some room_n room_a) =
      framed_then (path-framed wide h.node_capacity h.subgoal_capacity h.answer_capacity left cs h.nodes parent last lp ll room_n)
      (answer-framed (append_path z cs h.nodes parent last left) s (h.nodes + length left - 1) (h.nodes + length left) ls (omega (arith, R.within)) b (omega arith) room_a)
  change-framed (empty-fits s ls ms b lr room_a) =
      framed_then (answer-framed cs s ((view_of z cs h).subgoal s).root h.nodes ls (omega (arith, R.within)) b (omega (arith, R.within)) room_a)
      (state-framed _ s 1 ls (omega (arith, R.within)))
  change-framed (finish-fits s ls ms) = state-framed cs s 1 ls (omega (arith, R.within))
