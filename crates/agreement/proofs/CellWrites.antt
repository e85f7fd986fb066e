-- One field or one record written into cells that hold a view, and a path of new nodes.
use Prim.Native.Nat.{ℕ, ◌+◌, ◌<◌, ◌≤◌}
use mathlib.Core.Path.{◌≡◌, refl, sym, ap, ◌∙◌}
use mathlib.Core.Bool.{true, false}
use mathlib.Core.List.{List, [], ◌∷◌}
use native.Mathlib.Omega.{arith}
use lib.ListN.{length, set}
use lib.Seq.{get_or-set_same, get_or-set_other}
use lib.Dec.{eqb}
use borrow.Author.Tests.{eqb-true}
use Rattle.basis.specs.Writes.{put, writes}
use Rattle.basis.proofs.Cases.{by_cases}
use Rattle.space.specs.Layout.{Sizes, node_at, subgoal_at, answer_at, child_cell, sibling_cell, link_cell, state_cell, first_cell, last_cell, next_cell, node_from, subgoal_from, answer_from, node_to, subgoal_to, answer_to}
use Rattle.space.specs.declared.Node.{Node}
use Rattle.space.specs.declared.Subgoal.{Subgoal}
use Rattle.space.specs.declared.Answer.{Answer}
use Rattle.space.proofs.LayoutLaws.{node-equal, subgoal-equal, answer-equal, node-written, subgoal-written, answer-written}
use Rattle.trie.specs.Append.{new_node, lead_cell, append_node, append_path, with_child, with_sibling, with_node, with_path}
use Rattle.store.specs.Views.{View}
use Rattle.agreement.specs.Records.{Wide, with_link, with_state, with_next, updated}
use Rattle.agreement.proofs.CellRecords.{Kept, writes_kept, Holds, with_nodes, with_subgoals, with_answers, nodes-like, node-inside, subgoal-inside, answer-inside, node-changed, subgoal-changed, answer-changed}

-- a subgoal with another first or last answer
abbrev pub with_first : Subgoal → ℕ → Subgoal
with_first g a = record { leaf = g.leaf; root = g.root; variables = g.variables; state = g.state; first = a; last = g.last }

abbrev pub with_end : Subgoal → ℕ → Subgoal
with_end g a = record { leaf = g.leaf; root = g.root; variables = g.variables; state = g.state; first = g.first; last = a }

-- ---- one field, as it is read again

module _ (cs : List ℕ) (k x : ℕ) where
  child-read : k + 1 < length cs → node_from (set cs (k + 1) x) k ≡ with_child (node_from cs k) x
  child-read h =
      node-equal (node_from (set cs (k + 1) x) k) (with_child (node_from cs k) x)
      (get_or-set_other cs (k + 1) k x 0 (omega arith))
      (get_or-set_same cs (k + 1) x 0 h)
      (get_or-set_other cs (k + 1) (k + 2) x 0 (omega arith))
      (get_or-set_other cs (k + 1) (k + 3) x 0 (omega arith))
      (get_or-set_other cs (k + 1) (k + 4) x 0 (omega arith))

  sibling-read : k + 2 < length cs → node_from (set cs (k + 2) x) k ≡ with_sibling (node_from cs k) x
  sibling-read h =
      node-equal (node_from (set cs (k + 2) x) k) (with_sibling (node_from cs k) x)
      (get_or-set_other cs (k + 2) k x 0 (omega arith))
      (get_or-set_other cs (k + 2) (k + 1) x 0 (omega arith))
      (get_or-set_same cs (k + 2) x 0 h)
      (get_or-set_other cs (k + 2) (k + 3) x 0 (omega arith))
      (get_or-set_other cs (k + 2) (k + 4) x 0 (omega arith))

  link-read : k + 4 < length cs → node_from (set cs (k + 4) x) k ≡ with_link (node_from cs k) x
  link-read h =
      node-equal (node_from (set cs (k + 4) x) k) (with_link (node_from cs k) x)
      (get_or-set_other cs (k + 4) k x 0 (omega arith))
      (get_or-set_other cs (k + 4) (k + 1) x 0 (omega arith))
      (get_or-set_other cs (k + 4) (k + 2) x 0 (omega arith))
      (get_or-set_other cs (k + 4) (k + 3) x 0 (omega arith))
      (get_or-set_same cs (k + 4) x 0 h)

  state-read : k + 3 < length cs → subgoal_from (set cs (k + 3) x) k ≡ with_state (subgoal_from cs k) x
  state-read h =
      subgoal-equal (subgoal_from (set cs (k + 3) x) k) (with_state (subgoal_from cs k) x)
      (get_or-set_other cs (k + 3) k x 0 (omega arith))
      (get_or-set_other cs (k + 3) (k + 1) x 0 (omega arith))
      (get_or-set_other cs (k + 3) (k + 2) x 0 (omega arith))
      (get_or-set_same cs (k + 3) x 0 h)
      (get_or-set_other cs (k + 3) (k + 4) x 0 (omega arith))
      (get_or-set_other cs (k + 3) (k + 5) x 0 (omega arith))

  first_read : k + 4 < length cs → subgoal_from (set cs (k + 4) x) k ≡ with_first (subgoal_from cs k) x
  first_read h =
      subgoal-equal (subgoal_from (set cs (k + 4) x) k) (with_first (subgoal_from cs k) x)
      (get_or-set_other cs (k + 4) k x 0 (omega arith))
      (get_or-set_other cs (k + 4) (k + 1) x 0 (omega arith))
      (get_or-set_other cs (k + 4) (k + 2) x 0 (omega arith))
      (get_or-set_other cs (k + 4) (k + 3) x 0 (omega arith))
      (get_or-set_same cs (k + 4) x 0 h)
      (get_or-set_other cs (k + 4) (k + 5) x 0 (omega arith))

  last-read : k + 5 < length cs → subgoal_from (set cs (k + 5) x) k ≡ with_end (subgoal_from cs k) x
  last-read h =
      subgoal-equal (subgoal_from (set cs (k + 5) x) k) (with_end (subgoal_from cs k) x)
      (get_or-set_other cs (k + 5) k x 0 (omega arith))
      (get_or-set_other cs (k + 5) (k + 1) x 0 (omega arith))
      (get_or-set_other cs (k + 5) (k + 2) x 0 (omega arith))
      (get_or-set_other cs (k + 5) (k + 3) x 0 (omega arith))
      (get_or-set_other cs (k + 5) (k + 4) x 0 (omega arith))
      (get_or-set_same cs (k + 5) x 0 h)

  next-read : k + 2 < length cs → answer_from (set cs (k + 2) x) k ≡ with_next (answer_from cs k) x
  next-read h =
      answer-equal (answer_from (set cs (k + 2) x) k) (with_next (answer_from cs k) x)
      (get_or-set_other cs (k + 2) k x 0 (omega arith))
      (get_or-set_other cs (k + 2) (k + 1) x 0 (omega arith))
      (get_or-set_same cs (k + 2) x 0 h)

-- one cell of a row of w
set-kept : (k w j : ℕ) (cs : List ℕ) (x : ℕ) → j < w → Kept k (k + w) cs (set cs (k + j) x)
set-kept k w j cs x h = writes_kept k (k + w) (put (k + j) x ∷ []) cs (λ i l. omega arith) (λ i l. omega arith)

-- ---- the view after a write

module _ {z : Sizes} (wide : Wide z) {p q : ℕ} {cs : List ℕ} {v : View} (H : Holds z p q cs v) where
  module _ (i : ℕ) (h : i < v.N) where
    pub node-put : (y : Node) → Holds z p q (writes (node_to (node_at z i) y) cs) (with_nodes v (updated v.node i y))
    node-put y =
        let f = node-inside wide H i h in
        node-changed wide H i y h
        (writes_kept (node_at z i) (node_at z i + z.node) (node_to (node_at z i) y) cs (λ j l. omega arith) (λ j l. omega arith))
        (node-written (node_at z i) y cs (omega arith))

    module _ (x : ℕ) where
      pub child-set : Holds z p q (set cs (child_cell z i) x) (with_nodes v (updated v.node i (with_child (v.node i) x)))
      child-set =
          let f = node-inside wide H i h in
          node-changed wide H i (with_child (v.node i) x) h (set-kept (node_at z i) z.node 1 cs x (omega arith))
          (child-read cs (node_at z i) x (omega arith) ∙ ap (λ (y : Node). with_child y x) (H.node-held i h))

      pub sibling-set : Holds z p q (set cs (sibling_cell z i) x) (with_nodes v (updated v.node i (with_sibling (v.node i) x)))
      sibling-set =
          let f = node-inside wide H i h in
          node-changed wide H i (with_sibling (v.node i) x) h (set-kept (node_at z i) z.node 2 cs x (omega arith))
          (sibling-read cs (node_at z i) x (omega arith) ∙ ap (λ (y : Node). with_sibling y x) (H.node-held i h))

      pub link_set : Holds z p q (set cs (link_cell z i) x) (with_nodes v (updated v.node i (with_link (v.node i) x)))
      link_set =
          let f = node-inside wide H i h in
          node-changed wide H i (with_link (v.node i) x) h (set-kept (node_at z i) z.node 4 cs x (omega arith))
          (link-read cs (node_at z i) x (omega arith) ∙ ap (λ (y : Node). with_link y x) (H.node-held i h))

  module _ (s : ℕ) (l : 1 ≤ s) (m : s ≤ v.F) where
    pub subgoal-put : (y : Subgoal) → Holds z p q (writes (subgoal_to (subgoal_at z p s) y) cs) (with_subgoals v (updated v.subgoal s y))
    subgoal-put y =
        let f = subgoal-inside wide H s l m in
        subgoal-changed wide H s y l m
        (writes_kept (subgoal_at z p s) (subgoal_at z p s + z.subgoal) (subgoal_to (subgoal_at z p s) y) cs (λ j i. omega arith) (λ j i. omega arith))
        (subgoal-written (subgoal_at z p s) y cs (omega arith))

    module _ (x : ℕ) where
      pub state-set : Holds z p q (set cs (state_cell z p s) x) (with_subgoals v (updated v.subgoal s (with_state (v.subgoal s) x)))
      state-set =
          let f = subgoal-inside wide H s l m in
          subgoal-changed wide H s (with_state (v.subgoal s) x) l m (set-kept (subgoal_at z p s) z.subgoal 3 cs x (omega arith))
          (state-read cs (subgoal_at z p s) x (omega arith) ∙ ap (λ (y : Subgoal). with_state y x) (H.subgoal-held s l m))

      pub first-set : Holds z p q (set cs (first_cell z p s) x) (with_subgoals v (updated v.subgoal s (with_first (v.subgoal s) x)))
      first-set =
          let f = subgoal-inside wide H s l m in
          subgoal-changed wide H s (with_first (v.subgoal s) x) l m (set-kept (subgoal_at z p s) z.subgoal 4 cs x (omega arith))
          (first_read cs (subgoal_at z p s) x (omega arith) ∙ ap (λ (y : Subgoal). with_first y x) (H.subgoal-held s l m))

      pub last_set : Holds z p q (set cs (last_cell z p s) x) (with_subgoals v (updated v.subgoal s (with_end (v.subgoal s) x)))
      last_set =
          let f = subgoal-inside wide H s l m in
          subgoal-changed wide H s (with_end (v.subgoal s) x) l m (set-kept (subgoal_at z p s) z.subgoal 5 cs x (omega arith))
          (last-read cs (subgoal_at z p s) x (omega arith) ∙ ap (λ (y : Subgoal). with_end y x) (H.subgoal-held s l m))

  module _ (a : ℕ) (l : 1 ≤ a) (m : a ≤ v.A) where
    pub answer-put : (y : Answer) → Holds z p q (writes (answer_to (answer_at z q a) y) cs) (with_answers v (updated v.answer a y))
    answer-put y =
        let f = answer-inside wide H a l m in
        answer-changed wide H a y l m
        (writes_kept (answer_at z q a) (answer_at z q a + z.answer) (answer_to (answer_at z q a) y) cs (λ j i. omega arith) (λ j i. omega arith))
        (answer-written (answer_at z q a) y cs (omega arith))

    pub next-set : (x : ℕ) → Holds z p q (set cs (next_cell z q a) x) (with_answers v (updated v.answer a (with_next (v.answer a) x)))
    next-set x =
        let f = answer-inside wide H a l m in
        answer-changed wide H a (with_next (v.answer a) x) l m (set-kept (answer_at z q a) z.answer 2 cs x (omega arith))
        (next-read cs (answer_at z q a) x (omega arith) ∙ ap (λ (y : Answer). with_next y x) (H.answer-held a l m))

-- ---- a path

module _ (at : ℕ → Node) (n parent last token m : ℕ) where
  appended-first : eqb last 0 ≡ true → updated (updated at parent (with_child (at parent) n)) n (new_node token parent) m ≡ with_node at n parent last token m
  unfolding with_node
  appended-first t =
      by_cases (eqb m n) (λ e. simp (e)) (λ e.
      by_cases (eqb m parent)
      (λ f. simp (e, t, f) (ap (λ (k : ℕ). with_child (at k) n) (sym (eqb-true m parent f))))
      (λ f. simp (e, t, f)))

  appended-after : eqb last 0 ≡ false → updated (updated at last (with_sibling (at last) n)) n (new_node token parent) m ≡ with_node at n parent last token m
  unfolding with_node
  appended-after t =
      by_cases (eqb m n) (λ e. simp (e)) (λ e.
      by_cases (eqb m last)
      (λ f. simp (e, t, f) (ap (λ (k : ℕ). with_sibling (at k) n) (sym (eqb-true m last f))))
      (λ f. simp (e, t, f)))

module _ (z : Sizes) (parent last : ℕ) where
  lead-first : eqb last 0 ≡ true → lead_cell z parent last ≡ child_cell z parent
  unfolding lead_cell
  lead-first t = simp t

  lead_after : eqb last 0 ≡ false → lead_cell z parent last ≡ sibling_cell z last
  unfolding lead_cell
  lead_after t = simp t

module _ {z : Sizes} (wide : Wide z) {p q : ℕ} where
  node-appended : (cs : List ℕ) (v : View) (n parent last token : ℕ) → Holds z p q cs v → parent < n → last < n → n < v.N
      → Holds z p q (append_node z cs n parent last token) (with_nodes v (with_node v.node n parent last token))
  unfolding append_node
  node-appended cs v n parent last token H a b h =
      by_cases (eqb last 0)
      (λ t. rw (lead-first z parent last t)
      (nodes-like wide (node-put wide (child-set wide H parent (omega arith) n) n h (new_node token parent))
      (with_node v.node n parent last token) (λ m l. appended-first v.node n parent last token m t)))
      (λ t. rw (lead_after z parent last t)
      (nodes-like wide (node-put wide (sibling-set wide H last (omega arith) n) n h (new_node token parent))
      (with_node v.node n parent last token) (λ m l. appended-after v.node n parent last token m t)))

  pub path-appended : (xs : List ℕ) (cs : List ℕ) (v : View) (n parent last : ℕ) → Holds z p q cs v → parent < n → last < n → n + length xs ≤ v.N
      → Holds z p q (append_path z cs n parent last xs) (with_nodes v (with_path v.node n parent last xs))
  unfolding append_path with_path
  path-appended [] cs v n parent last H a b h = nodes-like wide H v.node (λ m l. refl)
  path-appended (x ∷ xs) cs v n parent last H a b h =
      path-appended xs (append_node z cs n parent last x) (with_nodes v (with_node v.node n parent last x)) (n + 1) n 0
      (node-appended cs v n parent last x H a b (omega arith)) (omega arith) (omega arith) (omega arith)
