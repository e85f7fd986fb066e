-- What an append changes and what it leaves.
use Rattle.std.proofs.Common.{◌≡◌, ℕ, ◌+◌, ◌*◌, ◌<◌, ◌≤◌, eqb, ltb, ◌⊎◌, List, [], ◌∷◌, length, get_or, set, sym, refl, ap, ◌∙◌, inl, inr, arith, length-set, ltb-false, ltb-true, eq-eqb, ne_eqb, eqb-true}
use borrow.Author.Tests.{eqb-false}
use Rattle.basis.specs.Writes.{put}
use Rattle.basis.proofs.Cases.{by_cases}
use Rattle.basis.proofs.WritesLaws.{length-writes, writes-frame, writes-first}
use Rattle.space.specs.Layout.{sizes, node_at, node_in, node_to}
use Rattle.space.specs.declared.Node.{Node}
use Rattle.space.proofs.LayoutLaws.{node-equal, node-apart, node-written}
use Rattle.trie.specs.Append.{new_node, lead_cell, append_node, append_path, with_child, with_sibling, with_node, with_path}
use Rattle.trie.proofs.AppendCases.{lead-child, lead-sibling, lead-below}

-- the cases of a reader with a node appended
module _ (at : ℕ → Node) (n parent last token m : ℕ) where
  pub with-new : m ≡ n → with_node at n parent last token m ≡ new_node token parent
  unfolding with_node
  with-new e = simp (eq-eqb _ _ e)

  module _ (e : m ≡ n → ⊥) where
    pub with-child : last ≡ 0 → m ≡ parent → with_node at n parent last token m ≡ with_child (at m) n
    unfolding with_node
    with-child l p = simp (ne_eqb _ _ e, eq-eqb _ _ l, eq-eqb _ _ p)

    pub with-no-child : last ≡ 0 → (m ≡ parent → ⊥) → with_node at n parent last token m ≡ at m
    unfolding with_node
    with-no-child l p = simp (ne_eqb _ _ e, eq-eqb _ _ l, ne_eqb _ _ p)

    pub with-sibling : (last ≡ 0 → ⊥) → m ≡ last → with_node at n parent last token m ≡ with_sibling (at m) n
    unfolding with_node
    with-sibling l p = simp (ne_eqb _ _ e, ne_eqb _ _ l, eq-eqb _ _ p)

    pub with-no-sibling : (last ≡ 0 → ⊥) → (m ≡ last → ⊥) → with_node at n parent last token m ≡ at m
    unfolding with_node
    with-no-sibling l p = simp (ne_eqb _ _ e, ne_eqb _ _ l, ne_eqb _ _ p)

pub append-node-size : (s : List ℕ) (n parent last token : ℕ) → length (append_node sizes s n parent last token) ≡ length s
unfolding append_node
append-node-size s n parent last token = length-writes (put (lead_cell sizes parent last) n ∷ node_to (node_at sizes n) (new_node token parent)) s

pub append-size : (xs s : List ℕ) (n parent last : ℕ) → length (append_path sizes s n parent last xs) ≡ length s
unfolding append_path
append-size [] s n parent last = refl
append-size (x ∷ xs) s n parent last = append-size xs (append_node sizes s n parent last x) (n + 1) n 0 ∙ append-node-size s n parent last x

lead-above : (parent last : ℕ) → 8 ≤ lead_cell sizes parent last
lead-above parent last =
    by_cases (eqb last 0)
    (λ e. rw (← lead-child parent last (eqb-true _ _ e)) (omega arith))
    (λ e. rw (← lead-sibling parent last (eqb-false _ _ e)) (omega arith))

-- one node appended
module _ (s : List ℕ) (n parent last token : ℕ) where
  cell-kept : (j : ℕ) → (j < 8 + 5 * n) ⊎ (8 + 5 * n + 5 ≤ j) → (j ≡ lead_cell sizes parent last → ⊥) → get_or (append_node sizes s n parent last token) j 0 ≡ get_or s j 0
  unfolding append_node
  cell-kept j o e =
      writes-frame (put (lead_cell sizes parent last) n ∷ node_to (node_at sizes n) (new_node token parent)) s j
      (e, node-apart (8 + 5 * n) j (new_node token parent) o)

  cell-led : parent < n → last < n → 8 + 5 * (n + 1) ≤ length s → get_or (append_node sizes s n parent last token) (lead_cell sizes parent last) 0 ≡ n
  unfolding append_node
  cell-led p l h =
      let b = lead-below parent last n p l in
      writes-first (lead_cell sizes parent last) n (node_to (node_at sizes n) (new_node token parent)) s (omega arith)
      (node-apart (8 + 5 * n) (lead_cell sizes parent last) (new_node token parent) (inl b))

  node-new : 8 + 5 * (n + 1) ≤ length s → node_in sizes (append_node sizes s n parent last token) n ≡ new_node token parent
  unfolding append_node
  node-new h = node-written (8 + 5 * n) (new_node token parent) (set s (lead_cell sizes parent last) n) (omega (arith, length-set s (lead_cell sizes parent last) n))

  -- a cell of another node
  module _ (m : ℕ) (e : m ≡ n → ⊥) where
    outside : (k : ℕ) → k < 5 → (8 + 5 * m + k < 8 + 5 * n) ⊎ (8 + 5 * n + 5 ≤ 8 + 5 * m + k)
    outside k h =
        by_cases (ltb m n)
        (λ t. let l : m < n = ltb-true _ _ t in inl (omega arith))
        (λ t. let l : n ≤ m = ltb-false _ _ t in inr (omega arith))

    first-outside : (8 + 5 * m < 8 + 5 * n) ⊎ (8 + 5 * n + 5 ≤ 8 + 5 * m)
    first-outside =
        by_cases (ltb m n)
        (λ t. let l : m < n = ltb-true _ _ t in inl (omega arith))
        (λ t. let l : n ≤ m = ltb-false _ _ t in inr (omega arith))

    node_kept : (8 + 5 * m ≡ lead_cell sizes parent last → ⊥) → (8 + 5 * m + 1 ≡ lead_cell sizes parent last → ⊥)
        → (8 + 5 * m + 2 ≡ lead_cell sizes parent last → ⊥) → (8 + 5 * m + 3 ≡ lead_cell sizes parent last → ⊥)
        → (8 + 5 * m + 4 ≡ lead_cell sizes parent last → ⊥) → node_in sizes (append_node sizes s n parent last token) m ≡ node_in sizes s m
    node_kept a b c d f =
        node-equal (node_in sizes (append_node sizes s n parent last token) m) (node_in sizes s m)
        (cell-kept (8 + 5 * m) first-outside a)
        (cell-kept (8 + 5 * m + 1) (outside 1 (omega arith)) b)
        (cell-kept (8 + 5 * m + 2) (outside 2 (omega arith)) c)
        (cell-kept (8 + 5 * m + 3) (outside 3 (omega arith)) d)
        (cell-kept (8 + 5 * m + 4) (outside 4 (omega arith)) f)

  module _ (p : parent < n) (l : last < n) (h : 8 + 5 * (n + 1) ≤ length s) (m : ℕ) where
    kept-child : (m ≡ n → ⊥) → last ≡ 0 → node_in sizes (append_node sizes s n parent last token) m ≡ with_node (node_in sizes s) n parent last token m
    kept-child e z =
        let c : 8 + 5 * parent + 1 ≡ lead_cell sizes parent last = lead-child parent last z in
        by_cases (eqb m parent)
        (λ t. let q : m ≡ parent = eqb-true _ _ t in
        node-equal (node_in sizes (append_node sizes s n parent last token) m) (with_child (node_in sizes s m) n)
        (cell-kept (8 + 5 * m) (first-outside m e) (omega arith))
        (ap (λ (j : ℕ). get_or (append_node sizes s n parent last token) j 0) (let d : 8 + 5 * m + 1 ≡ lead_cell sizes parent last = omega arith in d) ∙ cell-led p l h)
        (cell-kept (8 + 5 * m + 2) (outside m e 2 (omega arith)) (omega arith))
        (cell-kept (8 + 5 * m + 3) (outside m e 3 (omega arith)) (omega arith))
        (cell-kept (8 + 5 * m + 4) (outside m e 4 (omega arith)) (omega arith))
        ∙ sym (with-child (node_in sizes s) n parent last token m e z q))
        (λ t. let q : m ≡ parent → ⊥ = eqb-false _ _ t in
        node_kept m e (omega arith) (omega arith) (omega arith) (omega arith) (omega arith)
        ∙ sym (with-no-child (node_in sizes s) n parent last token m e z q))

    kept-sibling : (m ≡ n → ⊥) → (last ≡ 0 → ⊥) → node_in sizes (append_node sizes s n parent last token) m ≡ with_node (node_in sizes s) n parent last token m
    kept-sibling e z =
        let c : 8 + 5 * last + 2 ≡ lead_cell sizes parent last = lead-sibling parent last z in
        by_cases (eqb m last)
        (λ t. let q : m ≡ last = eqb-true _ _ t in
        node-equal (node_in sizes (append_node sizes s n parent last token) m) (with_sibling (node_in sizes s m) n)
        (cell-kept (8 + 5 * m) (first-outside m e) (omega arith))
        (cell-kept (8 + 5 * m + 1) (outside m e 1 (omega arith)) (omega arith))
        (ap (λ (j : ℕ). get_or (append_node sizes s n parent last token) j 0) (let d : 8 + 5 * m + 2 ≡ lead_cell sizes parent last = omega arith in d) ∙ cell-led p l h)
        (cell-kept (8 + 5 * m + 3) (outside m e 3 (omega arith)) (omega arith))
        (cell-kept (8 + 5 * m + 4) (outside m e 4 (omega arith)) (omega arith))
        ∙ sym (with-sibling (node_in sizes s) n parent last token m e z q))
        (λ t. let q : m ≡ last → ⊥ = eqb-false _ _ t in
        node_kept m e (omega arith) (omega arith) (omega arith) (omega arith) (omega arith)
        ∙ sym (with-no-sibling (node_in sizes s) n parent last token m e z q))

    -- the records after it are those of the reader with a node appended
    pub append-node-records : node_in sizes (append_node sizes s n parent last token) m ≡ with_node (node_in sizes s) n parent last token m
    append-node-records =
        by_cases (eqb m n)
        (λ t. let e : m ≡ n = eqb-true _ _ t in
        ap (node_in sizes (append_node sizes s n parent last token)) e ∙ node-new h ∙ sym (with-new (node_in sizes s) n parent last token m e))
        (λ t. by_cases (eqb last 0) (λ z. kept-child (eqb-false _ _ t) (eqb-true _ _ z)) (λ z. kept-sibling (eqb-false _ _ t) (eqb-false _ _ z)))

-- a reader with a path appended reads, of each record, only that record
with-node-same : (at at' : ℕ → Node) (n parent last token m : ℕ) → at m ≡ at' m → with_node at n parent last token m ≡ with_node at' n parent last token m
unfolding with_node
with-node-same at at' n parent last token m e = rw e

with-path-same : (xs : List ℕ) (at at' : ℕ → Node) (n parent last m : ℕ) → at m ≡ at' m → with_path at n parent last xs m ≡ with_path at' n parent last xs m
unfolding with_path
with-path-same [] at at' n parent last m e = e
with-path-same (x ∷ xs) at at' n parent last m e =
    with-path-same xs (with_node at n parent last x) (with_node at' n parent last x) (n + 1) n 0 m (with-node-same at at' n parent last x m e)

-- the records after an append
pub append-records : (xs s : List ℕ) (n parent last m : ℕ) → parent < n → last < n → 8 + 5 * (n + length xs) ≤ length s →
    node_in sizes (append_path sizes s n parent last xs) m ≡ with_path (node_in sizes s) n parent last xs m
unfolding append_path with_path
append-records [] s n parent last m p l h = refl
append-records (x ∷ xs) s n parent last m p l h =
    append-records xs (append_node sizes s n parent last x) (n + 1) n 0 m (omega arith) (omega arith) (omega (arith, append-node-size s n parent last x))
    ∙ with-path-same xs (node_in sizes (append_node sizes s n parent last x)) (with_node (node_in sizes s) n parent last x) (n + 1) n 0 m
    (append-node-records s n parent last x p l (omega arith) m)

-- the cells before the nodes and after the last new one stay
pub append-frame : (xs s : List ℕ) (n parent last j : ℕ) → parent < n → last < n → (j < 8) ⊎ (8 + 5 * (n + length xs) ≤ j) →
    get_or (append_path sizes s n parent last xs) j 0 ≡ get_or s j 0
unfolding append_path
append-frame [] s n parent last j p l o = refl
append-frame (x ∷ xs) s n parent last j p l (inl h) =
    append-frame xs (append_node sizes s n parent last x) (n + 1) n 0 j (omega arith) (omega arith) (inl h)
    ∙ cell-kept s n parent last x j (inl (omega arith)) (omega (arith, lead-above parent last))
append-frame (x ∷ xs) s n parent last j p l (inr h) =
    append-frame xs (append_node sizes s n parent last x) (n + 1) n 0 j (omega arith) (omega arith) (inr (omega arith))
    ∙ cell-kept s n parent last x j (inr (omega arith)) (omega (arith, lead-below parent last n p l))
