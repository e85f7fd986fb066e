-- A record written whole is read as it was written, and one that no write touches stays.
use Prim.Native.Nat.{ℕ, ◌+◌, ◌<◌, ◌≤◌}
use mathlib.Core.Path.{◌≡◌, ap, ◌∙◌}
use mathlib.Core.Logic.{◌⊎◌, inl, inr}
use mathlib.Core.List.{List, [], ◌∷◌}
use native.Mathlib.Omega.{arith}
use lib.ListN.{length, set, length-set}
use Rattle.basis.specs.Writes.{Write, put, writes}
use Rattle.basis.proofs.WritesLaws.{Apart, writes-frame, writes-first}
use Rattle.space.specs.Layout.{node_from, subgoal_from, answer_from, node_to, subgoal_to, answer_to}
use Rattle.space.specs.declared.Node.{Node}
use Rattle.space.specs.declared.Subgoal.{Subgoal}
use Rattle.space.specs.declared.Answer.{Answer}

-- records are equal by their fields
pub node-equal : (y z : Node) → y.token ≡ z.token → y.child ≡ z.child → y.sibling ≡ z.sibling → y.parent ≡ z.parent → y.link ≡ z.link → y ≡ z
node-equal y z t c s p l =
    ap (λ (x : ℕ). record { token = x; child = y.child; sibling = y.sibling; parent = y.parent; link = y.link }) t
    ∙ ap (λ (x : ℕ). record { token = z.token; child = x; sibling = y.sibling; parent = y.parent; link = y.link }) c
    ∙ ap (λ (x : ℕ). record { token = z.token; child = z.child; sibling = x; parent = y.parent; link = y.link }) s
    ∙ ap (λ (x : ℕ). record { token = z.token; child = z.child; sibling = z.sibling; parent = x; link = y.link }) p
    ∙ ap (λ (x : ℕ). record { token = z.token; child = z.child; sibling = z.sibling; parent = z.parent; link = x }) l

pub subgoal-equal : (y z : Subgoal) → y.leaf ≡ z.leaf → y.root ≡ z.root → y.variables ≡ z.variables → y.state ≡ z.state → y.first ≡ z.first → y.last ≡ z.last → y ≡ z
subgoal-equal y z l r v s f e =
    ap (λ (x : ℕ). record { leaf = x; root = y.root; variables = y.variables; state = y.state; first = y.first; last = y.last }) l
    ∙ ap (λ (x : ℕ). record { leaf = z.leaf; root = x; variables = y.variables; state = y.state; first = y.first; last = y.last }) r
    ∙ ap (λ (x : ℕ). record { leaf = z.leaf; root = z.root; variables = x; state = y.state; first = y.first; last = y.last }) v
    ∙ ap (λ (x : ℕ). record { leaf = z.leaf; root = z.root; variables = z.variables; state = x; first = y.first; last = y.last }) s
    ∙ ap (λ (x : ℕ). record { leaf = z.leaf; root = z.root; variables = z.variables; state = z.state; first = x; last = y.last }) f
    ∙ ap (λ (x : ℕ). record { leaf = z.leaf; root = z.root; variables = z.variables; state = z.state; first = z.first; last = x }) e

pub answer-equal : (y z : Answer) → y.leaf ≡ z.leaf → y.subgoal ≡ z.subgoal → y.next ≡ z.next → y ≡ z
answer-equal y z l s n =
    ap (λ (x : ℕ). record { leaf = x; subgoal = y.subgoal; next = y.next }) l
    ∙ ap (λ (x : ℕ). record { leaf = z.leaf; subgoal = x; next = y.next }) s
    ∙ ap (λ (x : ℕ). record { leaf = z.leaf; subgoal = z.subgoal; next = x }) n

-- a place outside a record
pub node-apart : (k j : ℕ) (y : Node) → (j < k) ⊎ (k + 5 ≤ j) → Apart j (node_to k y)
node-apart k j y (inl h) = omega arith
node-apart k j y (inr h) = omega arith

-- read after written
pub node-written : (k : ℕ) (y : Node) (s : List ℕ) → k + 5 ≤ length s → node_from (writes (node_to k y) s) k ≡ y
node-written k y s h =
    let s1 = set s k y.token in
    let s2 = set s1 (k + 1) y.child in
    let s3 = set s2 (k + 2) y.sibling in
    let s4 = set s3 (k + 3) y.parent in
    let l1 : length s1 ≡ length s = length-set s k y.token in
    let l2 : length s2 ≡ length s = length-set s1 (k + 1) y.child ∙ l1 in
    let l3 : length s3 ≡ length s = length-set s2 (k + 2) y.sibling ∙ l2 in
    let l4 : length s4 ≡ length s = length-set s3 (k + 3) y.parent ∙ l3 in
    node-equal (node_from (writes (node_to k y) s) k) y
    (writes-first k y.token (put (k + 1) y.child ∷ put (k + 2) y.sibling ∷ put (k + 3) y.parent ∷ put (k + 4) y.link ∷ []) s (omega arith) (omega arith))
    (writes-first (k + 1) y.child (put (k + 2) y.sibling ∷ put (k + 3) y.parent ∷ put (k + 4) y.link ∷ []) s1 (omega arith) (omega arith))
    (writes-first (k + 2) y.sibling (put (k + 3) y.parent ∷ put (k + 4) y.link ∷ []) s2 (omega arith) (omega arith))
    (writes-first (k + 3) y.parent (put (k + 4) y.link ∷ []) s3 (omega arith) (omega arith))
    (writes-first (k + 4) y.link [] s4 (omega arith) tt)

pub subgoal-written : (k : ℕ) (y : Subgoal) (s : List ℕ) → k + 6 ≤ length s → subgoal_from (writes (subgoal_to k y) s) k ≡ y
subgoal-written k y s h =
    let s1 = set s k y.leaf in
    let s2 = set s1 (k + 1) y.root in
    let s3 = set s2 (k + 2) y.variables in
    let s4 = set s3 (k + 3) y.state in
    let s5 = set s4 (k + 4) y.first in
    let l1 : length s1 ≡ length s = length-set s k y.leaf in
    let l2 : length s2 ≡ length s = length-set s1 (k + 1) y.root ∙ l1 in
    let l3 : length s3 ≡ length s = length-set s2 (k + 2) y.variables ∙ l2 in
    let l4 : length s4 ≡ length s = length-set s3 (k + 3) y.state ∙ l3 in
    let l5 : length s5 ≡ length s = length-set s4 (k + 4) y.first ∙ l4 in
    subgoal-equal (subgoal_from (writes (subgoal_to k y) s) k) y
    (writes-first k y.leaf (put (k + 1) y.root ∷ put (k + 2) y.variables ∷ put (k + 3) y.state ∷ put (k + 4) y.first ∷ put (k + 5) y.last ∷ []) s (omega arith) (omega arith))
    (writes-first (k + 1) y.root (put (k + 2) y.variables ∷ put (k + 3) y.state ∷ put (k + 4) y.first ∷ put (k + 5) y.last ∷ []) s1 (omega arith) (omega arith))
    (writes-first (k + 2) y.variables (put (k + 3) y.state ∷ put (k + 4) y.first ∷ put (k + 5) y.last ∷ []) s2 (omega arith) (omega arith))
    (writes-first (k + 3) y.state (put (k + 4) y.first ∷ put (k + 5) y.last ∷ []) s3 (omega arith) (omega arith))
    (writes-first (k + 4) y.first (put (k + 5) y.last ∷ []) s4 (omega arith) (omega arith))
    (writes-first (k + 5) y.last [] s5 (omega arith) tt)

pub answer-written : (k : ℕ) (y : Answer) (s : List ℕ) → k + 3 ≤ length s → answer_from (writes (answer_to k y) s) k ≡ y
answer-written k y s h =
    let s1 = set s k y.leaf in
    let s2 = set s1 (k + 1) y.subgoal in
    let l1 : length s1 ≡ length s = length-set s k y.leaf in
    let l2 : length s2 ≡ length s = length-set s1 (k + 1) y.subgoal ∙ l1 in
    answer-equal (answer_from (writes (answer_to k y) s) k) y
    (writes-first k y.leaf (put (k + 1) y.subgoal ∷ put (k + 2) y.next ∷ []) s (omega arith) (omega arith))
    (writes-first (k + 1) y.subgoal (put (k + 2) y.next ∷ []) s1 (omega arith) (omega arith))
    (writes-first (k + 2) y.next [] s2 (omega arith) tt)

-- no write is at one of the places from k on
abbrev pub Clear : ℕ → ℕ → List Write → Type 0
Clear k size ws = (j : ℕ) → k ≤ j → j < k + size → Apart j ws

module _ (ws : List Write) (s : List ℕ) (k : ℕ) where
  pub subgoal-stays : Clear k 6 ws → subgoal_from (writes ws s) k ≡ subgoal_from s k
  subgoal-stays c =
      subgoal-equal (subgoal_from (writes ws s) k) (subgoal_from s k)
      (writes-frame ws s k (c k (omega arith) (omega arith)))
      (writes-frame ws s (k + 1) (c (k + 1) (omega arith) (omega arith)))
      (writes-frame ws s (k + 2) (c (k + 2) (omega arith) (omega arith)))
      (writes-frame ws s (k + 3) (c (k + 3) (omega arith) (omega arith)))
      (writes-frame ws s (k + 4) (c (k + 4) (omega arith) (omega arith)))
      (writes-frame ws s (k + 5) (c (k + 5) (omega arith) (omega arith)))

  pub answer-stays : Clear k 3 ws → answer_from (writes ws s) k ≡ answer_from s k
  answer-stays c =
      answer-equal (answer_from (writes ws s) k) (answer_from s k)
      (writes-frame ws s k (c k (omega arith) (omega arith)))
      (writes-frame ws s (k + 1) (c (k + 1) (omega arith) (omega arith)))
      (writes-frame ws s (k + 2) (c (k + 2) (omega arith) (omega arith)))
