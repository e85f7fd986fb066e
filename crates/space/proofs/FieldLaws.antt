-- A record is read field by field from its first cell on, and written field by field or whole: one law for each.
use Prim.Native.Nat.{ℕ, ◌+◌}
use mathlib.Core.Path.{◌≡◌, ap, ◌∙◌}
use mathlib.Core.List.{List}
use native.Mathlib.Omega.{arith}
use lib.ListN.{get_or, set}
use Rattle.basis.specs.Writes.{Write, writes}
use Rattle.space.specs.Layout.{node_from, subgoal_from, answer_from}
use Rattle.space.specs.declared.Node.{Node}
use Rattle.space.specs.declared.Subgoal.{Subgoal}
use Rattle.space.specs.declared.Answer.{Answer}
use Rattle.space.proofs.LayoutLaws.{node-equal, subgoal-equal, answer-equal}

-- what was read at k, which is the cell j
pub field-read : (cs : List ℕ) (x j k : ℕ) → x ≡ get_or cs k 0 → k ≡ j → x ≡ get_or cs j 0
field-read cs x j k h e = h ∙ ap (λ (i : ℕ). get_or cs i 0) e

-- what was written at k, which is the place p: a field i behind it, and a whole record
pub field-written : (s u : List ℕ) (v i p k : ℕ) → u ≡ set s (k + i) v → k ≡ p → u ≡ set s (p + i) v
field-written s u v i p k h e = h ∙ ap (λ (j : ℕ). set s (j + i) v) e

pub record-written : (s : List ℕ) (cells : ℕ → List Write) (p k : ℕ) → k ≡ p → writes (cells k) s ≡ writes (cells p) s
record-written s cells p k e = ap (λ (j : ℕ). writes (cells j) s) e

-- the record whose fields were read from k on, which is the place p
module _ (cs : List ℕ) (k p : ℕ) (e : k ≡ p) where
  pub node-fields : (y : Node) → y.token ≡ get_or cs k 0 → y.child ≡ get_or cs (k + 1) 0 → y.sibling ≡ get_or cs (k + 2) 0
      → y.parent ≡ get_or cs (k + 3) 0 → y.link ≡ get_or cs (k + 4) 0 → y ≡ node_from cs p
  node-fields y t c s q l =
      node-equal y (node_from cs p) (field-read cs _ p k t e) (field-read cs _ (p + 1) (k + 1) c (omega arith))
      (field-read cs _ (p + 2) (k + 2) s (omega arith)) (field-read cs _ (p + 3) (k + 3) q (omega arith))
      (field-read cs _ (p + 4) (k + 4) l (omega arith))

  pub subgoal-fields : (y : Subgoal) → y.leaf ≡ get_or cs (k + 0) 0 → y.root ≡ get_or cs (k + 1) 0
      → y.variables ≡ get_or cs (k + 2) 0 → y.state ≡ get_or cs (k + 3) 0 → y.first ≡ get_or cs (k + 4) 0
      → y.last ≡ get_or cs (k + 5) 0 → y ≡ subgoal_from cs p
  subgoal-fields y l r v s f z =
      subgoal-equal y (subgoal_from cs p) (field-read cs _ p (k + 0) l (omega arith))
      (field-read cs _ (p + 1) (k + 1) r (omega arith)) (field-read cs _ (p + 2) (k + 2) v (omega arith))
      (field-read cs _ (p + 3) (k + 3) s (omega arith)) (field-read cs _ (p + 4) (k + 4) f (omega arith))
      (field-read cs _ (p + 5) (k + 5) z (omega arith))

  pub answer-fields : (y : Answer) → y.leaf ≡ get_or cs (k + 0) 0 → y.subgoal ≡ get_or cs (k + 1) 0
      → y.next ≡ get_or cs (k + 2) 0 → y ≡ answer_from cs p
  answer-fields y l s n =
      answer-equal y (answer_from cs p) (field-read cs _ p (k + 0) l (omega arith))
      (field-read cs _ (p + 1) (k + 1) s (omega arith)) (field-read cs _ (p + 2) (k + 2) n (omega arith))
