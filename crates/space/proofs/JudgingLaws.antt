-- What is known of a record that was read and found sound.
use Rattle.std.specs.Prelude.{None, Some}
use Prim.Native.Nat.{ℕ, ◌+◌, ◌<◌, ◌≤◌}
use mathlib.Core.Path.{◌≡◌, refl, sym, ◌∙◌}
use mathlib.Core.Bool.{true, false}
use native.Mathlib.Omega.{arith}
use lib.Dec.{eqb, ltb}
use borrow.Author.Tests.{lt-ltb, le-leb, leb-true, ltb-true, eqb-true, eqb-false}
use Rattle.basis.proofs.Cases.{by_cases}
use Rattle.basis.proofs.Tests.{at_most, true-not-false}
use Rattle.space.specs.Judging.{follows, both_or_neither, node_sound, subgoal_sound, answer_sound, read_node, read_subgoal, read_answer}
use Rattle.space.specs.declared.Node.{Node}
use Rattle.space.specs.declared.Subgoal.{Subgoal}
use Rattle.space.specs.declared.Answer.{Answer}
use Rattle.space.proofs.JudgingCases.{follows-none, follows-below, follows-above, node-child, node-sibling, node-parent, node-link, node-read, node-damaged, subgoal-leaf, subgoal-root, subgoal-variables, subgoal-state, subgoal-first, subgoal-last, subgoal-both, subgoal-read, subgoal-damaged, answer-leaf, answer-none, answer-subgoal, answer-next, answer-read, answer-damaged}

-- a number that follows n, where it is not 0
pub follows-rises : (bound n x : ℕ) → follows bound n x ≡ true → (x ≡ 0 → ⊥) → n < x
follows-rises bound n x e z = by_cases (ltb n x) (ltb-true n x) (λ t. absurd (true-not-false e (follows-below bound n x z (at_most _ _ (λ l. true-not-false (lt-ltb _ _ l) (sym t))))))

pub follows-within : (bound n x : ℕ) → 0 < bound → follows bound n x ≡ true → x < bound
follows-within bound n x h e =
    by_cases (eqb x 0) (λ t. let z : x ≡ 0 = eqb-true _ _ t in omega arith) (λ t.
    let z : x ≡ 0 → ⊥ = eqb-false _ _ t in
    ltb-true x bound (follows-above bound n x z (follows-rises bound n x e z) ∙ e))

-- one more record is used: what followed still does, and so does the new one
pub follows-zero : (bound n : ℕ) → follows bound n 0 ≡ true
follows-zero bound n = sym (follows-none bound n 0 refl)

pub follows-last : (bound n : ℕ) → n < bound → follows (bound + 1) n bound ≡ true
follows-last bound n h = sym (follows-above (bound + 1) n bound (omega arith) h) ∙ lt-ltb bound (bound + 1) (omega arith)

pub follows-more : (bound n x : ℕ) → follows bound n x ≡ true → follows (bound + 1) n x ≡ true
follows-more bound n x e =
    by_cases (eqb x 0) (λ t. sym (follows-none (bound + 1) n x (eqb-true _ _ t))) (λ t.
    let z : x ≡ 0 → ⊥ = eqb-false _ _ t in
    let r : n < x = follows-rises bound n x e z in
    let l : x < bound = ltb-true x bound (follows-above bound n x z r ∙ e) in
    sym (follows-above (bound + 1) n x z r) ∙ lt-ltb x (bound + 1) (omega arith))

pub record NodeBounds (nodes links n : ℕ) (y : Node) : Type 0 where
  pub child-follows : follows nodes n y.child ≡ true
  pub sibling-follows : follows nodes n y.sibling ≡ true
  pub parent-most : y.parent ≤ n
  pub link-most : y.link ≤ links

pub node-bounds : (nodes links n : ℕ) (y : Node) → node_sound nodes links n y ≡ true → NodeBounds nodes links n y
node-bounds nodes links n y t =
    let e : follows nodes n y.child ≡ true = by_cases (follows nodes n y.child) (λ x. x) (λ x. absurd (true-not-false t (node-child nodes links n y x))) in
    let f : follows nodes n y.sibling ≡ true = by_cases (follows nodes n y.sibling) (λ x. x) (λ x. absurd (true-not-false t (node-sibling nodes links n y e x))) in
    let g : y.parent ≤ n = at_most _ _ (λ l. true-not-false t (node-parent nodes links n y e f l)) in
    record { child-follows = e; sibling-follows = f; parent-most = g; link-most = leb-true _ _ (node-link nodes links n y e f g ∙ t) }

pub node-sound : (nodes links n : ℕ) (y : Node) → NodeBounds nodes links n y → node_sound nodes links n y ≡ true
node-sound nodes links n y b =
    sym (node-link nodes links n y b.child-follows b.sibling-follows b.parent-most) ∙ le-leb _ _ b.link-most

pub record SubgoalBounds (nodes answers : ℕ) (y : Subgoal) : Type 0 where
  pub leaf-below : y.leaf < nodes
  pub root_below : y.root < nodes
  pub variables-most : y.variables ≤ 32
  pub state-most : y.state ≤ 1
  pub first-most : y.first ≤ answers
  pub last-most : y.last ≤ answers
  pub first-and-last : both_or_neither y.first y.last ≡ true

pub subgoal-bounds : (nodes answers : ℕ) (y : Subgoal) → subgoal_sound nodes answers y ≡ true → SubgoalBounds nodes answers y
subgoal-bounds nodes answers y t =
    let h : y.leaf < nodes = at_most _ _ (λ l. true-not-false t (subgoal-leaf nodes answers y (omega arith))) in
    let i : y.root < nodes = at_most _ _ (λ l. true-not-false t (subgoal-root nodes answers y h (omega arith))) in
    let j : y.variables ≤ 32 = at_most _ _ (λ l. true-not-false t (subgoal-variables nodes answers y h i l)) in
    let k : y.state ≤ 1 = at_most _ _ (λ l. true-not-false t (subgoal-state nodes answers y h i j l)) in
    let f : y.first ≤ answers = at_most _ _ (λ l. true-not-false t (subgoal-first nodes answers y h i j k l)) in
    let m : y.last ≤ answers = at_most _ _ (λ l. true-not-false t (subgoal-last nodes answers y h i j k f l)) in
    record { leaf-below = h; root_below = i; variables-most = j; state-most = k; first-most = f; last-most = m; first-and-last = subgoal-both nodes answers y h i j k f m ∙ t }

pub record AnswerBounds (nodes subgoals answers a : ℕ) (y : Answer) : Type 0 where
  pub leaf-below : y.leaf < nodes
  pub subgoal-some : 0 < y.subgoal
  pub subgoal-most : y.subgoal ≤ subgoals
  pub next-follows : follows (answers + 1) a y.next ≡ true

pub answer-bounds : (nodes subgoals answers a : ℕ) (y : Answer) → answer_sound nodes subgoals answers a y ≡ true → AnswerBounds nodes subgoals answers a y
answer-bounds nodes subgoals answers a y t =
    let h : y.leaf < nodes = at_most _ _ (λ l. true-not-false t (answer-leaf nodes subgoals answers a y (omega arith))) in
    let i : 0 < y.subgoal = at_most _ _ (λ l. true-not-false t (answer-none nodes subgoals answers a y h (omega arith))) in
    let j : y.subgoal ≤ subgoals = at_most _ _ (λ l. true-not-false t (answer-subgoal nodes subgoals answers a y h i l)) in
    record { leaf-below = h; subgoal-some = i; subgoal-most = j; next-follows = answer-next nodes subgoals answers a y h i j ∙ t }

module _ (nodes links : ℕ) (at : ℕ → Node) (n : ℕ) where
  pub read-node-sound : {y : Node} → Some y ≡ read_node nodes links at n → (y ≡ at n) × (node_sound nodes links n (at n) ≡ true)
  read-node-sound {y} e =
      by_cases (node_sound nodes links n (at n))
      (λ t. let d = node-read nodes links at n (at n) refl t in (cc, t))
      (λ t. let d = node-damaged nodes links at n (at n) refl t in let z : ◌≡◌ {A = ℕ} 0 1 = cc in absurd (omega arith))

  pub read-node-damaged : None ≡ read_node nodes links at n → node_sound nodes links n (at n) ≡ false
  read-node-damaged e =
      by_cases (node_sound nodes links n (at n))
      (λ t. let d = node-read nodes links at n (at n) refl t in let z : ◌≡◌ {A = ℕ} 0 1 = cc in absurd (omega arith))
      (λ t. t)

module _ (nodes answers : ℕ) (at : ℕ → Subgoal) (s : ℕ) where
  pub read-subgoal-sound : {y : Subgoal} → Some y ≡ read_subgoal nodes answers at s → (y ≡ at s) × (subgoal_sound nodes answers (at s) ≡ true)
  read-subgoal-sound {y} e =
      by_cases (subgoal_sound nodes answers (at s))
      (λ t. let d = subgoal-read nodes answers at s (at s) refl t in (cc, t))
      (λ t. let d = subgoal-damaged nodes answers at s (at s) refl t in let z : ◌≡◌ {A = ℕ} 0 1 = cc in absurd (omega arith))

module _ (nodes subgoals answers : ℕ) (at : ℕ → Answer) (a : ℕ) where
  pub read-answer-sound : {y : Answer} → Some y ≡ read_answer nodes subgoals answers at a → (y ≡ at a) × (answer_sound nodes subgoals answers a (at a) ≡ true)
  read-answer-sound {y} e =
      by_cases (answer_sound nodes subgoals answers a (at a))
      (λ t. let d = answer-read nodes subgoals answers at a (at a) refl t in (cc, t))
      (λ t. let d = answer-damaged nodes subgoals answers at a (at a) refl t in let z : ◌≡◌ {A = ℕ} 0 1 = cc in absurd (omega arith))
