-- The link that a node has by its key: the number of the subgoal or of the answer whose form ends there, or 0.
use mathlib.Core.Path.{◌≡◌, refl, ◌∙◌}
use mathlib.Core.Bool.{false}
use mathlib.Core.List.{[], ◌∷◌}
use Prim.Native.Nat.{ℕ, zero, suc, ◌<◌}
use native.Mathlib.Omega.{arith}
use lib.Dec.{eqb}
use lib.ListN.{length}
use borrow.Author.Tests.{ne_eqb}
use Rattle.basis.specs.Choice.{pick}
use Rattle.basis.proofs.Cases.{by_cases}
use Rattle.forms.specs.Compact.{same}
use Rattle.plain.specs.Words.{Word, has}
use Rattle.plain.specs.Table.{Table, called_forms, answers_to, subgoal_of, answer_of, with_subgoal, with_answer}
use Rattle.plain.proofs.NumberLaws.{subgoal_of-new, answer_of-new}

-- a key begins with the number of its trie, 0 for that of the subgoals
unfoldable pub link_of : Table → Word → ℕ
link_of t [] = 0
link_of t (zero ∷ w) = subgoal_of t w
link_of t (suc s ∷ w) = answer_of t (suc s) w

pub link_of-call : (t : Table) (w : Word) (m : ℕ) (y : Word) → has (called_forms t.subgoals) w ≡ false
    → link_of (with_subgoal t w m) y ≡ pick (same (0 ∷ w) y) (suc (length t.subgoals)) (link_of t y)
unfolding link_of same
link_of-call t w m [] e = refl
link_of-call t w m (zero ∷ u) e = subgoal_of-new t w u m e
link_of-call t w m (suc s ∷ u) e = rw (ne_eqb 0 (suc s) (λ z. omega arith)) (unfold answer_of in refl)

pub link_of-answer : (t : Table) (s : ℕ) (w : Word) (y : Word) → 0 < s → has (answers_to t.answers s) w ≡ false
    → link_of (with_answer t s w) y ≡ pick (same (s ∷ w) y) (suc (length t.answers)) (link_of t y)
unfolding link_of same
link_of-answer t s w [] h e = refl
link_of-answer t s w (zero ∷ u) h e = rw (ne_eqb s 0 (λ z. omega arith)) (unfold subgoal_of in refl)
link_of-answer t s w (suc x ∷ u) h e =
    answer_of-new t s w (suc x) u e ∙ by_cases (eqb s (suc x)) (λ p. by_cases (same w u) (λ q. rw (p, q)) (λ q. rw (p, q))) (λ p. rw p)
