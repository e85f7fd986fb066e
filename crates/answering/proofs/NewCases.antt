-- What is known once a new answer is let in, or refused.
use Prim.Native.Nat.{ℕ, ◌+◌, ◌<◌, ◌≤◌}
use mathlib.Core.Path.{◌≡◌, refl, ap, ◌∙◌}
use mathlib.Core.List.{List}
use Rattle.std.specs.Prelude.{Err, Ok, Result}
use Rattle.basis.specs.Refusals.{number_of}
use Rattle.basis.specs.declared.refusals.Refusal.{Refusal}
use Rattle.plain.specs.Requests.{Reply, refused}
use Rattle.space.specs.declared.Head.{Head}
use Rattle.trie.specs.Siblings.{search_children}
use Rattle.store.specs.Clauses.{view_in, unless_refused, RefusesNew}
use Rattle.store.specs.Decisions.{Decision, answered_new}
use Rattle.store.proofs.CallsCases.{Decided, decided-says}
use Rattle.store.proofs.CallsAnswers.{new-accepted, nodes-left, record-left}

-- the decision stands, and there is room for it
pub record Admitted (cs : List ℕ) (h : Head) (s more : ℕ) : Type 0 where
  pub decided : (d : Decision) (r : Reply) (cs' : List ℕ) → Decided cs h d r cs' → Decided cs h (answered_new (view_in cs h) s more d) r cs'
  pub nodes_left : h.nodes + more ≤ h.node_capacity
  pub record_left : h.answers < h.answer_capacity

module _ (cs : List ℕ) (h : Head) (s more : ℕ) (x : Result Unit Refusal) (f : RefusesNew cs h s more x) where
  pub not_admitted : (r : Refusal) → x ≡ Err r → (d : Decision) → Decided cs h (answered_new (view_in cs h) s more d) (refused (number_of r)) cs
  not_admitted r e d = rw (f d ∙ ap (λ (y : Result Unit Refusal). unless_refused y d) e) (decided-says search_children cs h (refused (number_of r)))

  pub admitted : (u : Unit) → x ≡ Ok u → Admitted cs h s more
  admitted u e =
      let same : (d : Decision) → answered_new (view_in cs h) s more d ≡ d = λ d. f d ∙ ap (λ (y : Result Unit Refusal). unless_refused y d) e in
      record {
        decided = new-accepted cs h s more 0 same refl;
        nodes_left = nodes-left cs h s more 0 same refl;
        record_left = record-left cs h s more 0 same refl;
      }
