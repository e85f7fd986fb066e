-- A form that a join gives is entered as a single answer is: it writes what the decision on that answer changes. So the
-- way of finding a child has no part in what an answer writes.
use mathlib.Core.Path.{◌≡◌, refl}
use mathlib.Core.Bool.{◌&&◌}
use mathlib.Core.List.{List}
use Prim.Native.Nat.{ℕ, ◌+◌}
use lib.Dec.{eqb, leb, ltb}
use lib.ListN.{length}
use Rattle.basis.proofs.Cases.{by_cases}
use Rattle.plain.specs.Words.{Word}
use Rattle.plain.specs.Requests.{State, Open, Finished, Reply, refused}
use Rattle.space.specs.Layout.{Sizes}
use Rattle.space.specs.declared.Head.{Head}
use Rattle.trie.specs.Walks.{Walk, whole, stopped, damaged, Finding}
use Rattle.store.specs.Views.{View, view_of}
use Rattle.store.specs.Decisions as decisions
use Rattle.store.specs.Decisions.{Decision, says, sound_last, answered_new, answered_old, answered_at}
use Rattle.store.specs.Changes.{answer_given, change_by}

module _ (find : Finding) (z : Sizes) (cs : List ℕ) (h : Head) (s : ℕ) (w : Word) where
  abbrev v : View
  v = view_of z cs h

  -- the same by every test
  abbrev Written : Decision → Type 0
  Written d = change_by find z cs h d ≡ answer_given z cs h d

  says-written : (x : Reply) → Written (says x)
  unfolding change_by answer_given
  says-written x = refl

  open-written : (x : State) (d : Decision) → Written d → Written (decisions.while_open x d)
  open-written Open d e = e
  open-written Finished d e = says-written (refused 8)

  new-written : (more : ℕ) (d : Decision) → Written d → Written (answered_new v s more d)
  unfolding answered_new
  new-written more d e = by_cases (sound_last v s)
      (λ p. rw p (open-written (decisions.state_of (v.subgoal s).state) _ (by_cases (leb (v.nodes + more) v.N)
      (λ q. by_cases (ltb v.answers v.A) (λ r. rw (q, r) e) (λ r. rw (q, r) (says-written (refused 11))))
      (λ q. rw q (says-written (refused 10))))))
      (λ p. rw p (says-written (refused 9)))

  pub given-written : (x : Walk) → Written (answered_at (view_of z cs h) s w x)
  unfolding answered_at answered_old
  given-written (whole leaf) = by_cases (eqb (v.node leaf).link 0)
      (λ p. by_cases (eqb (length w) 0)
      (λ q. rw (p, q) (new-written 0 (decisions.enters_empty s) (unfold change_by answer_given in refl)))
      (λ q. rw (p, q) (says-written (refused 9))))
      (λ p. by_cases (decisions.sound_answer v (v.node leaf).link && eqb (v.answer (v.node leaf).link).leaf leaf)
      (λ q. rw (p, q) (says-written _))
      (λ q. rw (p, q) (says-written (refused 9))))
  given-written (stopped parent last left) = new-written (length left) (decisions.enters_answer s parent last left) (unfold change_by answer_given in refl)
  given-written damaged = says-written (refused 9)
