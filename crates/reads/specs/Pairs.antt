-- An answer read with the subgoal that it names: both records, or the refusal.
use Rattle.std.specs.Prelude.{ℕ, ◌≤◌, true, ◌≡◌, Result, MatchResult}
use Rattle.basis.specs.Refusals.{number_of}
use Rattle.basis.specs.declared.refusals.Refusal.{Refusal}
use Rattle.space.specs.Sound.{subgoal_under, answer_under}
use Rattle.space.specs.declared.tables.Table.{Table}
use Rattle.space.specs.declared.Answer.{Answer}
use Rattle.space.specs.declared.Subgoal.{Subgoal}
use Rattle.store.specs.Decisions.{Decision, refuses, known, sound, sound_pair}
use Rattle.store.specs.Clauses.{view_at}

-- there is an answer of this number; y is its record, g that of its subgoal, and both are sound
pub record PairHeld (t : Table) (a : ℕ) (y : Answer) (g : Subgoal) : Type 0 where
  pub answer-is : y ≡ answer_under t.cells.now t.head a
  pub subgoal-is : g ≡ subgoal_under t.cells.now t.head y.subgoal
  pub some : 1 ≤ a
  pub within : a ≤ t.head.answers
  pub both-sound : sound_pair (view_at t) a ≡ true

-- r is what the number and the two records come to, whatever would follow
abbrev pub PairRefused : Table → ℕ → Refusal → Type 0
PairRefused t a r =
    (d : Decision) → refuses (number_of r) ≡ known t.head.answers a (sound (sound_pair (view_at t) a) d)

abbrev pub PairRead : Table → ℕ → Result (Answer × Subgoal) Refusal → Type 0
PairRead t a r = MatchResult r (λ p. PairHeld t a p.0 p.1) (λ k. PairRefused t a k)
