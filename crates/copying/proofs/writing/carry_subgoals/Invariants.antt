use mathlib.Core.Path.{◌≡◌}
use lib.ListN.{length}
use Rattle.copying.specs.Clauses.{with_first}
use Rattle.copying.proofs.writing.carry_subgoals.Given as goal

abbrev pub invariant-loop-i : goal.invariant-loop-i
invariant-loop-i l = (l.target ≡ with_first l.source l.h l.initial.target l.i) × (length l.target ≡ length l.initial.target)
