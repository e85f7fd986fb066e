use mathlib.Core.Path.{◌≡◌}
use lib.ListN.{length}
use Rattle.copying.specs.Clauses.{with_states}
use Rattle.copying.proofs.writing.carry_states.Given as goal

abbrev pub invariant-loop-i : goal.invariant-loop-i
invariant-loop-i l =
    (l.target ≡ with_states l.source l.h l.offset l.initial.target l.i) × (length l.initial.target ≡ length l.target)
