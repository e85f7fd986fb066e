use mathlib.Core.Path.{◌≡◌}
use mathlib.Core.Bool.{true}
use Rattle.agreement.specs.Whole.{every_below}
use Rattle.sources.specs.Records.{differs_at}
use Rattle.sources.proofs.comparing.all_differ.Given as goal

abbrev pub invariant-loop-i : goal.invariant-loop-i
invariant-loop-i l = (every_below (differs_at l.source l.x) l.i ≡ true)
