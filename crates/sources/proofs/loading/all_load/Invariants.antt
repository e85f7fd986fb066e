use mathlib.Core.Path.{◌≡◌}
use mathlib.Core.Bool.{true}
use Rattle.agreement.specs.Whole.{every_below}
use Rattle.sources.specs.Records.{loads_at}
use Rattle.sources.proofs.loading.all_load.Given as goal

abbrev pub invariant-loop-i : goal.invariant-loop-i
invariant-loop-i l = (every_below (loads_at l.source l.x) l.i ≡ true)
