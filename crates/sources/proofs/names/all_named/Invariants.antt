use mathlib.Core.Path.{◌≡◌}
use mathlib.Core.Bool.{true}
use Rattle.agreement.specs.Whole.{every_below}
use lib.ListN.{length}
use Rattle.sources.specs.Records.{named_at}
use Rattle.sources.proofs.names.all_named.Given as goal

abbrev pub invariant-loop-i : goal.invariant-loop-i
invariant-loop-i l = (every_below (named_at l.source l.x) l.i ≡ true) × (length l.path ≡ 384)
