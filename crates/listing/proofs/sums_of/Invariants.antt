use mathlib.Core.Path.{◌≡◌}
use lib.ListN.{length, take}
use Rattle.listing.specs.Steps.{sums_below}
use Rattle.listing.proofs.sums_of.Given as goal

abbrev pub invariant-loop-t : goal.invariant-loop-t
invariant-loop-t l = (length l.sums ≡ 8) × (take l.t l.sums ≡ sums_below l.edition l.symbols l.t)
