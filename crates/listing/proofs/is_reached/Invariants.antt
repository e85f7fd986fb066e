use mathlib.Core.Path.{◌≡◌}
use lib.ListN.{take, drop}
use Rattle.listing.specs.Steps.{sum_reached}
use Rattle.listing.proofs.is_reached.Given as goal

abbrev pub invariant-loop-c : goal.invariant-loop-c
invariant-loop-c l = sum_reached l.edition l.t (take l.t l.sums) l.symbols ≡ sum_reached l.edition l.t (take l.t l.sums) (drop l.c-index l.symbols)
