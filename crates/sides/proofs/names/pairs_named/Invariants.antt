use Rattle.plain.specs.Joins.{pairs_named}
use lib.ListN.{length}
use mathlib.Core.Path.{◌≡◌}
use Rattle.sides.proofs.names.pairs_named.Given as goal

abbrev pub invariant-loop-rest : goal.invariant-loop-rest
invariant-loop-rest l = pairs_named l.m l.n l.rest ≡ pairs_named l.m l.n l.pairs

abbrev pub decreases-loop-rest : goal.decreases-loop-rest
decreases-loop-rest l = length l.rest
