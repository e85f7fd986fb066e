use Rattle.plain.specs.Joins.{copies_named}
use lib.ListN.{length}
use mathlib.Core.Path.{◌≡◌}
use Rattle.sides.proofs.names.copies_named.Given as goal

abbrev pub invariant-loop-rest : goal.invariant-loop-rest
invariant-loop-rest l = copies_named l.m l.n l.rest ≡ copies_named l.m l.n l.copies

abbrev pub decreases-loop-rest : goal.decreases-loop-rest
decreases-loop-rest l = length l.rest
