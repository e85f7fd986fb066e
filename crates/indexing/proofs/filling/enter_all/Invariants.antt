use Rattle.indexing.proofs.FillCases.{Entered}
use Rattle.indexing.specs.Parts.{tries_in}
use mathlib.Core.Path.{◌≡◌}
use lib.ListN.{length}
use Rattle.indexing.proofs.filling.enter_all.Given as goal

abbrev pub invariant-loop-n : goal.invariant-loop-n
invariant-loop-n l = Entered (tries_in l.space l.h) l.initial.index l.n l.index × (length l.index ≡ length l.initial.index)
