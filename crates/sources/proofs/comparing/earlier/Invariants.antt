use mathlib.Core.Path.{◌≡◌}
use lib.ListN.{length}
use Rattle.sources.specs.Records.{EarlierTo, before}
use Rattle.sources.proofs.comparing.earlier.Given as goal

abbrev pub invariant-loop-j : goal.invariant-loop-j
invariant-loop-j l = EarlierTo (before l.source l.x l.j) l.owner l.form l.e × (length l.path ≡ 384)
