use Prim.Native.Nat.{◌-◌}
use mathlib.Core.Path.{◌≡◌}
use lib.ListN.{length}
use Rattle.parts.proofs.Gathering.{Gathered}
use Rattle.parts.proofs.put_together.Given as goal

abbrev pub invariant-loop-i : goal.invariant-loop-i
invariant-loop-i l = Gathered l.edition l.copies l.outer l.inner l.form l.i l.to × (length l.form ≡ length l.initial.form)

abbrev pub decreases-loop-i : goal.decreases-loop-i
decreases-loop-i l = length l.copies - l.i
