use Prim.Native.Nat.{◌≤◌}
use mathlib.Core.Path.{◌≡◌}
use Rattle.detours.specs.Searching.{among, diverters_in}
use Rattle.detours.proofs.searching.is_taken.Given as goal

abbrev pub invariant-loop-i : goal.invariant-loop-i
invariant-loop-i l = (l.i ≤ l.goals) × (among l.diverter (diverters_in l.work l.goals) ≡ among l.diverter (diverters_in l.work l.i))
