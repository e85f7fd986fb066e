use Prim.Native.Nat.{◌≤◌, ◌+◌, ◌*◌}
use mathlib.Core.Path.{◌≡◌}
use lib.ListN.{drop}
use Rattle.instances.specs.Instances.{needed}
use Rattle.instances.proofs.need.Given as goal

abbrev pub invariant-loop-c : goal.invariant-loop-c
invariant-loop-c l = (l.sum ≤ 256 * l.c-index) × (l.sum + needed l.starts (drop l.c-index l.cells) ≡ needed l.starts l.cells)
