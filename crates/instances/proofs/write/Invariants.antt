use Prim.Native.Nat.{◌≤◌, ◌+◌}
use mathlib.Core.Path.{◌≡◌}
use lib.ListN.{length, drop}
use lib.Seq.{sets}
use Rattle.instances.specs.Instances.{instance_cells}
use Rattle.instances.proofs.write.Given as goal

abbrev pub invariant-loop-c : goal.invariant-loop-c
invariant-loop-c l =
    (l.to + length (instance_cells l.terms l.starts (drop l.c-index l.cells)) ≤ length l.out)
    × (sets l.out l.to (instance_cells l.terms l.starts (drop l.c-index l.cells)) ≡ sets l.initial.out 0 (instance_cells l.terms l.starts l.cells))
    × (length l.out ≡ length l.initial.out)
    × (l.to + length (instance_cells l.terms l.starts (drop l.c-index l.cells)) ≡ length (instance_cells l.terms l.starts l.cells))
