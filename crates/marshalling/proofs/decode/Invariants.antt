use mathlib.Core.Path.{◌≡◌}
use mathlib.Core.List.{◌++◌}
use lib.ListN.{length, take, drop}
use Rattle.marshalling.specs.Bytes.{cells_of}
use Rattle.marshalling.proofs.decode.Given as goal

abbrev pub invariant-loop-i : goal.invariant-loop-i
invariant-loop-i l = (l.cells ≡ take l.i (cells_of l.bytes) ++ drop l.i l.initial.cells) × (length l.cells ≡ length l.initial.cells)
