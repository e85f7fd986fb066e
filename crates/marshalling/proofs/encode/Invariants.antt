use Prim.Native.Nat.{◌*◌}
use mathlib.Core.Path.{◌≡◌}
use mathlib.Core.List.{◌++◌}
use lib.ListN.{take, drop}
use Rattle.marshalling.specs.Bytes.{bytes_of}
use Rattle.marshalling.proofs.encode.Given as goal

abbrev pub invariant-loop-i : goal.invariant-loop-i
invariant-loop-i l = l.out ≡ take (4 * l.i) (bytes_of l.c-items) ++ drop (4 * l.i) l.initial.out
