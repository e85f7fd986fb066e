use Prim.Native.Nat.{◌+◌}
use mathlib.Core.Path.{◌≡◌}
use lib.ListN.{drop}
use Rattle.forms.specs.Numbering.{rank}
use Rattle.pair_reader.proofs.number.Given as goal

abbrev pub invariant-loop-i : goal.invariant-loop-i
invariant-loop-i l = rank l.v-items l.c ≡ l.i + rank (drop l.i l.v-items) l.c
