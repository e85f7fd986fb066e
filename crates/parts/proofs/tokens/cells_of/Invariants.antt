use Prim.Native.Nat.{◌+◌, ◌*◌, ◌≤◌}
use mathlib.Core.Path.{◌≡◌}
use lib.ListN.{take}
use Rattle.forms.specs.Cells.{arity_of}
use Rattle.parts.specs.Segments.{weights, all_take}
use Rattle.parts.proofs.tokens.cells_of.Given as goal

abbrev pub invariant-loop-c : goal.invariant-loop-c
invariant-loop-c l =
    (l.cells ≡ weights (arity_of l.edition) (take l.c-index l.form)) × (l.taken ≡ all_take (arity_of l.edition) (take l.c-index l.form) + l.k)
    × (l.cells ≤ 2 * l.c-index) × (l.taken ≤ 383 + 255 * l.c-index)
