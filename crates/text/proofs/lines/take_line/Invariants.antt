use mathlib.Core.Path.{◌≡◌}
use lib.ListN.{length, drop}
use Rattle.text.specs.Cutting.{taking}
use Rattle.text.proofs.lines.take_line.Given as goal

abbrev pub invariant-loop-i : goal.invariant-loop-i
invariant-loop-i l =
    (length l.line ≡ length l.initial.line) × (taking (drop l.i l.chunk) l.i l.line l.n ≡ taking (drop l.at l.chunk) l.at l.initial.line l.kept)
