use Prim.Native.Nat.{ℕ, ◌+◌, ◌-◌, ◌≤◌, ◌<◌}
use mathlib.Core.Path.{◌≡◌}
use lib.ListN.{length, get_or}
use Rattle.forms.specs.Cells.{arity_of}
use Rattle.forms.proofs.DueLaws.{cells_of}
use Rattle.pair_reader.specs.Storing.{terms_at}
use Rattle.instances.proofs.InstanceLaws.{Scans}
use Rattle.instances.proofs.note_starts.Given as goal

abbrev pub invariant-loop-i : goal.invariant-loop-i
invariant-loop-i l =
    (l.i ≤ l.m) × Scans (arity_of l.edition) l.s l.m l.at l.due l.i × ((k : ℕ) → k < l.i + 1 → get_or l.starts k 0 ≡ cells_of k (terms_at (arity_of l.edition) l.s 0))
    × (l.m < length l.starts) × (length l.starts ≡ length l.initial.starts)

abbrev pub decreases-loop-i : goal.decreases-loop-i
decreases-loop-i l = length l.s - l.at
