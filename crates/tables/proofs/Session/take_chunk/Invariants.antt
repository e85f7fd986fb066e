use Prim.Native.Nat.{◌-◌, ◌≤◌}
use lib.ListN.{length}
use Rattle.tables.specs.Progress.{held}
use Rattle.tables.proofs.FedLaws.{Through}
use Rattle.tables.proofs.Session.take_chunk.Given as goal

abbrev pub invariant-loop-at : goal.invariant-loop-at
invariant-loop-at l =
    (l.n ≤ length l.self.line) × Through l.chunk l.at (held l.initial.self l.kept) (held l.self l.n)

abbrev pub decreases-loop-at : goal.decreases-loop-at
decreases-loop-at l = length l.chunk - l.at
