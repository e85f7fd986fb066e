use Prim.Native.Nat.{◌≤◌}
use lib.ListN.{length}
use Rattle.session.specs.Program.{starts}
use Rattle.tables.specs.Progress.{held}
use Rattle.tables.proofs.FedLaws.{HasRead}
use Rattle.tables.proofs.Session.run.Given as goal

abbrev pub invariant-loop : goal.invariant-loop
invariant-loop l =
    (l.kept ≤ length l.self.line)
    × HasRead (starts l.initial.self.line l.initial.self.text l.initial.self.space l.initial.self.out) (held l.self l.kept)
