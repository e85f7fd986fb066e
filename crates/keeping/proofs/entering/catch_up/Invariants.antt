use Rattle.keeping.proofs.Cases.{Cells, Catching}
use Rattle.keeping.specs.Clauses.{nodes_held}
use mathlib.Core.Path.{◌≡◌}
use lib.ListN.{length}
use Rattle.keeping.proofs.entering.catch_up.Given as goal

abbrev pub invariant-loop-n : goal.invariant-loop-n
invariant-loop-n l =
    Catching l.space l.nodes l.room l.initial.lasts l.initial.slots l.lasts l.slots l.n × (l.room ≡ nodes_held (length l.initial.lasts) (length l.initial.slots)) × Cells l.room (length l.initial.lasts) (length l.initial.slots)
