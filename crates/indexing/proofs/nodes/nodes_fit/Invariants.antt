use Rattle.store.specs.Clauses.{view_in}
use Rattle.store.specs.Building.{nodes_fit}
use mathlib.Core.Bool.{true}
use mathlib.Core.Path.{◌≡◌}
use Rattle.indexing.proofs.nodes.nodes_fit.Given as goal

abbrev pub invariant-loop-n : goal.invariant-loop-n
invariant-loop-n l = nodes_fit (view_in l.space l.h) l.n ≡ true
