use Rattle.indexing.specs.Parts.{tries_in}
use Rattle.trie.specs.Index.{entering}
use mathlib.Core.Path.{◌≡◌}
use lib.ListN.{length}
use Rattle.indexing.proofs.entering.count_entering.Given as goal

abbrev pub invariant-loop-n : goal.invariant-loop-n
invariant-loop-n l = l.count ≡ length (entering (tries_in l.space l.h) l.n)
