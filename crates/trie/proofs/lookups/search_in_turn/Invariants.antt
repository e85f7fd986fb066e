use Rattle.std.proofs.Common.{◌-◌}
use Rattle.space.specs.Layout.{sizes}
use Rattle.trie.specs.Index.{search_indexed}
use Rattle.trie.specs.Siblings.{trie_in}
use Rattle.trie.proofs.TurnCases.{InTurn}
use Rattle.trie.proofs.lookups.search_in_turn.Given as goal

abbrev pub invariant-loop-x : goal.invariant-loop-x
invariant-loop-x l =
    InTurn l.space l.nodes l.links l.index l.stood l.parent l.token l.n l.slot (search_indexed l.index l.stood (trie_in sizes l.space l.nodes l.links) l.parent l.token)

abbrev pub decreases-loop-x : goal.decreases-loop-x
decreases-loop-x l = l.nodes - l.n
