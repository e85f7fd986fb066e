use Rattle.std.proofs.Common.{◌-◌}
use Rattle.trie.proofs.SearchCases.{Chain}
use Rattle.trie.specs.Siblings.{trie_in, search_siblings}
use Rattle.space.specs.Layout.{sizes}
use Rattle.trie.proofs.siblings.search_siblings.Given as goal

abbrev pub invariant-loop-y : goal.invariant-loop-y
invariant-loop-y l = Chain (trie_in sizes l.space l.nodes l.links) l.parent l.token l.n (search_siblings l.nodes (trie_in sizes l.space l.nodes l.links) l.parent l.token l.first)

abbrev pub decreases-loop-y : goal.decreases-loop-y
decreases-loop-y l = l.nodes - l.n
