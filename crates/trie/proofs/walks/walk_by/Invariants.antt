use Rattle.trie.proofs.WalkCases.{Descent}
use Rattle.trie.specs.Walks.{Finding, AnswersAs, walk_from_by}
use Rattle.trie.specs.Siblings.{trie_in, sound}
use Rattle.space.specs.Layout.{sizes}
use Rattle.std.proofs.Common.{◌≡◌, ◌<◌, true}
use Rattle.trie.proofs.walks.walk_by.Given as goal

abbrev pub invariant-loop-i : goal.invariant-loop-i
invariant-loop-i g l = record {
  within : l.n < l.nodes;
  judged : sound (trie_in sizes l.space l.nodes l.links) l.n ≡ true;
  descends : (find : Finding) → AnswersAs (goal.F-post g l.search) find (trie_in sizes l.space l.nodes l.links)
      → Descent find (trie_in sizes l.space l.nodes l.links) l.tokens l.n l.i (walk_from_by find (trie_in sizes l.space l.nodes l.links) l.root l.tokens);
}
