-- `trie::siblings::search_children` meets its contract.
use Rattle.trie.proofs.SearchLaws.{first-within}
use Rattle.trie.proofs.SearchCases.{children-none, children-some}
use Rattle.trie.specs.Siblings.{trie_in}
use Rattle.space.specs.declared.Node.{Node}
use Rattle.space.specs.Layout.{sizes}
use Rattle.std.proofs.Common.{ap, ◌∙◌, rules}
use Rattle.trie.proofs.siblings.search_children.Goals as goal

pub returns-then-y-eq0 : goal.returns-then-y-eq0
returns-then-y-eq0 c = children-none (trie_in sizes c.args.space.now c.args.nodes c.args.links) _ _ c.node_in-y.result c.node_in-y.ensures (search rules)

pub search_siblings-requires : goal.search_siblings-requires
search_siblings-requires c = let f = first-within (trie_in sizes c.args.space.now c.args.nodes c.args.links) c.args.parent (search rules) c.requires.parent_value in let e = ap (λ (y : Node). y.child) c.node_in-y.ensures in search rules

pub returns : goal.returns
returns c = c.search_siblings.ensures ∙ children-some (trie_in sizes c.args.space.now c.args.nodes c.args.links) _ _ c.node_in-y.result c.node_in-y.ensures (search rules)
