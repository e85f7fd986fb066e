-- `trie::appends::lead_to` meets its contract.
use Rattle.trie.proofs.AppendCases.{led-child, led-sibling}
use Rattle.std.proofs.Common.{rules}
use Rattle.trie.proofs.appends.lead_to.Goals as goal

pub returns-then-last-eq0 : goal.returns-then-last-eq0
returns-then-last-eq0 c = led-child c.args.space.now _ c.args.n c.args.parent c.args.last (search rules) c.write_child.ensures

pub returns-else-last-eq0 : goal.returns-else-last-eq0
returns-else-last-eq0 c = led-sibling c.args.space.now _ c.args.n c.args.parent c.args.last (search rules) c.write_sibling.ensures
