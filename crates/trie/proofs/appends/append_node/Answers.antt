-- `trie::appends::append_node` meets its contract.
use Rattle.trie.proofs.AppendCases.{node-appended}
use Rattle.trie.proofs.appends.append_node.Goals as goal

pub returns : goal.returns
returns c = node-appended _ _ _ _ _ _ _ c.lead_to.ensures c.write_node.ensures
