-- `trie::appends::append_path` meets its contract.
use Rattle.trie.proofs.AppendCases.{growth-begin, growth-end, growth-more}
use Rattle.std.proofs.Common.{arith, rules}
use Rattle.trie.proofs.appends.append_path.Goals as goal

pub loop-i-init : goal.loop-i-init
loop-i-init c = growth-begin _ _ _ _ _ (search rules) (search rules)

pub overflow_add-n : goal.overflow_add-n
overflow_add-n c = omega arith

pub loop-i-preserved : goal.loop-i-preserved
loop-i-preserved c = growth-more c.loop-i.invariant _ (search rules) (search rules) c.append_node.ensures

pub returns : goal.returns
returns c = growth-end c.loop-i.invariant (search rules)
