-- `trie::slots::slot_of` meets its contract.
use Rattle.trie.proofs.SlotLaws.{some-slot, slot-masked}
use Rattle.std.proofs.Common.{rules}
use Rattle.trie.proofs.slots.slot_of.Goals as goal

pub overflow_sub-result : goal.overflow_sub-result
overflow_sub-result c = some-slot _ 0 0 (search rules)

pub returns : goal.returns
returns c = slot-masked _ _ _ (search rules) _ c.wide.ensures.0
