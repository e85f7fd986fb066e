-- `trie::slots::insert_from` meets its contract.
use Rattle.trie.proofs.SlotLaws.{probing-begin, probing-free, probing-on, probing-ended}
use Rattle.std.proofs.Common.{arith, rules}
use Rattle.trie.proofs.slots.insert_from.Goals as goal

pub loop-init : goal.loop-init
loop-init c = probing-begin _ _ _ (search rules)

pub returns-then-slots-slot-eq0 : goal.returns-then-slots-slot-eq0
returns-then-slots-slot-eq0 c = probing-free _ _ _ c.loop.invariant (search rules) (search rules)

pub loop-preserved : goal.loop-preserved
loop-preserved c = probing-on _ _ _ c.loop.invariant (search rules) (search rules) _ c.slot_after-slot.ensures

pub returns : goal.returns
returns c = probing-ended _ _ _ c.loop.invariant (omega arith)
