-- `trie::slots::is_power_of_two` meets its contract.
use Rattle.std.proofs.Common.{◌∙◌}
use Rattle.trie.proofs.SlotLaws.{digit-power}
use Rattle.trie.proofs.slots.is_power_of_two.Goals as goal

pub returns : goal.returns
returns c = c.is_power_of_two.ensures ∙ digit-power _
