use Rattle.trie.proofs.SlotLaws.{Probing}
use Rattle.trie.proofs.slots.insert_from.Given as goal

abbrev pub invariant-loop : goal.invariant-loop
invariant-loop l = Probing l.initial.slots l.first l.n l.slots l.slot l.counter
