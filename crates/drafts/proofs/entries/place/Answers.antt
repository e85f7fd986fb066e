-- `drafts::entries::place` meets its contract.
use Rattle.drafts.proofs.EntryCases.{place-room, place-done}
use Rattle.drafts.proofs.entries.place.Goals as goal

pub write_node-requires : goal.write_node-requires
write_node-requires c = place-room _ _ _ _ _ c.requires _ c.slot_in-slot.ensures _ _ c.node_in-head.ensures c.node_in-own.ensures

pub returns : goal.returns
returns c = place-done _ _ _ _ _ c.requires _ c.slot_in-slot.ensures _ _ c.node_in-head.ensures c.node_in-own.ensures _ c.write_node.ensures _ c.write_child.ensures
