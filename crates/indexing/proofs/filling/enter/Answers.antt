-- `indexing::filling::enter` meets its contract.
use Rattle.indexing.proofs.NodeCases.{fit-named}
use Rattle.indexing.proofs.FillCases.{enter_one, enter-none}
use Rattle.basis.proofs.Tests.{told}
use native.Mathlib.Omega.{arith}
use Rattle.indexing.proofs.filling.enter.Goals as goal

pub slot_of-slot-requires : goal.slot_of-slot-requires
slot_of-slot-requires c = let b = c.requires.0.0.0 in (c.requires.1, omega (arith, c.requires.0.1, (fit-named c.args.space.now c.args.h _ c.requires.0.0 c.requires.0.1 _ c.node_in-y.ensures).parent-most))

pub returns-then-enters : goal.returns-then-enters
returns-then-enters c = enter_one _ _ _ (told c.enters.ensures c.if-enters.true) c.node_in-y.result c.node_in-y.ensures _ c.slot_of-slot.ensures.0 _ c.insert_from.ensures

pub returns-else-enters : goal.returns-else-enters
returns-else-enters c = enter-none _ _ _ (told c.enters.ensures c.if-enters.false)
