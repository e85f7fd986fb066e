-- `keeping::entering::enter` meets its contract.
use Rattle.keeping.proofs.Cases.{enter-root, enter-child}
use lib.ListN.{length-set}
use native.Mathlib.Omega.{arith}
use borrow.Author.Rules.{rules}
use Rattle.keeping.proofs.entering.enter.Goals as goal

pub returns-then-n-y : goal.returns-then-n-y
returns-then-n-y c = enter-root c.args.space.now c.args.lasts.now c.args.slots.now c.args.n c.node_in-y.result c.node_in-y.ensures (search rules)

pub bounds-lasts-0-2 : goal.bounds-lasts-0-2
bounds-lasts-0-2 c = simp length-set (omega (arith, c.requires.2.lasts-room))

pub returns : goal.returns
returns c = enter-child c.args.space.now c.args.lasts.now c.args.slots.now c.args.n c.node_in-y.result c.node_in-y.ensures (search rules) _ c.mixed_slot-slot.ensures.0 _ c.insert_from.ensures
