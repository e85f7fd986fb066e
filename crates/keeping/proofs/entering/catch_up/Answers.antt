-- `keeping::entering::catch_up` meets its contract.
use Rattle.keeping.proofs.Cases.{held-some, catch-none, catching-begin, catching-on, catching-ended}
use borrow.Author.Rules.{rules}
use native.Mathlib.Omega.{arith}
use Rattle.keeping.proofs.entering.catch_up.Goals as goal

pub returns-then-room-eq0 : goal.returns-then-room-eq0
returns-then-room-eq0 c = catch-none c.args.space.now c.args.nodes _ c.args.lasts.now c.args.slots.now c.capacity-room.ensures (search rules)

pub bounds-lasts-0 : goal.bounds-lasts-0
bounds-lasts-0 c = omega (arith, (held-some _ _ _ c.capacity-room.ensures (search rules)).lasts-room)

pub loop-n-init : goal.loop-n-init
loop-n-init c = (catching-begin _ _ _ _ _ c.capacity-room.ensures _ c.wide-n.ensures.0, c.capacity-room.ensures, held-some _ _ _ c.capacity-room.ensures (search rules))

pub enter-requires : goal.enter-requires
enter-requires c = let i = c.loop-n.invariant in (search rules, search rules, record { lasts-room = omega (arith, i.0.lasts-long, i.2.lasts-room); slots-some = omega (arith, i.0.slots-long, i.2.slots-room); slots-most = omega (arith, i.0.slots-long, i.2.slots-most) })

pub loop-n-preserved : goal.loop-n-preserved
loop-n-preserved c = let i = c.loop-n.invariant in (catching-on c.args.space.now c.args.nodes _ c.args.lasts.now c.args.slots.now i.1 i.0 (search rules) (search rules) _ _ c.enter.ensures, i.1, i.2)

pub shape_of-lasts : goal.shape_of-lasts
shape_of-lasts c = c.loop-n.invariant.0.lasts-long

pub shape_of-slots : goal.shape_of-slots
shape_of-slots c = c.loop-n.invariant.0.slots-long

pub returns : goal.returns
returns c = catching-ended c.args.space.now c.args.nodes _ c.args.lasts.now c.args.slots.now c.loop-n.invariant.1 c.loop-n.invariant.0 (omega arith)
