-- `keeping::searching::look_up` meets its contract.
use Rattle.keeping.proofs.FindCases.{looking-begin, looking-free, looking-met, looking-on, looking-ended}
use borrow.Author.Rules.{rules}
use native.Mathlib.Omega.{arith}
use Rattle.keeping.proofs.searching.look_up.Goals as goal

pub mixed_slot-slot-requires : goal.mixed_slot-slot-requires
mixed_slot-slot-requires c = (search rules, search rules, omega (arith, c.requires.0.few, c.requires.1))

pub loop-init : goal.loop-init
loop-init c = looking-begin _ _ _ _ _ _ c.mixed_slot-slot.ensures

pub returns-then-x-eq0 : goal.returns-then-x-eq0
returns-then-x-eq0 c = looking-free _ _ _ _ _ c.loop.invariant (search rules) _ c.wide-x.ensures.0 (search rules)

pub returns-then-confirms : goal.returns-then-confirms
returns-then-confirms c = looking-met _ _ _ _ _ c.loop.invariant (search rules) _ c.wide-x.ensures.0 (search rules) _ c.confirms.ensures (search rules)

pub loop-preserved : goal.loop-preserved
loop-preserved c = looking-on _ _ _ _ _ c.loop.invariant (search rules) _ c.wide-x.ensures.0 (search rules) _ c.confirms.ensures (search rules) _ c.slot_after-slot.ensures

pub returns : goal.returns
returns c = looking-ended _ _ _ _ _ c.loop.invariant (omega arith)
