-- `detours::searching::is_taken` meets its contract.
use mathlib.Core.Path.{refl}
use native.Mathlib.Omega.{arith}
use borrow.Author.Rules.{rules}
use Rattle.detours.proofs.WorkLaws.{among-found, among-lower, among-ended}
use Rattle.detours.proofs.searching.is_taken.Goals as goal

pub loop-i-init : goal.loop-i-init
loop-i-init c = (omega arith, refl)

pub overflow_add-i : goal.overflow_add-i
overflow_add-i c = omega (arith, c.loop-i.invariant.0)

pub offset_bounds-work-i : goal.offset_bounds-work-i
offset_bounds-work-i c = omega (arith, c.loop-i.invariant.0)

pub bounds-work-i : goal.bounds-work-i
bounds-work-i c = omega (arith, c.loop-i.invariant.0)

pub returns-then-work-i : goal.returns-then-work-i
returns-then-work-i c = among-found _ c.args.work.now _ c.loop-i.i (search rules) c.loop-i.invariant.1 (search rules)

pub loop-i-preserved : goal.loop-i-preserved
loop-i-preserved c =
    (omega (arith, c.loop-i.invariant.0), among-lower _ c.args.work.now _ c.loop-i.i (search rules) c.loop-i.invariant.1 (search rules))

pub returns : goal.returns
returns c = among-ended _ c.args.work.now _ c.loop-i.i (omega arith) c.loop-i.invariant.1
