-- `copying::writing::carry_subgoals` meets its contract.
use mathlib.Core.Path.{refl}
use native.Mathlib.Omega.{arith}
use Rattle.copying.proofs.GiveCases.{first-none, ready_at, first_next, first_ended}
use Rattle.space.proofs.HeaderLaws.{bounds-nodes}
use Rattle.copying.proofs.writing.carry_subgoals.Goals as goal

pub loop-i-init : goal.loop-i-init
loop-i-init c = (first-none c.args.source.now c.args.h c.args.target.now, refl)

pub overflow_add-i : goal.overflow_add-i
overflow_add-i c = omega (arith, c.requires.0)

pub subgoal_in-g-requires : goal.subgoal_in-g-requires
subgoal_in-g-requires c = (c.requires.0, omega arith, omega arith)

pub carry_subgoal-requires : goal.carry_subgoal-requires
carry_subgoal-requires c =
    let l = c.loop-i in
    let r = ready_at c.args.source.now c.args.h c.args.target.now l.target l.i _ c.subgoal_in-g.ensures (c.requires.1 l.i (omega arith)) l.invariant.0 in
    record { ends = rw c.subgoal_end.ensures ((bounds-nodes _ _ c.requires.0, r.0), r.1); target_value = (r.2, r.3) }

pub loop-i-preserved : goal.loop-i-preserved
loop-i-preserved c =
    let l = c.loop-i in (
      first_next c.args.source.now c.args.h c.args.target.now l.target l.i _ c.subgoal_in-g.ensures _ l.invariant.0 (rw c.subgoal_end.ensures at c.carry_subgoal.ensures),
      omega (arith, c.carry_subgoal.auto, l.invariant.1),
    )

pub shape_of-target : goal.shape_of-target
shape_of-target c = c.loop-i.invariant.1

pub returns : goal.returns
returns c =
    let l = c.loop-i in
    first_ended c.args.source.now c.args.h c.args.target.now l.target l.i (omega arith) (omega arith) l.invariant.0
