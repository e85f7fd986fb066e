-- `copying::writing::carry_states` meets its contract.
use Prim.Native.Nat.{◌<◌}
use mathlib.Core.Path.{refl, sym}
use native.Mathlib.Omega.{arith}
use Rattle.copying.proofs.StateCases.{states-none, states-ended, state-room, record-bounds, states-next}
use Rattle.copying.proofs.writing.carry_states.Goals as goal

pub loop-i-init : goal.loop-i-init
loop-i-init c = let a = c.args in (states-none a.source.now a.h a.offset a.target.now, refl)

pub overflow_add-i : goal.overflow_add-i
overflow_add-i c = omega (arith, c.requires.0)

pub subgoal_in-g-requires : goal.subgoal_in-g-requires
subgoal_in-g-requires c = (c.requires.0, omega arith, omega arith)

pub overflow_add-i-in-loop-i : goal.overflow_add-i-in-loop-i
overflow_add-i-in-loop-i c = omega (arith, c.requires.0)

pub overflow_cast-g : goal.overflow_cast-g
overflow_cast-g c =
    let l = c.loop-i in
    let low : l.i < c.args.h.subgoals = omega arith in
    omega (arith, c.requires.0, record-bounds _ _ _ _ c.requires.1 l.i low _ c.subgoal_in-g.ensures)

pub write_state-requires : goal.write_state-requires
write_state-requires c =
    let l = c.loop-i in
    let low : l.i < c.args.h.subgoals = omega arith in
    state-room _ _ _ _ c.requires.1 l.i low l.target l.invariant.1

pub loop-i-preserved : goal.loop-i-preserved
loop-i-preserved c =
    let l = c.loop-i in
    let low : l.i < c.args.h.subgoals = omega arith in (
      states-next _ _ _ _ c.requires.1 l.i low _ c.subgoal_in-g.ensures c.args.target.now l.target _ l.invariant.0 c.write_state.ensures,
      omega (arith, c.write_state.auto, l.invariant.1),
    )

pub shape_of-target : goal.shape_of-target
shape_of-target c = sym c.loop-i.invariant.1

pub returns : goal.returns
returns c =
    let a = c.args in
    let l = c.loop-i in
    states-ended a.source.now a.h a.offset a.target.now l.target l.i (omega arith) (omega arith) l.invariant.0
