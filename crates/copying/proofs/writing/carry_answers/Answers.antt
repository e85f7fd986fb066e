-- `copying::writing::carry_answers` meets its contract.
use mathlib.Core.Path.{refl}
use native.Mathlib.Omega.{arith}
use Rattle.space.proofs.HeaderLaws.{bounds-nodes}
use Rattle.copying.proofs.GiveCases.{answers-none, answers-ended, own-used, answer-ready, answers_next}
use Rattle.copying.proofs.writing.carry_answers.Goals as goal

pub loop-i-init : goal.loop-i-init
loop-i-init c = (answers-none c.args.source.now c.args.h c.args.target.now, refl)

pub overflow_add-i : goal.overflow_add-i
overflow_add-i c = omega (arith, c.requires.0)

pub answer_in-y-requires : goal.answer_in-y-requires
answer_in-y-requires c = (c.requires.0, omega arith, omega arith)

pub subgoal_in-g-requires : goal.subgoal_in-g-requires
subgoal_in-g-requires c =
    let l = c.loop-i in
    let u = own-used c.args.source.now c.args.h c.args.target.now l.target l.i _ c.answer_in-y.ensures (c.requires.1 l.i (omega arith)) in
    (c.requires.0, u.0, u.1)

pub carry_answer-requires : goal.carry_answer-requires
carry_answer-requires c =
    let l = c.loop-i in
    let r = answer-ready c.args.source.now c.args.h c.args.target.now l.target l.i _ c.answer_in-y.ensures _
    c.subgoal_in-g.ensures (c.requires.1 l.i (omega arith)) l.invariant.0 in
    record { ends = rw c.answer_end.ensures ((bounds-nodes _ _ c.requires.0, r.0), r.1); target_value = (r.2, r.3) }

pub loop-i-preserved : goal.loop-i-preserved
loop-i-preserved c =
    let l = c.loop-i in (
      answers_next c.args.source.now c.args.h c.args.target.now l.target l.i _ c.answer_in-y.ensures _ c.subgoal_in-g.ensures _ l.invariant.0
          (rw c.answer_end.ensures at c.carry_answer.ensures),
      omega (arith, c.carry_answer.auto, l.invariant.1),
    )

pub shape_of-target : goal.shape_of-target
shape_of-target c = c.loop-i.invariant.1

pub returns : goal.returns
returns c =
    let l = c.loop-i in
    answers-ended c.args.source.now c.args.h c.args.target.now l.target l.i (omega arith) (omega arith) l.invariant.0
