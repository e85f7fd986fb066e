-- `sources::loading::find_record` meets its contract.
use native.Mathlib.Omega.{arith}
use Rattle.sources.proofs.PlaceCases.{subgoal-number, subgoal-place, answer-number, owner-used, answer-place}
use Rattle.sources.proofs.loading.find_record.Goals as goal

pub overflow_add-i-in-Answers : goal.overflow_add-i-in-Answers
overflow_add-i-in-Answers c =
    let p = c.args in
    omega (arith, answer-number p.source.now p.x p.i c.requires c.in-Answers.is, c.requires.0.0)

pub answer_in-y-requires : goal.answer_in-y-requires
answer_in-y-requires c =
    let p = c.args in
    (c.requires.0.0, omega arith, answer-number p.source.now p.x p.i c.requires c.in-Answers.is)

pub subgoal_in-g-requires-in-Answers : goal.subgoal_in-g-requires-in-Answers
subgoal_in-g-requires-in-Answers c =
    let p = c.args in
    owner-used p.source.now p.x p.i c.requires c.in-Answers.is c.answer_in-y.result c.answer_in-y.ensures

pub returns-in-Answers : goal.returns-in-Answers
returns-in-Answers c =
    let p = c.args in
    rw c.answer_end.ensures (answer-place p.source.now p.x p.i c.requires c.in-Answers.is c.answer_in-y.result c.answer_in-y.ensures _ c.subgoal_in-g-in-Answers.ensures)

pub overflow_add-i : goal.overflow_add-i
overflow_add-i c =
    let p = c.args in
    omega (arith, subgoal-number p.source.now p.x p.i c.requires c.in-Subgoals.is, c.requires.0.0)

pub subgoal_in-g-requires : goal.subgoal_in-g-requires
subgoal_in-g-requires c =
    let p = c.args in
    (c.requires.0.0, omega arith, subgoal-number p.source.now p.x p.i c.requires c.in-Subgoals.is)

pub returns-in-Subgoals : goal.returns-in-Subgoals
returns-in-Subgoals c =
    let p = c.args in
    rw c.subgoal_end.ensures (subgoal-place p.source.now p.x p.i c.requires c.in-Subgoals.is _ c.subgoal_in-g.ensures)
