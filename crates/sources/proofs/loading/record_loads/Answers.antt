-- `sources::loading::record_loads` meets its contract.
use native.Mathlib.Omega.{arith}
use mathlib.Core.Path.{◌∙◌}
use Rattle.sources.proofs.LoadCases.{answer-loads, subgoal-loads, answer-used, subgoal-used}
use Rattle.sources.proofs.loading.record_loads.Goals as goal

pub overflow_add-i-in-Answers : goal.overflow_add-i-in-Answers
overflow_add-i-in-Answers c =
    let p = c.args in
    omega (arith, answer-used p.source.now p.x p.i c.requires c.in-Answers.is, c.requires.0)

pub answer_loads-requires : goal.answer_loads-requires
answer_loads-requires c =
    let p = c.args in
    (c.requires.0, omega arith, answer-used p.source.now p.x p.i c.requires c.in-Answers.is)

pub returns-in-Answers : goal.returns-in-Answers
returns-in-Answers c =
    let p = c.args in
    c.answer_loads.ensures ∙ answer-loads p.source.now p.x p.i c.in-Answers.is

pub overflow_add-i : goal.overflow_add-i
overflow_add-i c =
    let p = c.args in
    omega (arith, subgoal-used p.source.now p.x p.i c.requires c.in-Subgoals.is, c.requires.0)

pub subgoal_loads-requires : goal.subgoal_loads-requires
subgoal_loads-requires c =
    let p = c.args in
    (c.requires.0, omega arith, subgoal-used p.source.now p.x p.i c.requires c.in-Subgoals.is)

pub returns-in-Subgoals : goal.returns-in-Subgoals
returns-in-Subgoals c =
    let p = c.args in
    c.subgoal_loads.ensures ∙ subgoal-loads p.source.now p.x p.i c.in-Subgoals.is
