-- `sources::loading::answer_loads` meets its contract.
use Rattle.basis.proofs.Tests.{told}
use Rattle.space.proofs.HeaderLaws.{bounds-nodes}
use Rattle.sources.proofs.LoadCases.{answer-damaged, answer-within, owner-damaged, answer-formed}
use Rattle.sources.proofs.loading.answer_loads.Goals as goal

pub returns-in_default : goal.returns-in_default
returns-in_default c =
    let p = c.args in
    answer-damaged p.source.now p.h p.a (told c.in_default.is c.read_answer.ensures)

pub read_subgoal-requires : goal.read_subgoal-requires
read_subgoal-requires c =
    let p = c.args in
    let e = told c.in-Some.is c.read_answer.ensures in
    let w = answer-within p.source.now p.h p.a c.in-Some.y e in
    (c.requires.0, w.0, w.1)

pub returns-in_default-read_subgoal : goal.returns-in_default-read_subgoal
returns-in_default-read_subgoal c =
    let p = c.args in
    let e = told c.in-Some.is c.read_answer.ensures in
    owner-damaged p.source.now p.h p.a c.in-Some.y e (told c.in_default-read_subgoal.is c.read_subgoal.ensures)

pub path_worth-requires : goal.path_worth-requires
path_worth-requires c =
    let p = c.args in
    let e = told c.in-Some.is c.read_answer.ensures in
    rw c.answer_end.ensures (bounds-nodes _ _ c.requires.0, (answer-within p.source.now p.h p.a c.in-Some.y e).2)

pub returns : goal.returns
returns c =
    let p = c.args in
    let e = told c.in-Some.is c.read_answer.ensures in
    let q = told c.in-Some-read_subgoal.is c.read_subgoal.ensures in
    answer-formed p.source.now p.h p.a c.in-Some.y e c.in-Some-read_subgoal.g q _ (rw c.answer_end.ensures at c.path_worth.ensures)
