-- `sources::loading::subgoal_loads` meets its contract.
use native.Mathlib.Omega.{arith}
use Rattle.basis.proofs.Tests.{told}
use Rattle.space.proofs.HeaderLaws.{bounds-nodes}
use Rattle.sources.proofs.LoadCases.{subgoal-damaged, subgoal-within, subgoal-formed}
use Rattle.sources.proofs.loading.subgoal_loads.Goals as goal

pub returns-in_default : goal.returns-in_default
returns-in_default c =
    let p = c.args in
    subgoal-damaged p.source.now p.h p.s (told c.in_default.is c.read_subgoal.ensures)

pub path_worth-requires : goal.path_worth-requires
path_worth-requires c =
    let p = c.args in
    let e = told c.in-Some.is c.read_subgoal.ensures in
    rw c.subgoal_end.ensures (bounds-nodes _ _ c.requires.0, (subgoal-within p.source.now p.h p.s c.in-Some.g e).0)

pub overflow_add-result : goal.overflow_add-result
overflow_add-result c =
    let p = c.args in
    let e = told c.in-Some.is c.read_subgoal.ensures in
    omega (arith, (subgoal-within p.source.now p.h p.s c.in-Some.g e).1)

pub returns : goal.returns
returns c =
    let p = c.args in
    let e = told c.in-Some.is c.read_subgoal.ensures in
    subgoal-formed p.source.now p.h p.s c.in-Some.g e _ (rw c.subgoal_end.ensures at c.path_worth.ensures)
