-- `sources::forms_fit` meets its contract.
use native.Mathlib.Omega.{arith}
use mathlib.Core.Path.{refl}
use Rattle.sources.specs.Records.{subgoals_of, answers_of}
use Rattle.sources.proofs.TableLaws.{loads-bounds, count_most, subgoals-load, answers-load, nodes-fit}
use Rattle.sources.proofs.forms_fit.Goals as goal

pub brought-called-requires : goal.brought-called-requires
brought-called-requires c = rw c.subgoals.ensures (subgoals-load _ _ c.requires)

pub brought-given-requires : goal.brought-given-requires
brought-given-requires c = rw c.answers.ensures (answers-load _ _ c.requires)

pub overflow_add-result : goal.overflow_add-result
overflow_add-result c =
    let b = loads-bounds c.args.source.now c.args.h c.requires in
    let m = count_most c.args.source.now (subgoals_of c.args.h) b in
    omega (arith, (rw c.subgoals.ensures at c.brought-called.ensures).1, m)

pub overflow_add-result-2 : goal.overflow_add-result-2
overflow_add-result-2 c =
    let b = loads-bounds c.args.source.now c.args.h c.requires in
    let m = count_most c.args.source.now (subgoals_of c.args.h) b in
    omega (arith, (rw c.subgoals.ensures at c.brought-called.ensures).1, m, b)

pub overflow_add-result-3 : goal.overflow_add-result-3
overflow_add-result-3 c =
    let b = loads-bounds c.args.source.now c.args.h c.requires in
    let m = count_most c.args.source.now (subgoals_of c.args.h) b in
    let k = count_most c.args.source.now (answers_of c.args.h) b in
    omega (arith, (rw c.subgoals.ensures at c.brought-called.ensures).1, (rw c.answers.ensures at c.brought-given.ensures).1, m, k, b)

pub returns : goal.returns
returns c =
    let p = c.args in
    rw c.from.ensures (nodes-fit p.source.now p.h p.n p.f p.a (omega (arith, c.if-wide-h.false, c.wide.ensures))
    (omega (arith, c.if-wide-h-2.false, c.wide-else-wide-h.ensures))
    _ _ (rw c.subgoals.ensures at c.brought-called.ensures) (rw c.answers.ensures at c.brought-given.ensures) _ refl)
