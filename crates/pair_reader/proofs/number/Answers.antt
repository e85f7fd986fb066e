-- `number` meets its contract: the rank is found, or it is the number of the variables.
use mathlib.Core.Path.{refl, sym, ap, ◌∙◌}
use native.Mathlib.Omega.{arith}
use lib.ListN.{set, length-set}
use lib.Seq.{take-set-le, length-take-le}
use Rattle.forms.specs.Numbering.{rank}
use Rattle.pair_reader.proofs.StoringLaws.{rank-next, rank-found, rank-absent}
use Rattle.pair_reader.proofs.number.Goals as goal

pub returns-then-v-c : goal.returns-then-v-c
returns-then-v-c c =
    let e = take-set-le c.args.count c.args.vars.now c.args.count c.args.c (omega arith) in
    (sym (rank-found _ _ _ c.loop-i.invariant c.loop-i-test.true c.if-v-c.true) ∙ ap (λ l. rank l c.args.c) e, refl)

pub loop-i-preserved : goal.loop-i-preserved
loop-i-preserved c = rank-next _ _ _ c.loop-i.invariant c.loop-i-test.true c.if-v-c.false

pub returns : goal.returns
returns c =
    let e = take-set-le c.args.count c.args.vars.now c.args.count c.args.c (omega arith) in
    let q = rank-absent _ _ _ c.loop-i.invariant c.loop-i-test.false in
    let n = length-take-le c.args.count (set c.args.vars.now c.args.count c.args.c) (omega (arith, length-set c.args.vars.now c.args.count c.args.c)) in
    (omega (arith, n, q, c.loop-i.auto.i-end, length-set c.args.vars.now c.args.count c.args.c) ∙ ap (λ l. rank l c.args.c) e, refl)
