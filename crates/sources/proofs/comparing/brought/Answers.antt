-- `sources::comparing::brought` meets its contract.
use native.Mathlib.Omega.{arith}
use Rattle.sources.specs.Records.{count_of}
use Rattle.sources.proofs.CompareCases.{brings-begin, brings-on, brings-ended}
use Rattle.sources.proofs.TableLaws.{count_most}
use Rattle.sources.proofs.comparing.brought.Goals as goal

pub loop-i-init : goal.loop-i-init
loop-i-init c = brings-begin c.args.source.now c.args.x

pub compare-requires : goal.compare-requires
compare-requires c = (c.requires, omega (arith, c.count_of-i-end.ensures))

pub overflow_add-sum : goal.overflow_add-sum
overflow_add-sum c =
    let m = count_most c.args.source.now c.args.x c.requires.0 in
    omega (arith, c.compare.ensures.1, c.loop-i.invariant.1, c.count_of-i-end.ensures, m)

pub loop-i-preserved : goal.loop-i-preserved
loop-i-preserved c = brings-on c.args.source.now c.args.x c.loop-i.i _ c.compare.ensures c.loop-i.sum c.loop-i.invariant

pub returns : goal.returns
returns c =
    let p = c.args in
    let n = c.count_of-i-end.ensures in
    brings-ended p.source.now p.x (count_of p.x) c.loop-i.i c.loop-i.sum (omega (arith, n)) (omega (arith, n)) c.loop-i.invariant
