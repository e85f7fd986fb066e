-- `sources::comparing::all_differ` meets its contract.
use native.Mathlib.Omega.{arith}
use Rattle.sources.specs.Records.{differs_at}
use Rattle.sources.proofs.PassLaws.{pass-begin, pass_on, pass-failed, passed}
use Rattle.sources.proofs.CompareCases.{differs, differs-not}
use Rattle.sources.proofs.comparing.all_differ.Goals as goal

pub loop-i-init : goal.loop-i-init
loop-i-init c = pass-begin _

pub compare-requires : goal.compare-requires
compare-requires c = (c.requires, omega (arith, c.count_of-i-end.ensures))

pub returns-then-compare : goal.returns-then-compare
returns-then-compare c =
    let p = c.args in
    pass-failed (differs_at p.source.now p.x) _ c.loop-i.i (omega (arith, c.count_of-i-end.ensures))
    (differs-not p.source.now p.x c.loop-i.i _ c.compare.ensures c.if-compare.true)

pub loop-i-preserved : goal.loop-i-preserved
loop-i-preserved c =
    let p = c.args in
    pass_on (differs_at p.source.now p.x) c.loop-i.i c.loop-i.invariant
    (differs p.source.now p.x c.loop-i.i _ c.compare.ensures c.if-compare.false)

pub returns : goal.returns
returns c = passed (differs_at c.args.source.now c.args.x) _ c.loop-i.i (omega (arith, c.count_of-i-end.ensures)) c.loop-i.invariant
