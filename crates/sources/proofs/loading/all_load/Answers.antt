-- `sources::loading::all_load` meets its contract.
use native.Mathlib.Omega.{arith}
use Rattle.basis.proofs.Tests.{told}
use Rattle.sources.specs.Records.{loads_at}
use Rattle.sources.proofs.PassLaws.{pass-begin, pass_on, pass-failed, passed}
use Rattle.sources.proofs.loading.all_load.Goals as goal

pub loop-i-init : goal.loop-i-init
loop-i-init c = pass-begin _

pub record_loads-requires : goal.record_loads-requires
record_loads-requires c = (c.requires, omega (arith, c.count_of-i-end.ensures))

pub returns-then-not-record_loads : goal.returns-then-not-record_loads
returns-then-not-record_loads c =
    pass-failed (loads_at c.args.source.now c.args.x) _ c.loop-i.i (omega (arith, c.count_of-i-end.ensures))
    (told c.record_loads.ensures (c.if-not-record_loads.true))

pub loop-i-preserved : goal.loop-i-preserved
loop-i-preserved c =
    pass_on (loads_at c.args.source.now c.args.x) c.loop-i.i c.loop-i.invariant
    (told c.record_loads.ensures (c.if-not-record_loads.false))

pub returns : goal.returns
returns c = passed (loads_at c.args.source.now c.args.x) _ c.loop-i.i (omega (arith, c.count_of-i-end.ensures)) c.loop-i.invariant
