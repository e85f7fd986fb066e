-- `sources::names::all_named` meets its contract.
use mathlib.Core.Path.{refl}
use native.Mathlib.Omega.{arith}
use Rattle.basis.proofs.Tests.{told}
use Rattle.sources.specs.Records.{named_at}
use Rattle.sources.proofs.PassLaws.{pass-begin, pass_on, pass-failed, passed}
use Rattle.sources.proofs.names.all_named.Goals as goal

pub loop-i-init : goal.loop-i-init
loop-i-init c = (pass-begin _, refl)

pub record_named-requires : goal.record_named-requires
record_named-requires c = ((c.requires, omega (arith, c.count_of-i-end.ensures)), c.loop-i.invariant.1)

pub returns-then-not-record_named : goal.returns-then-not-record_named
returns-then-not-record_named c =
    pass-failed (named_at c.args.source.now c.args.x) _ c.loop-i.i (omega (arith, c.count_of-i-end.ensures))
    (told c.record_named.ensures.0 (c.if-not-record_named.true))

pub loop-i-preserved : goal.loop-i-preserved
loop-i-preserved c =
    let t = told c.record_named.ensures.0 (c.if-not-record_named.false) in
    (pass_on (named_at c.args.source.now c.args.x) c.loop-i.i c.loop-i.invariant.0 t, c.record_named.ensures.1)

pub returns : goal.returns
returns c = passed (named_at c.args.source.now c.args.x) _ c.loop-i.i (omega (arith, c.count_of-i-end.ensures)) c.loop-i.invariant.0
