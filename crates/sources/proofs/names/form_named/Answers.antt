-- `sources::names::form_named` meets its contract.
use native.Mathlib.Omega.{arith}
use Rattle.basis.proofs.Tests.{told}
use Rattle.sources.proofs.NameCases.{rest-begin, rest-unnamed, rest-on, rest_ended}
use Rattle.sources.proofs.names.form_named.Goals as goal

pub loop-x-init : goal.loop-x-init
loop-x-init c = rest-begin _

pub returns-then-not-is_named : goal.returns-then-not-is_named
returns-then-not-is_named c =
    rest-unnamed c.args.form.now c.loop-x.x-index c.loop-x.invariant (omega arith)
    (told c.is_named.ensures (c.if-not-is_named.true))

pub loop-x-preserved : goal.loop-x-preserved
loop-x-preserved c =
    rest-on c.args.form.now c.loop-x.x-index c.loop-x.invariant (omega arith)
    (told c.is_named.ensures (c.if-not-is_named.false))

pub returns : goal.returns
returns c = rest_ended c.args.form.now c.loop-x.x-index c.loop-x.invariant (omega arith)
