-- `copying::tokens::are_named` meets its contract.
use mathlib.Core.Path.{sym, ap, ◌∙◌}
use native.Mathlib.Omega.{arith}
use Rattle.basis.proofs.Tests.{told}
use Rattle.space.specs.declared.Node.{Node}
use Rattle.space.proofs.HeaderLaws.{bounds-nodes}
use Rattle.carrying.specs.Recoding.{name_fits}
use Rattle.sources.proofs.PassLaws.{pass-begin, pass_on}
use Rattle.copying.proofs.TokenCases.{token_named, nodes-unnamed, nodes-named}
use Rattle.copying.proofs.tokens.are_named.Goals as goal

pub loop-i-init : goal.loop-i-init
loop-i-init c = pass-begin _

pub node_in-requires : goal.node_in-requires
node_in-requires c = (bounds-nodes _ _ c.requires, omega arith)

pub returns-then-not-is_named : goal.returns-then-not-is_named
returns-then-not-is_named c =
    let l = c.loop-i in
    nodes-unnamed c.args.space.now c.args.h l.i (omega arith)
    (ap (λ (y : Node). name_fits y.token) (sym c.node_in.ensures) ∙ told c.is_named.ensures (c.if-not-is_named.true))

pub loop-i-preserved : goal.loop-i-preserved
loop-i-preserved c =
    let l = c.loop-i in
    pass_on (token_named c.args.space.now c.args.h) l.i l.invariant
    (ap (λ (y : Node). name_fits y.token) (sym c.node_in.ensures) ∙ told c.is_named.ensures (c.if-not-is_named.false))

pub returns : goal.returns
returns c = nodes-named c.args.space.now c.args.h c.loop-i.i (omega arith) (omega arith) c.loop-i.invariant
