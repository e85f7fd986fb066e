-- `descend` meets its contract: each turn goes down one child, and each answer comes by its law.
use native.Mathlib.Omega.{arith}
use mathlib.Core.Path.{◌≡◌}
use Rattle.std.specs.Prelude.{None}
use Rattle.basis.proofs.Tests.{told}
use Rattle.space.proofs.HeaderLaws.{bounds-nodes}
use borrow.Author.Rules.{rules}
use Rattle.reasons.proofs.WhyCases.{descending-begin, child-inside, child-rises, descending-end, descending-lost, descending-stray, descending-on}
use Rattle.reasons.proofs.descend.Goals as goal

pub node_in-y-requires : goal.node_in-y-requires
node_in-y-requires c = (bounds-nodes _ _ c.requires.0, c.requires.1.0)

pub loop-child-init : goal.loop-child-init
loop-child-init c = descending-begin c.args.space.now c.args.h c.args.from c.requires.1 _ c.node_in-y.ensures

pub read_node-requires : goal.read_node-requires
read_node-requires c =
    (bounds-nodes _ _ c.requires.0, child-inside c.args.space.now c.args.h c.args.from c.loop-child.invariant)

pub returns-in_err-x : goal.returns-in_err-x
returns-in_err-x c =
    let passed : c.from_residual.result ≡ None = search rules in
    rw passed (descending-lost c.args.space.now c.args.h c.args.from c.loop-child.invariant c.loop-child-test.true (told c.in_err-x.was c.read_node.ensures))

pub returns-then-x-n : goal.returns-then-x-n
returns-then-x-n c =
    descending-stray c.args.space.now c.args.h c.args.from c.loop-child.invariant c.loop-child-test.true _ (told c.in_ok-x.was c.read_node.ensures) (search rules)

pub loop-child-smaller : goal.loop-child-smaller
loop-child-smaller c =
    omega (arith, c.loop-child.invariant.inside, child-rises c.args.space.now c.args.h c.args.from c.loop-child.invariant c.loop-child-test.true)

pub loop-child-preserved : goal.loop-child-preserved
loop-child-preserved c =
    descending-on c.args.space.now c.args.h c.args.from c.loop-child.invariant c.loop-child-test.true _ (told c.in_ok-x.was c.read_node.ensures) (search rules)

pub returns : goal.returns
returns c =
    descending-end c.args.space.now c.args.h c.args.from c.loop-child.invariant (search rules)
