-- `integrity::firsts::first_leaf` meets its contract.
use Rattle.integrity.proofs.FirstCases.{child-rises, descending-begin, descending-ended, descending-on}
use native.Mathlib.Omega.{arith}
use borrow.Author.Rules.{rules}
use Rattle.integrity.proofs.firsts.first_leaf.Goals as goal

pub loop-y-init : goal.loop-y-init
loop-y-init c = descending-begin c.args.table.now (c.args.i) (c.requires.1)

pub returns-then-y-eq0 : goal.returns-then-y-eq0
returns-then-y-eq0 c = descending-ended c.args.table.now (c.args.i) (c.loop-y.invariant) (c.node-y.result) (c.node-y.ensures) (search rules)

pub loop-y-smaller : goal.loop-y-smaller
loop-y-smaller c = let r = child-rises c.args.table.now (c.requires.0) (c.loop-y.j) (c.loop-y.invariant.inside) (c.node-y.result) (c.node-y.ensures) (search rules) in omega (arith, r.0, r.1)

pub loop-y-preserved : goal.loop-y-preserved
loop-y-preserved c = descending-on c.args.table.now (c.args.i) (c.loop-y.invariant) (c.node-y.result) (c.node-y.ensures) (c.requires.0) (search rules)
