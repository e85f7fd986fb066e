-- `integrity::firsts::led_up` meets its contract.
use Rattle.integrity.proofs.FirstCases.{Climbing, parent-falls, climbing-begin, climbing-ended, climbing-root, climbing-above, climbing-on}
use mathlib.Core.Path.{◌≡◌, subst}
use Prim.Native.Nat.{ℕ, ◌+◌, ◌-◌}
use native.Mathlib.Omega.{arith}
use borrow.Author.Rules.{rules}
use Rattle.integrity.proofs.firsts.led_up.Goals as goal

one-less : (k : ℕ) → 383 - k - 1 ≡ 383 - (k + 1)
one-less k = omega arith

pub loop-init : goal.loop-init
loop-init c = climbing-begin c.args.table.now (c.args.s) (c.args.i) (c.requires.1)

pub node-above-requires : goal.node-above-requires
node-above-requires c = parent-falls c.args.table.now (c.requires.0) (c.loop.n) (c.loop.invariant.inside) (c.node-y.result) (c.node-y.ensures)

pub returns-then-above-p : goal.returns-then-above-p
returns-then-above-p c = climbing-root c.args.table.now (c.args.s) (c.args.i) (c.loop.invariant) (search rules) (c.node-y.result) (c.node-y.ensures) (c.node-above.result) (c.node-above.ensures) (search rules)

pub first_leaf-leaf-requires : goal.first_leaf-leaf-requires
first_leaf-leaf-requires c = (c.requires.0, parent-falls c.args.table.now (c.requires.0) (c.loop.n) (c.loop.invariant.inside) (c.node-y.result) (c.node-y.ensures))

pub returns-then-s-z : goal.returns-then-s-z
returns-then-s-z c = climbing-above c.args.table.now (c.args.s) (c.args.i) (c.loop.invariant) (search rules) (c.node-y.result) (c.node-y.ensures) (c.node-above.result) (c.node-above.ensures) (search rules) (c.first_leaf-leaf.result) (c.first_leaf-leaf.ensures.0) (c.node-z.result) (c.node-z.ensures) (search rules)

pub loop-preserved : goal.loop-preserved
loop-preserved c = subst (Climbing c.args.table.now c.args.s c.args.i c.node-y.result.parent) (one-less c.loop.counter) (climbing-on c.args.table.now (c.args.s) (c.args.i) (c.loop.invariant) (search rules) (c.node-y.result) (c.node-y.ensures) (c.node-above.result) (c.node-above.ensures) (search rules) (c.first_leaf-leaf.result) (c.first_leaf-leaf.ensures.0) (c.node-z.result) (c.node-z.ensures) (c.requires.0) (search rules))

pub returns : goal.returns
returns c = climbing-ended c.args.table.now (c.args.s) (c.args.i) (c.loop.invariant) (search rules)
