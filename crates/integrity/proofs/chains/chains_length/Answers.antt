-- `integrity::chains::chains_length` meets its contract.
use Rattle.integrity.proofs.ChainCases.{lengths_to, lengths_none, lengths-on, first-named}
use Prim.Native.Nat.{◌+◌}
use mathlib.Core.Path.{◌≡◌, ◌∙◌, ap}
use native.Mathlib.Omega.{arith}
use Rattle.integrity.proofs.chains.chains_length.Goals as goal

pub loop-i-init : goal.loop-i-init
loop-i-init c = (lengths_none c.args.table.now, omega arith)

pub chain_length-count-requires : goal.chain_length-count-requires
chain_length-count-requires c = (c.requires, first-named c.args.table.now (c.requires) (c.loop-i.i + 1) (omega arith) (omega arith) (c.subgoal.result) (c.subgoal.ensures))

pub overflow_add-count : goal.overflow_add-count
overflow_add-count c = let b = c.args.table.now.within in let l = c.loop-i.invariant.1 in let k = c.chain_length-count.ensures.1 in omega arith

pub loop-i-preserved : goal.loop-i-preserved
loop-i-preserved c = (lengths-on c.args.table.now (c.loop-i.i) (c.loop-i.count) _ (c.subgoal.result) (c.loop-i.invariant.0) (c.subgoal.ensures) (c.chain_length-count.ensures), (let b = c.args.table.now.within in let l = c.loop-i.invariant.1 in let k = c.chain_length-count.ensures.1 in omega arith))

pub returns : goal.returns
returns c = let z : (c.loop-i.i) ≡ (c.args.table.now.head.subgoals) = omega arith in c.loop-i.invariant.0 ∙ ap (lengths_to c.args.table.now) z
