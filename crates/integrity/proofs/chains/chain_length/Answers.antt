-- `integrity::chains::chain_length` meets its contract.
use Rattle.store.proofs.ChainMeasure.{ahead-less}
use Rattle.integrity.proofs.ChainCases.{next-rises, counting-begin, counting-less, counting-on, counting-ended}
use native.Mathlib.Omega.{arith}
use borrow.Author.Rules.{rules}
use Rattle.integrity.proofs.chains.chain_length.Goals as goal

pub loop-a-init : goal.loop-a-init
loop-a-init c = counting-begin c.args.table.now (c.args.first) (c.requires.1)

pub overflow_add-count : goal.overflow_add-count
overflow_add-count c = let b = c.args.table.now.within in let k = counting-less c.args.table.now (c.args.first) (c.loop-a.invariant) (search rules) in omega arith

pub loop-a-smaller : goal.loop-a-smaller
loop-a-smaller c = ahead-less _ _ _ (search rules) (c.loop-a.invariant.along.within) (next-rises c.args.table.now (c.args.first) (c.loop-a.invariant.along) (search rules) (c.requires.0) (c.answer-a.result) (c.answer-a.ensures))

pub loop-a-preserved : goal.loop-a-preserved
loop-a-preserved c = counting-on c.args.table.now (c.args.first) (c.loop-a.invariant) (search rules) (c.requires.0) (c.answer-a.result) (c.answer-a.ensures)

pub returns : goal.returns
returns c = counting-ended c.args.table.now (c.args.first) (c.loop-a.invariant) (search rules)
