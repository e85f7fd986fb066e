-- `integrity::chains::is_after` meets its contract.
use Rattle.store.proofs.ChainMeasure.{ahead-less}
use Rattle.integrity.proofs.ChainCases.{next-rises, searching-begin, searching-found, searching-on, searching-ended}
use borrow.Author.Rules.{rules}
use Rattle.integrity.proofs.chains.is_after.Goals as goal

pub loop-b-init : goal.loop-b-init
loop-b-init c = searching-begin c.args.table.now (c.args.first) (c.args.a) (c.requires.1)

pub returns-then-b-a : goal.returns-then-b-a
returns-then-b-a c = searching-found c.args.table.now (c.args.first) (c.args.a) (c.loop-b.invariant) (search rules) (search rules)

pub loop-b-smaller : goal.loop-b-smaller
loop-b-smaller c = ahead-less _ _ _ (search rules) (c.loop-b.invariant.along.within) (next-rises c.args.table.now (c.args.first) (c.loop-b.invariant.along) (search rules) (c.requires.0) (c.answer-b.result) (c.answer-b.ensures))

pub loop-b-preserved : goal.loop-b-preserved
loop-b-preserved c = searching-on c.args.table.now (c.args.first) (c.args.a) (c.loop-b.invariant) (search rules) (search rules) (c.requires.0) (c.answer-b.result) (c.answer-b.ensures)

pub returns : goal.returns
returns c = searching-ended c.args.table.now (c.args.first) (c.args.a) (c.loop-b.invariant) (search rules)
