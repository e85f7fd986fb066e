-- `integrity::chains::is_chained` meets its contract.
use Rattle.integrity.proofs.ChainCases.{owner-named, first-named, chained-by}
use Rattle.integrity.proofs.chains.is_chained.Goals as goal

pub subgoal-g-requires : goal.subgoal-g-requires
subgoal-g-requires c = let o = owner-named c.args.table.now (c.requires.0) (c.args.a) (c.requires.1) (c.requires.2) (c.answer-y.result) (c.answer-y.ensures) in o

pub is_after-requires : goal.is_after-requires
is_after-requires c = let o = owner-named c.args.table.now (c.requires.0) (c.args.a) (c.requires.1) (c.requires.2) (c.answer-y.result) (c.answer-y.ensures) in (c.requires.0, first-named c.args.table.now (c.requires.0) (c.answer-y.result.subgoal) o.0 o.1 (c.subgoal-g.result) (c.subgoal-g.ensures))

pub returns : goal.returns
returns c = chained-by c.args.table.now (c.args.a) (c.answer-y.result) (c.subgoal-g.result) _ (c.answer-y.ensures) (c.subgoal-g.ensures) (c.is_after.ensures)
