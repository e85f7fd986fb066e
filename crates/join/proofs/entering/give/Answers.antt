-- `join::entering::give` meets its contract.
use Rattle.join.proofs.EnterLaws.{given_by, givable-held}
use Rattle.trie.specs.Index.{search_indexed}
use Rattle.join.proofs.entering.give.Goals as goal

pub answer_at-requires : goal.answer_at-requires
answer_at-requires c = givable-held _ _ _ _ c.requires c.subgoal_in-g.ensures

pub returns : goal.returns
returns c = given_by (search_indexed c.args.index.now c.args.stood) c.args.space.now c.args.h c.args.s c.args.tokens.now _ _ _ c.subgoal_in-g.ensures c.answer_at.ensures
