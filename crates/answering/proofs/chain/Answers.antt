-- `answering::chain` meets its contract.
use Rattle.store.proofs.CallsAnswers.{chain_first, chain_next}
use borrow.Author.Rules.{rules}
use Rattle.answering.proofs.chain.Goals as goal

pub returns-then-last-eq0 : goal.returns-then-last-eq0
returns-then-last-eq0 c = chain_first _ _ _ c.args.answer_offset c.args.s c.args.last _ _ (search rules) c.write_first.ensures

pub returns : goal.returns
returns c = chain_next _ _ c.args.subgoal_offset _ c.args.s c.args.last _ _ (search rules) c.write_next.ensures
