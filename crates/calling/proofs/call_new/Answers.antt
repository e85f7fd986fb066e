-- `calling::call_new` meets its contract.
use Rattle.store.proofs.CallsCases.{new-nodes, new-records, new-entered}
use borrow.Author.Rules.{rules}
use Rattle.calling.proofs.call_new.Goals as goal

pub returns-then-free-tokens : goal.returns-then-free-tokens
returns-then-free-tokens c = new-nodes _ _ _ _ _ _ (search rules) (search rules)

pub returns-then-h : goal.returns-then-h
returns-then-h c = new-records _ _ _ _ _ _ (search rules) (search rules) (search rules)

pub returns : goal.returns
returns c = new-entered _ _ _ _ _ _ (search rules) (search rules) _ (search rules) c.enter_subgoal.ensures
