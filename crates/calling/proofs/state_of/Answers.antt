-- `calling::state_of` meets its contract.
use borrow.Author.Rules.{rules}
use Rattle.store.proofs.CallsCases.{state-open, state-finished}
use Rattle.calling.proofs.state_of.Goals as goal

pub returns-then-x-eq0 : goal.returns-then-x-eq0
returns-then-x-eq0 c = state-open c.args.x (search rules)

pub returns : goal.returns
returns c = state-finished c.args.x (search rules)
