-- `reads::lacking` meets its contract.
use borrow.Author.Rules.{rules}
use Rattle.reads.proofs.ReadsCases.{lacks-open, lacks-finished}
use Rattle.reads.proofs.lacking.Goals as goal

pub returns-then-state-eq0 : goal.returns-then-state-eq0
returns-then-state-eq0 c = lacks-open c.args.state (search rules)

pub returns : goal.returns
returns c = lacks-finished c.args.state (search rules)
