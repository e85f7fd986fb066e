-- `calling::call_old` meets its contract.
use Rattle.basis.proofs.Tests.{told}
use Rattle.store.proofs.CallsCases.{old-none, old-damaged, old-other, old-found}
use borrow.Author.Rules.{rules}
use Rattle.calling.proofs.call_old.Goals as goal

pub returns-then-s-eq0 : goal.returns-then-s-eq0
returns-then-s-eq0 c = old-none c.args.space.now c.args.h c.args.leaf c.args.s (search rules)

pub returns-in_default : goal.returns-in_default
returns-in_default c = old-damaged c.args.space.now c.args.h c.args.leaf c.args.s (search rules) (told c.in_default.is c.read_subgoal.ensures)

pub returns-then-y-leaf : goal.returns-then-y-leaf
returns-then-y-leaf c = old-found c.args.space.now c.args.h c.args.leaf c.args.s (search rules) c.in-Some.y (told c.in-Some.is c.read_subgoal.ensures) _ (search rules) c.state_of.ensures

pub returns : goal.returns
returns c = old-other c.args.space.now c.args.h c.args.leaf c.args.s (search rules) c.in-Some.y (told c.in-Some.is c.read_subgoal.ensures) (search rules)
