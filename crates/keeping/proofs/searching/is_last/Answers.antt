-- `keeping::searching::is_last` meets its contract.
use Rattle.keeping.proofs.FindCases.{last-damaged, last-stray, last-own}
use borrow.Author.Rules.{rules}
use borrow.Author.Tests.{ne_eqb}
use mathlib.Core.Path.{◌∙◌}
use Rattle.keeping.proofs.searching.is_last.Goals as goal

pub returns-then-y-parent : goal.returns-then-y-parent
returns-then-y-parent c = last-own c.args.space.now c.args.nodes c.args.links c.args.parent c.args.l (search rules) (search rules) _ c.in-Some.ensures (search rules)

pub returns-else-y-parent : goal.returns-else-y-parent
returns-else-y-parent c = ne_eqb _ _ (search rules) ∙ last-stray c.args.space.now c.args.nodes c.args.links c.args.parent c.args.l (search rules) (search rules) _ c.in-Some.ensures (search rules)

pub returns-in-None : goal.returns-in-None
returns-in-None c = last-damaged c.args.space.now c.args.nodes c.args.links c.args.parent c.args.l (search rules) (search rules) c.in-None.ensures
