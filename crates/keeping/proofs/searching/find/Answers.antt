-- `keeping::searching::find` meets its contract.
use Rattle.keeping.proofs.FindCases.{met-within, found-judged, found-last, found-chain}
use mathlib.Core.Path.{◌∙◌}
use borrow.Author.Rules.{rules}
use Rattle.keeping.proofs.searching.find.Goals as goal

pub judge-requires : goal.judge-requires
judge-requires c = (search rules, met-within c.args.space.now c.args.nodes c.args.links c.args.parent c.args.token c.args.lasts.now c.args.slots.now _ c.look_up-x.ensures (search rules))

pub returns-then-x-ne0 : goal.returns-then-x-ne0
returns-then-x-ne0 c = c.judge.ensures ∙ found-judged c.args.space.now c.args.nodes c.args.links c.args.parent c.args.token c.args.lasts.now c.args.slots.now _ c.look_up-x.ensures (search rules)

pub returns-then-is_last : goal.returns-then-is_last
returns-then-is_last c = found-last c.args.space.now c.args.nodes c.args.links c.args.parent c.args.token c.args.lasts.now c.args.slots.now _ c.look_up-x.ensures (search rules) _ c.wide-l.ensures.0 _ c.is_last.ensures (search rules)

pub returns : goal.returns
returns c = c.search_children.ensures ∙ found-chain c.args.space.now c.args.nodes c.args.links c.args.parent c.args.token c.args.lasts.now c.args.slots.now _ c.look_up-x.ensures (search rules) _ c.wide-l.ensures.0 _ c.is_last.ensures (search rules)
