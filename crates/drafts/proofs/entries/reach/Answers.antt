-- `drafts::entries::reach` meets its contract.
use Rattle.drafts.proofs.EntryCases.{reach-none, reach-seek, reach-place, reach-found, reach-full, reach-made}
use borrow.Author.Rules.{rules}
use Rattle.drafts.proofs.entries.reach.Goals as goal

pub returns-then-x-eq0 : goal.returns-then-x-eq0
returns-then-x-eq0 c = reach-none c.args.space.now c.args.x c.args.used c.args.parent c.args.token c.requires (search rules)

pub seek-n-requires : goal.seek-n-requires
seek-n-requires c = reach-seek c.args.space.now c.args.x c.args.used c.args.parent c.args.token c.requires (search rules)

pub returns-then-n-ne0 : goal.returns-then-n-ne0
returns-then-n-ne0 c = reach-found c.args.space.now c.args.x c.args.used c.args.parent c.args.token c.requires c.seek-n.result c.seek-n.ensures (search rules)

pub returns-then-used-x : goal.returns-then-used-x
returns-then-used-x c = reach-full c.args.space.now c.args.x c.args.used c.args.parent c.args.token c.requires c.seek-n.result c.seek-n.ensures (search rules) (search rules)

pub place-requires : goal.place-requires
place-requires c = reach-place c.args.space.now c.args.x c.args.used c.args.parent c.args.token c.requires (search rules)

pub returns : goal.returns
returns c = reach-made c.args.space.now c.args.x c.args.used c.args.parent c.args.token c.requires c.seek-n.result c.seek-n.ensures (search rules) c.place.new.space c.place.ensures
