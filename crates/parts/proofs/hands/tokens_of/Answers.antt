-- `tokens_of` meets its contract: the places of the term and of the next bound its tokens.
use Rattle.parts.proofs.EqualTokens.{segment-taken}
use Rattle.parts.proofs.hands.tokens_of.Goals as goal

pub returns : goal.returns
returns c = segment-taken c.args.held.now c.args.x c.wide.result c.wide-2.result c.requires c.wide.ensures.0 c.wide-2.ensures.0
