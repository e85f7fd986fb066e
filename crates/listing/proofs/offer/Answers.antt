-- `offer` meets its contract, one case to each return.
use Rattle.listing.proofs.Turns.{offers-short, offers-cells}
use borrow.Author.Rules.{rules}
use Rattle.listing.proofs.offer.Goals as goal

pub returns-then-out-s : goal.returns-then-out-s
returns-then-out-s c = offers-short _ _ _ (search rules)

pub returns : goal.returns
returns c = offers-cells _ _ _ (search rules) _ c.copy.ensures
