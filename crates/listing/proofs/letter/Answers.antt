-- `letter` meets its contract, one case to each return.
use Rattle.listing.proofs.Cases.{letter-symbol, letter-variable}
use borrow.Author.Rules.{rules}
use Rattle.listing.proofs.letter.Goals as goal

pub returns-then-j-symbols : goal.returns-then-j-symbols
returns-then-j-symbols c = letter-symbol _ _ (search rules)

pub returns : goal.returns
returns c = letter-variable _ _ _ (search rules) (search rules)
