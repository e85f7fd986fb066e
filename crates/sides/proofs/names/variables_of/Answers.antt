-- `sides::names::variables_of` meets its contract.
use Rattle.sides.proofs.NameCases.{side-first, side-second, side-none}
use borrow.Author.Rules.{rules}
use Rattle.sides.proofs.names.variables_of.Goals as goal

pub returns-in-0 : goal.returns-in-0
returns-in-0 c = side-first _ _ _ (search rules)

pub returns-in-1 : goal.returns-in-1
returns-in-1 c = side-second _ _ _ (search rules)

pub returns-in_default : goal.returns-in_default
returns-in_default c = side-none _ _ _ (search rules) (search rules)
