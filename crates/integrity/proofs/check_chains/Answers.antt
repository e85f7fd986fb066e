-- `integrity::check_chains` meets its contract.
use Rattle.integrity.proofs.CheckCases.{chains-whole, chains-lost, lost-most}
use native.Mathlib.Omega.{arith}
use borrow.Author.Rules.{rules}
use Rattle.integrity.proofs.check_chains.Goals as goal

pub returns-then-chains_length-table : goal.returns-then-chains_length-table
returns-then-chains_length-table c = chains-whole c.args.table.now _ (c.chains_length.ensures) (search rules)

pub overflow_add-result : goal.overflow_add-result
overflow_add-result c = let b = c.args.table.now.within in omega (arith, c.first_lost-a.ensures, lost-most c.args.table.now)

pub overflow_cast-result : goal.overflow_cast-result
overflow_cast-result c = let b = c.args.table.now.within in omega (arith, c.first_lost-a.ensures, lost-most c.args.table.now)

pub returns : goal.returns
returns c = chains-lost c.args.table.now _ (c.first_lost-a.result) (c.chains_length.ensures) (search rules) (c.first_lost-a.ensures)
