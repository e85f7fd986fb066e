-- `space::fresh::clear` meets its contract.
use native.Mathlib.Omega.{arith}
use borrow.Author.Rules.{rules}
use Rattle.space.proofs.FreshCases.{zeros-put}
use Rattle.space.proofs.fresh.clear.Goals as goal

pub returns : goal.returns
returns c = zeros-put _ _ _ _ (omega arith) (search rules)
