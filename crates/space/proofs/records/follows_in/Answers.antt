-- `space::records::follows_in` meets its contract.
use native.Mathlib.Omega.{arith}
use Rattle.std.proofs.lemmas.Bool.Decides.{nat_tests}
use Rattle.space.specs.Judging.{follows}
use Rattle.space.proofs.records.follows_in.Goals as goal

pub returns-then-x-eq0 : goal.returns-then-x-eq0
unfolding follows
returns-then-x-eq0 c = grind (arith, nat_tests)

pub returns-then-n-x : goal.returns-then-n-x
unfolding follows
returns-then-n-x c = grind (arith, nat_tests)

pub returns : goal.returns
unfolding follows
returns c = grind (arith, nat_tests)
