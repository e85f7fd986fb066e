-- `space::records::rises` meets its contract.
use native.Mathlib.Omega.{arith}
use Rattle.std.proofs.lemmas.Bool.Decides.{nat_tests}
use Rattle.space.proofs.records.rises.Goals as goal

pub returns-then-y-n : goal.returns-then-y-n
returns-then-y-n c = grind (arith, nat_tests)

pub returns-else-y-n : goal.returns-else-y-n
returns-else-y-n c = grind (arith, nat_tests)
