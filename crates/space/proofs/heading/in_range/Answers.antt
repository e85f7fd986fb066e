-- `space::heading::in_range` meets its contract.
use native.Mathlib.Omega.{arith}
use Rattle.std.proofs.lemmas.Bool.Decides.{nat_tests}
use Rattle.space.specs.Heading.{in_range}
use Rattle.space.proofs.heading.in_range.Goals as goal

pub returns-then-least-n : goal.returns-then-least-n
unfolding in_range
returns-then-least-n c = grind (arith, nat_tests)

pub returns-else-least-n : goal.returns-else-least-n
unfolding in_range
returns-else-least-n c = grind (arith, nat_tests)
