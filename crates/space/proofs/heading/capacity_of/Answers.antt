-- `space::heading::capacity_of` meets its contract.
use Rattle.basis.proofs.Tests.{told}
use native.Mathlib.Omega.{arith}
use Rattle.space.proofs.HeaderCases.{capacity-falling, capacity-split, capacity-outside, capacity-whole}
use borrow.Author.Rules.{rules}
use Rattle.space.proofs.heading.capacity_of.Goals as goal

pub returns-then-high-low : goal.returns-then-high-low
returns-then-high-low c = capacity-falling _ _ _ _ (search rules)

pub nonzero_rem-span : goal.nonzero_rem-span
nonzero_rem-span c = omega arith

pub nonzero_div-n : goal.nonzero_div-n
nonzero_div-n c = omega arith

pub returns-then-in_range : goal.returns-then-in_range
returns-then-in_range c = capacity-whole _ _ _ _ (search rules) (search rules) (search told)

pub returns-else-in_range : goal.returns-else-in_range
returns-else-in_range c = capacity-outside _ _ _ _ (search rules) (search rules) (search told)

pub returns-else-span-size-eq0 : goal.returns-else-span-size-eq0
returns-else-span-size-eq0 c = capacity-split _ _ _ _ (search rules) (search rules)
