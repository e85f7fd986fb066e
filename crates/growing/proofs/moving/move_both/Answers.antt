-- `growing::moving::move_both` meets its contract.
use native.Mathlib.Omega.{arith}
use Rattle.growing.proofs.MovingLaws.{both-up, both-down}
use Rattle.growing.proofs.moving.move_both.Goals as goal

pub returns-then-b : goal.returns-then-b
returns-then-b c = both-up _ _ _ _ _ (omega arith) c.move_block.ensures c.move_block-then-b.ensures

pub returns-else-b : goal.returns-else-b
returns-else-b c = both-down _ _ _ _ _ (omega arith) c.move_block-else-b.ensures c.move_block-else-b-2.ensures
