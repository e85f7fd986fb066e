-- `space::blocks::subgoals_end` meets its contract.
use native.Mathlib.Omega.{arith}
use Rattle.space.proofs.WidthLaws.{subgoal-narrow}
use Rattle.space.proofs.blocks.subgoals_end.Goals as goal

pub returns : goal.returns
returns c = (rw (subgoal-narrow _), omega arith)
