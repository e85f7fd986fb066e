-- `space::blocks::answers_end` meets its contract.
use native.Mathlib.Omega.{arith}
use Rattle.space.proofs.WidthLaws.{answer-narrow}
use Rattle.space.proofs.blocks.answers_end.Goals as goal

pub returns : goal.returns
returns c = (rw (answer-narrow _), omega arith)
