-- `space::heading::subgoals_between` meets its contract.
use Rattle.space.proofs.WidthLaws.{subgoal-narrow}
use Rattle.space.proofs.heading.subgoals_between.Goals as goal

pub returns : goal.returns
returns c = rw (subgoal-narrow _) c.capacity_of.ensures
