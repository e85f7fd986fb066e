-- `space::heading::answers_between` meets its contract.
use Rattle.space.proofs.WidthLaws.{answer-narrow}
use Rattle.space.proofs.heading.answers_between.Goals as goal

pub returns : goal.returns
returns c = rw (answer-narrow _) c.capacity_of.ensures
