-- `answering::answer_read` meets its contract.
use Rattle.store.proofs.CallsReading.{form-taken}
use Rattle.store.proofs.CallsAnswers.{does-refused, does-form}
use Rattle.answering.proofs.answer_read.Goals as goal

pub returns-in_default : goal.returns-in_default
returns-in_default c = does-refused _ _ _ _ c.args.g _ _ _ c.unwrap_err.ensures

pub slice_bounds-answer_at-end : goal.slice_bounds-answer_at-end
slice_bounds-answer_at-end c = form-taken _ _ _ _ c.in-Ok.is c.requires.1

pub returns : goal.returns
returns c = does-form _ _ _ _ _ _ _ _ _ _ _ c.requires.0.3 c.in-Ok.is c.answer_at.ensures
