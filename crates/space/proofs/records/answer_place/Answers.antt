-- `space::records::answer_place` meets its contract.
use borrow.Author.Rules.{rules}
use native.Mathlib.Omega.{arith}
use Rattle.space.proofs.WidthLaws.{record-placed, width-times, answer-narrow}
use Rattle.space.proofs.records.answer_place.Goals as goal

pub overflow_mul-result : goal.overflow_mul-result
overflow_mul-result c = omega (arith, width-times _ 3 (answer-narrow c.args.edition) c.args.a)

pub overflow_add-result : goal.overflow_add-result
overflow_add-result c = omega (arith, width-times _ 3 (answer-narrow c.args.edition) c.args.a)

pub returns : goal.returns
returns c = record-placed _ 3 (answer-narrow _) _ _ 3 (search rules) (omega arith)
