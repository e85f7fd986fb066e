-- `space::records::subgoal_place` meets its contract.
use borrow.Author.Rules.{rules}
use native.Mathlib.Omega.{arith}
use Rattle.space.proofs.WidthLaws.{record-placed, width-times, subgoal-narrow}
use Rattle.space.proofs.records.subgoal_place.Goals as goal

pub overflow_mul-result : goal.overflow_mul-result
overflow_mul-result c = omega (arith, width-times _ 6 (subgoal-narrow c.args.edition) c.args.s)

pub overflow_add-result : goal.overflow_add-result
overflow_add-result c = omega (arith, width-times _ 6 (subgoal-narrow c.args.edition) c.args.s)

pub returns : goal.returns
returns c = record-placed _ 6 (subgoal-narrow _) _ _ 6 (search rules) (omega arith)
