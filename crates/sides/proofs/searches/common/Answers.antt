-- `sides::searches::common` meets its contract.
use Rattle.sides.proofs.SearchCases.{common-ended, common-other, common-next}
use native.Mathlib.Omega.{arith}
use borrow.Author.Rules.{rules}
use Rattle.sides.proofs.searches.common.Goals as goal

pub returns-then-a-i : goal.returns-then-a-i
returns-then-a-i c = common-other c.args.a.now c.args.b.now c.loop-i.i c.loop-i.invariant (omega arith) (omega arith) (search rules)

pub loop-i-preserved : goal.loop-i-preserved
loop-i-preserved c = common-next c.args.a.now c.args.b.now c.loop-i.i c.loop-i.invariant (omega arith) (omega arith) (search rules)

pub returns : goal.returns
returns c = let e = common-ended c.args.a.now c.args.b.now c.loop-i.i c.loop-i.invariant (λ p q. omega arith) in omega arith
