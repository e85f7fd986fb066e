-- `pairing::counting::earlier` meets its contract.
use native.Mathlib.Omega.{arith}
use borrow.Author.Rules.{rules}
use Rattle.pairing.proofs.NeedLaws.{comparing-begun, compared-end, compared-held, comparing-short, comparing-on}
use Rattle.pairing.proofs.CountLaws.{walk-ended}
use Rattle.pairing.proofs.counting.earlier.Goals as goal

pub loop-i-init : goal.loop-i-init
loop-i-init c = comparing-begun _ _ _ _ _ c.requires.ready_to_count.0 c.requires.ready_to_count.1 c.begin-walk.result c.begin-walk.ensures

pub returns-in_default : goal.returns-in_default
returns-in_default c = absurd (comparing-short _ _ _ _ _ _ _ _ _ _ c.loop-i.invariant c.args.count c.requires.count_in_bounds c.loop-i-test.true (walk-ended c.args.space.now c.args.x _ _ c.loop-i.walk c.advance.new.self _ c.advance.ensures c.in_default.not-At c.loop-i.invariant.fit))

pub returns-then-e : goal.returns-then-e
returns-then-e c = compared-held _ _ _ _ _ _ _ _ _ _ (comparing-on _ _ _ _ _ _ _ _ _ _ c.loop-i.invariant _ _ _ _ (rw c.in-At.is at c.advance.ensures) _ c.meet-e.ensures) c.args.count (omega arith) (search rules)

pub loop-i-preserved : goal.loop-i-preserved
loop-i-preserved c = comparing-on _ _ _ _ _ _ _ _ _ _ c.loop-i.invariant _ _ _ _ (rw c.in-At.is at c.advance.ensures) _ c.meet-e.ensures

pub returns : goal.returns
returns c = compared-end _ _ _ _ _ _ _ _ _ _ c.loop-i.invariant c.args.count (omega arith)
