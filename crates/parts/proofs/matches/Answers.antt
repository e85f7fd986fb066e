-- `matches` meets its contract: the pairs passed match, and those left decide.
use borrow.Author.Rules.{rules}
use Rattle.parts.proofs.Matching.{passed_none, passed_here, passed-more, passed-other, passed-all}
use Rattle.parts.proofs.matches.Goals as goal

pub loop-i-init : goal.loop-i-init
loop-i-init c = passed_none _ _ _

pub bounds-pairs-i-in-loop-i : goal.bounds-pairs-i-in-loop-i
bounds-pairs-i-in-loop-i c = (passed_here _ _ _ _ c.loop-i.invariant c.requires c.loop-i-test.true).inside

pub are_equal-requires : goal.are_equal-requires
are_equal-requires c =
    let h = passed_here _ _ _ _ c.loop-i.invariant c.requires c.loop-i-test.true in
    (rw c.wide-x.ensures.0 h.first, rw c.wide-y.ensures.0 h.second)

pub returns-then-not-are_equal : goal.returns-then-not-are_equal
returns-then-not-are_equal c =
    passed-other _ _ _ _ c.loop-i.invariant c.loop-i-test.true _ _ c.wide-x.ensures.0 c.wide-y.ensures.0 _ c.are_equal.ensures (c.if-not-are_equal.true)

pub loop-i-preserved : goal.loop-i-preserved
loop-i-preserved c =
    passed-more _ _ _ _ c.loop-i.invariant c.loop-i-test.true _ _ c.wide-x.ensures.0 c.wide-y.ensures.0 _ c.are_equal.ensures (c.if-not-are_equal.false)

pub returns : goal.returns
returns c = passed-all _ _ _ _ c.loop-i.invariant c.loop-i-test.false

pub returns-else-not-are_equal : goal.returns-else-not-are_equal
returns-else-not-are_equal c =
    passed-all _ _ _ _ (passed-more _ _ _ _ c.loop-i.invariant c.loop-i-test.true _ _ c.wide-x.ensures.0 c.wide-y.ensures.0 _ c.are_equal.ensures (c.if-not-are_equal.false)) (search rules)
