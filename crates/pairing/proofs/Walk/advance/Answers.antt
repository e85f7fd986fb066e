-- `pairing::Walk::advance` meets its contract.
use Rattle.pairing.proofs.AdvanceLaws.{advancing-begun, advanced-at, advanced-long, advanced-end, first-takeable, advancing-less, advancing-on}
use native.Mathlib.Omega.{arith}
use Rattle.pairing.proofs.Walk.advance.Goals as goal

pub loop-inner-init : goal.loop-inner-init
loop-inner-init c = advancing-begun _ _ _ _ c.requires.throughout _ _ _ c.requires.stands

pub returns-in-At : goal.returns-in-At
returns-in-At c = advanced-at _ _ _ _ c.requires.throughout _ _ _ _ _ _ c.loop-inner.invariant _ _ _ (rw c.in-At.is at c.find_match-found.ensures)

pub returns-in-TooLong : goal.returns-in-TooLong
returns-in-TooLong c = advanced-long _ _ _ _ c.requires.throughout _ _ _ _ _ _ c.loop-inner.invariant c.find_match-found.new.form (rw c.in-TooLong.is at c.find_match-found.ensures)

pub returns-then-self-eq0 : goal.returns-then-self-eq0
returns-then-self-eq0 c = advanced-end _ _ _ _ c.requires.throughout _ _ _ _ _ _ c.loop-inner.invariant _ (rw c.in-End.is at c.find_match-found.ensures) c.if-self-eq0.true

pub answer_in-y-requires : goal.answer_in-y-requires
answer_in-y-requires c = (c.requires.throughout.bounds, omega arith, c.loop-inner.invariant.stands.outer.within)

pub take_answer-requires : goal.take_answer-requires
take_answer-requires c = first-takeable _ _ _ _ c.requires.throughout _ _ _ _ _ _ c.loop-inner.invariant _ (rw c.in-End.is at c.find_match-found.ensures) c.if-self-eq0.false _ c.answer_in-y.ensures

pub loop-inner-smaller : goal.loop-inner-smaller
loop-inner-smaller c = advancing-less _ _ _ _ c.requires.throughout _ _ _ _ _ _ c.loop-inner.invariant _ (rw c.in-End.is at c.find_match-found.ensures) c.if-self-eq0.false _ c.answer_in-y.ensures

pub loop-inner-preserved : goal.loop-inner-preserved
loop-inner-preserved c = advancing-on _ _ _ _ c.requires.throughout _ _ _ _ _ _ c.loop-inner.invariant _ (rw c.in-End.is at c.find_match-found.ensures) c.if-self-eq0.false _ c.answer_in-y.ensures _ _ c.take_answer.ensures c.take_answer.auto.form
