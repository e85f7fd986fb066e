-- `pairing::cursors::find_match` meets its contract.
use native.Mathlib.Omega.{arith}
use mathlib.Core.Path.{◌∙◌}
use Rattle.pairing.proofs.FindLaws.{finding-begun, finding-end, second-takeable, finding-less, comparable, finding-on, copyable, finding-long, finding-at}
use Rattle.pairing.proofs.cursors.find_match.Goals as goal

pub loop-b-init : goal.loop-b-init
loop-b-init c = (finding-begun _ _ _ _ c.requires.throughout _ _ _ c.requires.compared, c.requires.room)

pub answer_in-y-requires : goal.answer_in-y-requires
answer_in-y-requires c = (c.requires.throughout.bounds, omega arith, c.loop-b.invariant.0.rest.within)

pub take_answer-requires : goal.take_answer-requires
take_answer-requires c = second-takeable _ _ _ _ c.requires.throughout _ _ _ c.requires.compared _ _ c.loop-b.invariant.0 c.loop-b-test.true _ c.answer_in-y.ensures _ c.loop-b.invariant.1

pub matches-requires : goal.matches-requires
matches-requires c = comparable _ _ _ _ c.requires.throughout _ _ _ c.requires.compared _ _ c.loop-b.invariant.0 c.loop-b-test.true _ c.answer_in-y.ensures _ _ _ c.take_answer.ensures c.take_answer.auto.form

pub put_together-requires : goal.put_together-requires
put_together-requires c = copyable _ _ _ _ c.requires.throughout _ _ _ c.requires.compared _ _ c.loop-b.invariant.0 c.loop-b-test.true _ c.answer_in-y.ensures _ _ _ c.take_answer.ensures c.take_answer.auto.form _ c.matches.ensures c.if-matches.true

pub loop-b-smaller : goal.loop-b-smaller
loop-b-smaller c = finding-less _ _ _ _ c.requires.throughout _ _ _ c.requires.compared _ _ c.loop-b.invariant.0 c.loop-b-test.true _ c.answer_in-y.ensures

pub loop-b-preserved : goal.loop-b-preserved
loop-b-preserved c = (finding-on _ _ _ _ c.requires.throughout _ _ _ c.requires.compared _ _ c.loop-b.invariant.0 c.loop-b-test.true _ c.answer_in-y.ensures _ _ _ c.take_answer.ensures c.take_answer.auto.form _ c.matches.ensures c.if-matches.false, c.take_answer.ensures.1 ∙ c.loop-b.invariant.1)

pub returns : goal.returns
returns c = finding-end _ _ _ _ c.requires.throughout _ _ _ c.requires.compared _ _ c.loop-b.invariant.0 c.loop-b-test.false

pub returns-in-Some : goal.returns-in-Some
returns-in-Some c = finding-at _ _ _ _ c.requires.throughout _ _ _ c.requires.compared _ _ c.loop-b.invariant.0 c.loop-b-test.true _ c.answer_in-y.ensures _ _ _ c.take_answer.ensures c.take_answer.auto.form _ c.matches.ensures c.if-matches.true _ _ c.put_together.ensures _ c.in-Some.is

pub returns-in-None : goal.returns-in-None
returns-in-None c = finding-long _ _ _ _ c.requires.throughout _ _ _ c.requires.compared _ _ c.loop-b.invariant.0 c.loop-b-test.true _ c.answer_in-y.ensures _ _ _ c.take_answer.ensures c.take_answer.auto.form _ c.matches.ensures c.if-matches.true _ _ c.put_together.ensures c.in-None.is
