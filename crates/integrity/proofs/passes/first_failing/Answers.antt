-- `integrity::passes::first_failing` meets its contract.
use Rattle.integrity.proofs.CheckCases.{pass-begin, pass-ended, pass-failed, pass_on}
use mathlib.Core.Path.{◌≡◌, sym, ◌∙◌}
use native.Mathlib.Omega.{arith}
use borrow.Author.Rules.{rules}
use Rattle.integrity.proofs.passes.first_failing.Goals as goal

pub loop-i-init : goal.loop-i-init
loop-i-init g c test a = pass-begin test

pub test-requires : goal.test-requires
test-requires g c = c.requires _ c.loop-i-test.true c.loop-i.invariant

pub returns-then-not-test : goal.returns-then-not-test
returns-then-not-test g c test a = pass-failed test c.args.n c.loop-i.i (c.loop-i.invariant test a) (search rules) (sym (a _ _ c.loop-i-test.true c.test.ensures) ∙ c.if-not-test.true)

pub loop-i-preserved : goal.loop-i-preserved
loop-i-preserved g c test a = pass_on test c.args.n c.loop-i.i (c.loop-i.invariant test a) (sym (a _ _ c.loop-i-test.true c.test.ensures) ∙ c.if-not-test.false)

pub returns : goal.returns
returns g c test a = (let z : c.loop-i.i ≡ c.args.n = omega arith in sym z) ∙ pass-ended test c.args.n c.loop-i.i (c.loop-i.invariant test a) (omega arith) (omega arith)
