-- `sides::chains::judge_all` meets its contract.
use Rattle.store.proofs.ChainMeasure.{ahead-less}
use Rattle.sides.proofs.ChainCases.{passed-begin, passed-ended, passed-damaged, passed-severed, passed_on}
use Rattle.sides.specs.Chains.{MemberRead}
use Rattle.std.specs.Prelude.{None, Some}
use mathlib.Core.Path.{◌≡◌}
use borrow.Author.Rules.{rules}
use Rattle.sides.proofs.chains.judge_all.Goals as goal

pub loop-a-init : goal.loop-a-init
loop-a-init g c = record {
  within = c.requires.first_le_answers;
  passed = λ test j. passed-begin test _ _ c.args.g c.requires.is;
}

pub returns-in_err-member : goal.returns-in_err-member
returns-in_err-member g c test j =
    let passed : c.from_residual.result ≡ None = search rules in
    rw passed (passed-damaged test c.args.table.now c.args.s (c.loop-a.invariant.passed test j) (search rules) c.loop-a.invariant.within
    c.args.g (rw c.in_err-member.was at c.read_member.ensures))

pub judge-requires : goal.judge-requires
judge-requires g c =
    let read : MemberRead c.args.table.now c.args.s c.args.g c.loop-a.a (Some c.in_ok-member.member) = rw c.in_ok-member.was at c.read_member.ensures in
    c.requires.callable _ read.0

pub returns-in_err-passes : goal.returns-in_err-passes
returns-in_err-passes g c test j =
    let passed : c.from_residual-in_err-passes.result ≡ None = search rules in
    let read : MemberRead c.args.table.now c.args.s c.args.g c.loop-a.a (Some c.in_ok-member.member) = rw c.in_ok-member.was at c.read_member.ensures in
    rw passed (passed-severed test c.args.table.now c.args.s (c.loop-a.invariant.passed test j) (search rules) c.loop-a.invariant.within
    c.args.g _ read (rw c.in_err-passes.was at (j _ _ read.0 c.judge.ensures)))

pub loop-a-smaller : goal.loop-a-smaller
loop-a-smaller g c =
    let read : MemberRead c.args.table.now c.args.s c.args.g c.loop-a.a (Some c.in_ok-member.member) = rw c.in_ok-member.was at c.read_member.ensures in
    ahead-less _ _ _ (search rules) c.loop-a.invariant.within read.1.0

pub loop-a-preserved : goal.loop-a-preserved
loop-a-preserved g c =
    let read : MemberRead c.args.table.now c.args.s c.args.g c.loop-a.a (Some c.in_ok-member.member) = rw c.in_ok-member.was at c.read_member.ensures in
    record {
      within = read.1.1;
      passed = λ test j. passed_on test c.args.table.now c.args.s (c.loop-a.invariant.passed test j) (search rules) c.loop-a.invariant.within
          c.args.g _ read _ (rw c.in_ok-passes.was at (j _ _ read.0 c.judge.ensures));
    }

pub returns : goal.returns
returns g c test j = passed-ended test c.args.table.now c.args.s (c.loop-a.invariant.passed test j) (search rules)
