-- `path_terms::form_worth_with` meets its contract.
use Rattle.std.specs.Prelude.{Some}
use Rattle.convert.specs.Holds.{LoadsCounted}
use Rattle.path_terms.proofs.WorthCases.{worth-none, few-variables, worth-begun, worth-unbegun, worth-answered}
use Rattle.basis.proofs.Tests.{told}
use native.Mathlib.Omega.{arith}
use Rattle.path_terms.proofs.form_worth_with.Goals as goal
use Rattle.path_terms.proofs.form_worth_with.Goals.{else-called-via-then-called+else-not-begins, else-called-via-else-called}

pub returns-in_default : goal.returns-in_default
returns-in_default c = worth-none c.args.edition c.args.m c.args.called c.args.form.now (rw c.in_default.is at c.load_counted.ensures).0.0

pub returns-then-not-begins : goal.returns-then-not-begins
returns-then-not-begins c =
    let got_here : LoadsCounted c.args.edition c.args.m c.args.form.now c.load_counted.new.cells (Some c.in-Some.loaded) = rw c.in-Some.is at c.load_counted.ensures in
    worth-unbegun c.args.edition c.args.m c.args.called c.args.form.now _ 0 got_here.0.0 c.if-called.true (told c.begins.ensures c.if-not-begins.true)

pub overflow_add-result : goal.overflow_add-result
overflow_add-result c =
    let got_here : LoadsCounted c.args.edition c.args.m c.args.form.now c.load_counted.new.cells (Some c.in-Some.loaded) = rw c.in-Some.is at c.load_counted.ensures in
    omega (arith, few-variables c.args.edition c.args.m c.args.called c.args.form.now _ _ got_here.0.0 got_here.1)

pub returns : goal.returns
returns c =
    let got_here : LoadsCounted c.args.edition c.args.m c.args.form.now c.load_counted.new.cells (Some c.in-Some.loaded) = rw c.in-Some.is at c.load_counted.ensures in
    let a = c.args in
    elim c.else-called.branch [
      | else-called-via-then-called+else-not-begins w ↦
          worth-begun a.edition a.m a.called a.form.now _ _ got_here.0.0 w.if-called.true (told w.begins.ensures w.if-not-begins.false) got_here.1
      | else-called-via-else-called w ↦ worth-answered a.edition a.m a.called a.form.now _ _ got_here.0.0 w.if-called.false got_here.1
    ]
