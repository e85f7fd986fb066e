-- `path_terms::load_form` meets its contract.
use Rattle.forms.specs.declared.Unwritten.TheVariants.{Refused, Short}
use Rattle.std.specs.Prelude.{◌≡◌, Err, Ok}
use Rattle.path_terms.proofs.AlongCases.{few-loaded, loaded-numbered}
use Rattle.basis.proofs.Tests.{told}
use native.Mathlib.Omega.{arith}
use Rattle.path_terms.proofs.load_form.Goals as goal

pub overflow_add-result : goal.overflow_add-result
overflow_add-result c = omega (arith, few-loaded c.args.edition c.args.m c.args.form.now c.args.out.now (Ok c.in-Ok.n) (told c.in-Ok.is c.expand_terms.ensures.0))

pub returns-in-Ok : goal.returns-in-Ok
returns-in-Ok c = loaded-numbered c.args.edition c.args.m c.args.form.now c.args.out.now _ c.expand_terms.new.out (told c.in-Ok.is c.expand_terms.ensures.0) (rw c.in-Ok.is at c.expand_terms.ensures.1)

pub overflow_add-result-in-Err-Short : goal.overflow_add-result-in-Err-Short
overflow_add-result-in-Err-Short c =
    let was : c.expand_terms.result ≡ Err (Short c.in-Err-Short.n) = rw c.in-Err-Short.field-0-is at c.in-Err-Short.is in
    omega (arith, few-loaded c.args.edition c.args.m c.args.form.now c.args.out.now (Err (Short c.in-Err-Short.n)) (told was c.expand_terms.ensures.0))

pub returns-in-Err-Short : goal.returns-in-Err-Short
returns-in-Err-Short c =
    let was : c.expand_terms.result ≡ Err (Short c.in-Err-Short.n) = rw c.in-Err-Short.field-0-is at c.in-Err-Short.is in
    loaded-numbered c.args.edition c.args.m c.args.form.now c.args.out.now _ c.expand_terms.new.out (told was c.expand_terms.ensures.0) (rw was at c.expand_terms.ensures.1)

pub returns-in-Err-Refused : goal.returns-in-Err-Refused
returns-in-Err-Refused c =
    let was : c.expand_terms.result ≡ Err (Refused c.in-Err-Refused.field-0-0) = rw c.in-Err-Refused.field-0-is at c.in-Err-Refused.is in
    loaded-numbered c.args.edition c.args.m c.args.form.now c.args.out.now _ c.expand_terms.new.out (told was c.expand_terms.ensures.0) (rw was at c.expand_terms.ensures.1)
