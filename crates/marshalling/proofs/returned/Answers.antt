-- `returned` meets its contract, one case to each kind of answer.
use mathlib.Core.Path.{◌≡◌, refl}
use native.Mathlib.Omega.{arith}
use Rattle.basis.specs.declared.refusals.Refusal.{Refusal}
use Rattle.forms.specs.declared.Unwritten.{Unwritten}
use Rattle.forms.specs.declared.Unwritten.TheVariants.{Refused, Short}
use Rattle.marshalling.specs.Export.{returned}
use Rattle.marshalling.proofs.returned.Goals as goal

pub returns-in-Ok : goal.returns-in-Ok
unfolding returned
returns-in-Ok c = rw c.in-Ok.is refl

pub returns-in-Err-Refused : goal.returns-in-Err-Refused
unfolding returned
returns-in-Err-Refused c =
    let why : ◌≡◌ {A = Unwritten Refusal} c.in-Err-Refused.field-0 (Refused c.in-Err-Refused.refusal) = rw c.in-Err-Refused.is at c.in-Err-Refused.field-0-is in
    rw (c.in-Err-Refused.is, why) (omega (arith, c.from.ensures))

pub returns-in-Err-Short : goal.returns-in-Err-Short
unfolding returned
returns-in-Err-Short c =
    let why : ◌≡◌ {A = Unwritten Refusal} c.in-Err-Short.field-0 (Short c.in-Err-Short.field-0-0) = rw c.in-Err-Short.is at c.in-Err-Short.field-0-is in
    rw (c.in-Err-Short.is, why) (omega (arith, c.from-in-Err-Short.ensures))
