-- `reads::instance` meets its contract.
use Rattle.std.specs.Prelude.{Err, Ok}
use Rattle.reads.proofs.ReadsInstance.{instance-refused, instance-step}
use Rattle.space.specs.Tables.{Opened}
use mathlib.Core.Path.{◌≡◌}
use borrow.Author.Rules.{rules}
use Rattle.forms.specs.declared.Unwritten.TheVariants.{Refused}
use Rattle.reads.proofs.ReadsLaws.{instance-answers}
use Rattle.reads.proofs.instance.Goals as goal

pub returns : goal.returns
returns c =
    let here : Opened c.args.space.now (Ok c.in_ok-table.table) = rw c.in_ok-table.was at c.open.ensures in
    instance-answers _ _ _ _ _ (instance-step _ c.in_ok-table.table here _ _ c.wide.ensures.0 c.args.out.now _ _ c.instance_in.ensures)

pub returns-in_err-table : goal.returns-in_err-table
returns-in_err-table c =
    let passed : c.from_residual.result ≡ Err (Refused c.in_err-table.field-0.0) = search rules in
    rw passed (instance-answers _ _ _ _ _ (instance-refused c.args.space.now c.args.answer c.args.out.now _ (rw c.in_err-table.was at c.open.ensures)))
