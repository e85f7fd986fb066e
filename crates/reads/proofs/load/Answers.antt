-- `reads::load` meets its contract.
use Rattle.std.specs.Prelude.{Err, Ok}
use Rattle.reads.proofs.ReadsCases.{load-refused, load_step}
use Rattle.space.specs.Tables.{Opened}
use mathlib.Core.Path.{◌≡◌}
use borrow.Author.Rules.{rules}
use Rattle.forms.specs.declared.Unwritten.TheVariants.{Refused}
use Rattle.reads.proofs.ReadsLaws.{load-answers}
use Rattle.reads.proofs.load.Goals as goal

pub returns : goal.returns
returns c =
    let here : Opened c.args.space.now (Ok c.in_ok-table.table) = rw c.in_ok-table.was at c.open.ensures in
    load-answers _ _ _ _ _ (load_step _ c.in_ok-table.table here _ _ c.wide.ensures.0 c.args.out.now _ _ c.load_in.ensures)

pub returns-in_err-table : goal.returns-in_err-table
returns-in_err-table c =
    let passed : c.from_residual.result ≡ Err (Refused c.in_err-table.field-0.0) = search rules in
    rw passed (load-answers _ _ _ _ _ (load-refused c.args.space.now c.args.answer c.args.out.now _ (rw c.in_err-table.was at c.open.ensures)))
