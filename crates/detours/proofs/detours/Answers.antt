-- `detours::detours` meets its contract.
use mathlib.Core.Path.{◌≡◌}
use Rattle.std.specs.Prelude.{Err, Ok}
use borrow.Author.Rules.{rules}
use Rattle.space.specs.Tables.{Opened}
use Rattle.detours.proofs.FindCases.{detours-declined, detours-answered}
use Rattle.detours.proofs.detours.Goals as goal

pub returns : goal.returns
returns c =
    let here : Opened c.args.space.now (Ok c.in_ok-table.table) = rw c.in_ok-table.was at c.open.ensures in
    detours-answered c.args.space.now c.args.goals.now c.args.budget c.in_ok-table.table here _ c.detours_in.ensures

pub returns-in_err-table : goal.returns-in_err-table
returns-in_err-table c =
    let passed : c.from_residual.result ≡ Err c.in_err-table.field-0.0 = search rules in
    rw passed (detours-declined c.args.space.now c.args.goals.now c.args.budget _ (rw c.in_err-table.was at c.open.ensures))
