-- `reads::next` meets its contract.
use Rattle.std.specs.Prelude.{Err, Ok}
use Rattle.reads.proofs.ReadsCases.{step-refused, next-step}
use Rattle.plain.specs.Requests.{next}
use Rattle.space.specs.Tables.{Opened}
use mathlib.Core.Path.{◌≡◌}
use borrow.Author.Rules.{rules}
use Rattle.reads.proofs.ReadsLaws.{next-answers}
use Rattle.reads.proofs.next.Goals as goal

pub returns : goal.returns
returns c =
    let here : Opened c.args.space.now (Ok c.in_ok-table.table) = rw c.in_ok-table.was at c.open.ensures in
    next-answers _ _ _ _ (next-step _ c.in_ok-table.table here _ _ _ _ c.wide.ensures.0 c.wide-2.ensures.0 _ c.next_in.ensures)

pub returns-in_err-table : goal.returns-in_err-table
returns-in_err-table c =
    let passed : c.from_residual.result ≡ Err c.in_err-table.field-0.0 = search rules in
    rw passed (next-answers _ _ _ _ (step-refused c.args.space.now (next c.args.subgoal c.args.after) _ (rw c.in_err-table.was at c.open.ensures)))
