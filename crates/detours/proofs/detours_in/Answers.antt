-- `detours::detours_in` meets its contract.
use mathlib.Core.Path.{◌≡◌}
use Rattle.std.specs.Prelude.{Err}
use Rattle.basis.proofs.Tests.{told}
use Rattle.detours.proofs.FindCases.{decides-number, decides-refused, decides-found}
use borrow.Author.Rules.{rules}
use Rattle.detours.proofs.detours_in.Goals as goal

pub returns-then-not-are_numbers : goal.returns-then-not-are_numbers
returns-then-not-are_numbers c =
    decides-number c.args.table.now c.args.goals.now c.args.budget
    (told c.are_numbers.ensures c.if-not-are_numbers.true)

pub returns-in_err-judge_goals : goal.returns-in_err-judge_goals
returns-in_err-judge_goals c =
    let passed : c.from_residual.result ≡ Err c.in_err-judge_goals.field-0.0 = search rules in
    rw passed (decides-refused c.args.table.now c.args.goals.now c.args.budget
    (told c.are_numbers.ensures c.if-not-are_numbers.false) _ (rw c.in_err-judge_goals.was at c.judge_goals.ensures))

pub returns : goal.returns
returns c =
    decides-found c.args.table.now c.args.goals.now c.args.budget
    (told c.are_numbers.ensures c.if-not-are_numbers.false) _
    (rw c.in_ok-judge_goals.was at c.judge_goals.ensures) c.search_goals.ensures
