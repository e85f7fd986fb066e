-- `only_number` meets its contract.
use mathlib.Core.Path.{◌≡◌, sym, ◌∙◌}
use native.Mathlib.Omega.{arith}
use borrow.Author.Rules.{rules}
use Rattle.std.specs.Prelude.{None}
use Rattle.text.specs.Places.{rest_at}
use Rattle.text.proofs.FieldsLaws.{place_end, rest-next, only-right, only-many, only_none}
use Rattle.text.proofs.fields.only_number.Goals as goal

pub returns-in_err-read : goal.returns-in_err-read
returns-in_err-read c =
    let passed : c.from_residual.result ≡ None = search rules in
    rw passed (only_none (rest_at c.args.line.now c.args.at) (rw c.in_err-read.was at c.first_number.ensures))

pub returns-then-read-line : goal.returns-then-read-line
returns-then-read-line c =
    let l = c.args.line.now in
    let f = rw c.in_ok-read.was at c.first_number.ensures in
    let r = rest_at l c.args.at in
    only-many r _ _ (sym f.2 ∙ rest-next l c.in_ok-read.read.end f.1.1 (omega (arith, c.if-read-line.true, f.1.0)))

pub returns : goal.returns
returns c =
    let l = c.args.line.now in
    let f = rw c.in_ok-read.was at c.first_number.ensures in
    let r = rest_at l c.args.at in
    (only-right r _ (sym f.2 ∙ (place_end l c.in_ok-read.read.end (omega (arith, f.1.0, c.if-read-line.false))).1) f.0, f.1, f.2, f.3)
