-- `ask_why` meets its contract.
use mathlib.Core.Path.{sym}
use lib.Seq.{length-take-le}
use Rattle.text.specs.Fields.{hex_cells}
use Rattle.text.specs.Places.{rest_at}
use Rattle.plain.specs.Requests as request
use Rattle.asking.specs.Lines.{with_cells}
use Rattle.asking.proofs.AskingLaws.{cells-ask, cells-bad, bad-leaves, asks-leaves}
use Rattle.asking.proofs.ask_why.Goals as goal

pub returns-in_default : goal.returns-in_default
returns-in_default c =
    let a = c.args in
    let fs = rest_at a.line.now a.at in
    let r = c.read_cells.ensures in
    λ out. bad-leaves a.space.now out _ _ _ (with_cells (hex_cells fs) request.why) (cells-bad fs request.why (rw c.in_default.is at r)) c.print_bad.ensures

pub slice_bounds-cells-end : goal.slice_bounds-cells-end
slice_bounds-cells-end c = (rw c.in-Some.is at c.read_cells.ensures).1

pub slice_bounds-why-end : goal.slice_bounds-why-end
slice_bounds-why-end c = sym (length-take-le _ _ (rw c.in-Some.is at c.read_cells.ensures).1)

pub print_why-requires : goal.print_why-requires
print_why-requires c = (c.why-told.ensures.names_held, c.requires.2)

pub returns : goal.returns
returns c =
    let a = c.args in
    let fs = rest_at a.line.now a.at in
    let r = c.read_cells.ensures in
    let w = c.why-told.ensures.answers in
    λ out. asks-leaves a.space.now out _ _ _ (with_cells (hex_cells fs) request.why) _ _ _
    (cells-ask fs request.why _ (rw c.in-Some.is at r).0) w.0 w.2 (c.print_why.ensures _)
