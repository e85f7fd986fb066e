-- `ask_call` meets its contract.
use mathlib.Core.Path.{sym}
use lib.Seq.{length-take-le}
use Rattle.text.specs.Fields.{hex_cells}
use Rattle.text.specs.Places.{rest_at}
use Rattle.plain.specs.Requests as request
use Rattle.asking.specs.Lines.{with_cells}
use Rattle.asking.proofs.AskingLaws.{cells-ask, cells-bad, bad-leaves, asks-leaves}
use Rattle.asking.proofs.ask_call.Goals as goal

pub returns-in_default : goal.returns-in_default
returns-in_default c = let l = c.args.line.now in let fs = rest_at l c.args.at in λ out. bad-leaves c.args.space.now out _ _ _ (with_cells (hex_cells fs) request.call) (cells-bad fs request.call (rw c.in_default.is at c.read_cells.ensures)) c.print_bad.ensures

pub slice_bounds-cells-end : goal.slice_bounds-cells-end
slice_bounds-cells-end c = (rw c.in-Some.is at c.read_cells.ensures).1

pub slice_bounds-call-end : goal.slice_bounds-call-end
slice_bounds-call-end c = sym (length-take-le _ _ (rw c.in-Some.is at c.read_cells.ensures).1)

pub returns : goal.returns
returns c = let l = c.args.line.now in let fs = rest_at l c.args.at in λ out. asks-leaves c.args.space.now out _ _ _ (with_cells (hex_cells fs) request.call) _ _ _ (cells-ask fs request.call _ (rw c.in-Some.is at c.read_cells.ensures).0) c.call-answered.ensures.0 c.call-answered.ensures.2 (c.print_call.ensures _)
