-- `ask_answer` meets its contract.
use Prim.Native.Nat.{ℕ}
use mathlib.Core.List.{List}
use mathlib.Core.Path.{sym, ◌∙◌}
use native.Mathlib.Omega.{arith}
use lib.Seq.{length-take-le}
use Rattle.text.specs.Fields.{hex_cells}
use Rattle.text.specs.Places.{rest_at}
use Rattle.plain.specs.Requests as request
use Rattle.asking.specs.Lines.{with_cells, number_and_cells}
use Rattle.asking.proofs.AskingLaws.{first-means, first-bad, cells-ask, cells-bad, bad-leaves, asks-leaves}
use Rattle.asking.proofs.ask_answer.Goals as goal

pub returns-in_default : goal.returns-in_default
returns-in_default c = let l = c.args.line.now in let fs = rest_at l c.args.at in λ out. bad-leaves c.args.space.now out _ _ _ (number_and_cells fs request.answer) (first-bad fs (λ (gs : List (List ℕ)) (n : ℕ). with_cells (hex_cells gs) (request.answer n)) (rw c.in_default.is at c.first_number.ensures)) c.print_bad.ensures

pub read_cells-requires : goal.read_cells-requires
read_cells-requires c = ((rw c.in-Some.is at c.first_number.ensures).1, omega arith)

pub returns-in_default-read_cells : goal.returns-in_default-read_cells
returns-in_default-read_cells c = let l = c.args.line.now in let fs = rest_at l c.args.at in let f = rw c.in-Some.is at c.first_number.ensures in λ out. bad-leaves c.args.space.now out _ _ _ (number_and_cells fs request.answer) (first-means fs (λ (gs : List (List ℕ)) (n : ℕ). with_cells (hex_cells gs) (request.answer n)) _ _ f.0 f.2 ∙ cells-bad _ (request.answer _) (rw c.in_default-read_cells.is at c.read_cells.ensures)) c.print_bad-in_default-read_cells.ensures

pub slice_bounds-cells-end : goal.slice_bounds-cells-end
slice_bounds-cells-end c = (rw c.in-Some-read_cells.is at c.read_cells.ensures).1

pub slice_bounds-answer-end : goal.slice_bounds-answer-end
slice_bounds-answer-end c = sym (length-take-le _ _ (rw c.in-Some-read_cells.is at c.read_cells.ensures).1)

pub returns : goal.returns
returns c = let l = c.args.line.now in let fs = rest_at l c.args.at in let f = rw c.in-Some.is at c.first_number.ensures in λ out. asks-leaves c.args.space.now out _ _ _ (number_and_cells fs request.answer) _ _ _ (first-means fs (λ (gs : List (List ℕ)) (n : ℕ). with_cells (hex_cells gs) (request.answer n)) _ _ f.0 f.2 ∙ cells-ask _ (request.answer _) _ (rw c.in-Some-read_cells.is at c.read_cells.ensures).0) c.answer-answered.ensures.0 c.answer-answered.ensures.2 (c.print_answer.ensures _)
