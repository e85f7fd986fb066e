-- `reads::cells_answer` meets its contract.
use borrow.Author.Rules.{rules}
use native.Mathlib.Omega.{arith}
use Rattle.instances.proofs.LeavingLaws.{sized-none, sized-short, sized-cells}
use Rattle.reads.proofs.cells_answer.Goals as goal

pub returns-then-n-eq0 : goal.returns-then-n-eq0
returns-then-n-eq0 c = sized-none c.args.room c.args.n (search rules)

pub overflow_sub-cells : goal.overflow_sub-cells
overflow_sub-cells c = omega arith

pub returns-then-room-cells : goal.returns-then-room-cells
returns-then-room-cells c = sized-short c.args.room c.args.n _ (omega arith) (search rules)

pub returns : goal.returns
returns c = sized-cells c.args.room c.args.n _ (omega arith) (omega arith)
