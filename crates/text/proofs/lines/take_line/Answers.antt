-- `take_line` meets its contract: at each turn, what is left to take comes to what the whole does.
use mathlib.Core.Path.{◌∙◌}
use native.Mathlib.Omega.{arith}
use borrow.Author.Rules.{rules}
use Rattle.text.proofs.CuttingLaws.{in-range, step-over, step_end, step-turn}
use Rattle.text.proofs.lines.take_line.Goals as goal

pub returns-then-chunk-i-eq10 : goal.returns-then-chunk-i-eq10
returns-then-chunk-i-eq10 c =
    let e = step_end c.args.chunk.now c.loop-i.line c.loop-i.i c.loop-i.n (omega arith) (search rules) ∙ c.loop-i.invariant.1 in
    record { line_value = e; in_range = in-range _ _ _ _ _ e }

pub loop-i-preserved : goal.loop-i-preserved
loop-i-preserved c = (
  omega arith,
  step-turn c.args.chunk.now c.loop-i.line c.loop-i.i c.loop-i.n (omega arith) _ _ _ (search rules) c.keep-n.ensures c.loop-i.invariant.1,
)

pub returns : goal.returns
returns c =
    let e = step-over c.args.chunk.now c.loop-i.line c.loop-i.i c.loop-i.n (omega arith) ∙ c.loop-i.invariant.1 in
    record { line_value = e; in_range = in-range c.args.chunk.now c.args.line.now c.args.at c.args.kept _ e }
