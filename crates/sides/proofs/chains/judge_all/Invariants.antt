use Rattle.std.proofs.Common.{◌≤◌}
use Rattle.std.specs.Prelude.{Bool}
use Rattle.plain.specs.Words.{Word}
use Rattle.store.proofs.ChainMeasure.{ahead}
use Rattle.sides.specs.Chains.{JudgesBy}
use Rattle.sides.proofs.ChainCases.{Passed}
use Rattle.sides.proofs.chains.judge_all.Given as goal

abbrev pub invariant-loop-a : goal.invariant-loop-a
invariant-loop-a g l = record {
  within : l.a ≤ l.table.head.answers;
  passed : (test : Word → Bool) → JudgesBy (goal.F-post g l.judge) test l.table.cells.now l.table.head.edition l.g.variables → Passed test l.table l.s l.a l.all;
}

abbrev pub decreases-loop-a : goal.decreases-loop-a
decreases-loop-a g l = ahead l.table.head.answers l.a
