-- `indexing::entering::count_entering` meets its contract.
use Rattle.indexing.proofs.EnterCases.{counted-begin, counted-one, counted_none, counted-ended, entering-most}
use Rattle.indexing.specs.Parts.{tries_in}
use Rattle.basis.proofs.Tests.{told}
use mathlib.Core.Path.{◌∙◌}
use native.Mathlib.Omega.{arith}
use Rattle.indexing.proofs.entering.count_entering.Goals as goal
use Rattle.indexing.proofs.entering.count_entering.Goals.{then-enters, else-enters}

pub loop-n-init : goal.loop-n-init
loop-n-init c = counted-begin _

pub enters-requires : goal.enters-requires
enters-requires c = (c.requires, omega arith)

pub overflow_add-count : goal.overflow_add-count
overflow_add-count c = let b = c.requires.0 in omega (arith, c.loop-n.invariant, entering-most (tries_in c.args.space.now c.args.h) c.loop-n.n)

pub loop-n-preserved : goal.loop-n-preserved
loop-n-preserved c = elim c.if-enters.branch [
  | then-enters w ↦ w.count-is ∙ counted-one _ _ _ c.loop-n.invariant (told c.enters.ensures w.if-enters.true)
  | else-enters w ↦ w.count-is ∙ counted_none _ _ _ c.loop-n.invariant (told c.enters.ensures w.if-enters.false)
]

pub returns : goal.returns
returns c = counted-ended _ _ _ c.loop-n.invariant _ (omega arith) (omega arith)
