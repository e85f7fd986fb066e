-- `cells_of` meets its contract: both sums are those of the tokens passed.
use mathlib.Core.Path.{refl, ap}
use native.Mathlib.Omega.{arith}
use lib.Seq.{take_all}
use Rattle.forms.specs.Cells.{arity_of}
use Rattle.parts.specs.Segments.{weights, all_take}
use Rattle.parts.proofs.Counting.{weights-grow, take-grow-one}
use Rattle.parts.proofs.tokens.cells_of.Goals as goal

pub loop-c-init : goal.loop-c-init
unfolding weights all_take
loop-c-init c = (refl, omega arith, omega arith, omega arith)

pub loop-c-preserved : goal.loop-c-preserved
loop-c-preserved c =
    let form = c.args.form.now in
    let edition = c.args.edition in
    let at = c.loop-c.c-index in (
      omega (arith, weights-grow (arity_of edition) form at (omega arith), c.weight_of-cells.ensures),
      omega (arith, take-grow-one (arity_of edition) form at (omega arith), c.arguments_of-taken.ensures),
      omega (arith, c.weight_of-cells.ensures),
      omega (arith, c.arguments_of-taken.ensures),
    )

pub overflow_sub-result : goal.overflow_sub-result
overflow_sub-result c =
    let e = take_all c.loop-c.c-index c.args.form.now c.loop-c-test.false in
    let w = ap (weights (arity_of c.args.edition)) e in
    let t = ap (all_take (arity_of c.args.edition)) e in
    omega (arith, w, t, c.requires.taken)

pub returns : goal.returns
returns c =
    let e = take_all c.loop-c.c-index c.args.form.now c.loop-c-test.false in
    let w = ap (weights (arity_of c.args.edition)) e in
    let t = ap (all_take (arity_of c.args.edition)) e in
    omega (arith, w, t, c.requires.taken)
