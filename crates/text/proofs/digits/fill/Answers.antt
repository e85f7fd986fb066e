-- `fill` meets its contract: what is left of the number has its digits before those made so far.
use Prim.Native.Nat.{◌-◌, suc}
use mathlib.Core.Path.{◌≡◌, sym, ◌∙◌}
use native.Mathlib.Omega.{arith}
use lib.ListN.{drop, length-set}
use Rattle.text.proofs.DigitsLaws.{place-left, fill_start, fill-next, digits-end, quotient-below}
use Rattle.text.proofs.digits.fill.Goals as goal

pub loop-i-init : goal.loop-i-init
loop-i-init c = (omega arith, omega arith, omega arith, fill_start c.args.base c.args.width c.args.n c.args.buffer.now (omega arith))

pub overflow_sub-i-in-loop-i : goal.overflow_sub-i-in-loop-i
overflow_sub-i-in-loop-i c = place-left c.loop-i.left c.args.width c.loop-i.i c.loop-i.invariant.2 (omega arith) (sym c.all_made.ensures ∙ c.loop-i-test.true)

pub loop-i-smaller : goal.loop-i-smaller
loop-i-smaller c = omega (arith, place-left c.loop-i.left c.args.width c.loop-i.i c.loop-i.invariant.2 (omega arith) (sym c.all_made.ensures ∙ c.loop-i-test.true))

pub loop-i-preserved : goal.loop-i-preserved
loop-i-preserved c =
    let L = c.loop-i in
    let a = c.args in
    let f = sym c.all_made.ensures ∙ c.loop-i-test.true in
    let e : L.i ≡ suc (L.i - 1) = omega (arith, place-left L.left a.width L.i L.invariant.2 (omega arith) f) in (
      omega arith,
      simp length-set L.invariant.1,
      quotient-below a.base 10 L.left (L.i - 1) (omega arith) (omega arith) (rw e at L.invariant.2),
      fill-next a.base a.width a.n L.left L.i (L.i - 1) c.digit_text.result L.buffer e (omega arith) L.invariant.1 f c.digit_text.ensures L.invariant.3,
    )

pub returns : goal.returns
returns c =
    let L = c.loop-i in
    let a = c.args in
    (omega arith, sym (L.invariant.3 ∙ digits-end a.base L.i (a.width - (10 - L.i)) L.left (drop L.i L.buffer) (sym c.all_made.ensures ∙ c.loop-i-test.false)))
