-- `read_numeral` meets its contract.
use Prim.Native.Nat.{ℕ, ◌+◌}
use mathlib.Core.List.{List}
use mathlib.Core.Path.{◌≡◌, sym, ◌∙◌}
use native.Mathlib.Omega.{arith}
use borrow.Author.Rules.{rules}
use Rattle.std.specs.Prelude.{None}
use lib.Seq.{length-take-le}
use lib.ListN.{length, take}
use Rattle.std.proofs.lemmas.List.{take_rest}
use Rattle.text.specs.Places.{EndsFirst}
use Rattle.text.proofs.FieldsLaws.{hex-room-seven, product-most, first-none, first-numeral, first-behind, first-longer, next-ends}
use Rattle.text.proofs.FieldsLaws.{numeral-bad, numeral-short, numeral-right, digit-next, digit-bad, digits_over, digit-small}
use Rattle.text.proofs.fields.read_numeral.Goals as goal

digits-length : (rest : List ℕ) (n : ℕ) → EndsFirst rest n → length (take n rest) ≡ n
digits-length rest n d = length-take-le n rest d.0.0

pub returns-then-line-at : goal.returns-then-line-at
returns-then-line-at c = first-none c.args.line.now c.args.at c.requires.0 _ _ _ c.if-line-at.true

pub returns-in_err-n : goal.returns-in_err-n
returns-in_err-n c =
    let l = c.args.line.now in
    let passed : c.from_residual.result ≡ None = search rules in
    rw passed
    (first-longer l _ c.requires.0 _ _ _ _ c.if-line-at.false (take_rest l (c.args.at + 1)) (rw c.in_err-n.was at c.end_within.ensures))

pub returns-then-n-least : goal.returns-then-n-least
returns-then-n-least c =
    let l = c.args.line.now in
    let k = digits-length _ _ (rw c.in_ok-n.was at c.end_within.ensures).0 in
    first-numeral l _ c.requires.0 c.if-line-at.false _ (take_rest l (c.args.at + 1)) _ (rw c.in_ok-n.was at c.end_within.ensures).0 _ _ _
    (numeral-short _ _ _ _ (omega (arith, k, c.if-n-least.true)))

pub returns-then-base-d : goal.returns-then-base-d
returns-then-base-d c =
    let l = c.args.line.now in
    first-numeral l _ c.requires.0 c.if-line-at.false _ (take_rest l (c.args.at + 1)) _ (rw c.in_ok-n.was at c.end_within.ensures).0 _ _ _
    (numeral-bad _ _ _ _ (c.loop-b.invariant.valued ∙ digit-bad _ _ _ c.loop-b.b-index (omega arith) (omega (arith, c.digit_of-d.ensures, c.if-base-d.true))))

pub overflow_mul-value : goal.overflow_mul-value
overflow_mul-value c =
    let e = rw c.in_ok-n.was at c.end_within.ensures in
    let k = digits-length _ _ e.0 in
    omega (arith, product-most c.args.base c.loop-b.value c.requires.1, c.loop-b.invariant.small, hex-room-seven c.loop-b.b-index (omega (arith, k, e.1)))

pub overflow_add-value : goal.overflow_add-value
overflow_add-value c =
    let e = rw c.in_ok-n.was at c.end_within.ensures in
    let k = digits-length _ _ e.0 in
    omega (arith, product-most c.args.base c.loop-b.value c.requires.1, c.loop-b.invariant.small, hex-room-seven c.loop-b.b-index (omega (arith, k, e.1)))

pub loop-b-preserved : goal.loop-b-preserved
loop-b-preserved c = record {
  small = digit-small _ _ _ _ c.requires.1 c.if-base-d.false c.loop-b.invariant.small;
  valued = c.loop-b.invariant.valued ∙ digit-next _ _ _ c.loop-b.b-index (omega arith) _ c.digit_of-d.ensures c.if-base-d.false;
}

pub returns : goal.returns
returns c =
    let e = c.requires.0 in
    let l = c.args.line.now in
    let f = rw c.in_ok-n.was at c.end_within.ensures in
    let k = digits-length _ _ f.0 in
    let r = take_rest l (c.args.at + 1) in (
      first-numeral l _ e c.if-line-at.false _ r _ f.0 _ _ _
          (numeral-right _ _ _ _ _ (omega (arith, k)) (omega (arith, k, f.1)) (c.loop-b.invariant.valued ∙ digits_over _ _ _ c.loop-b.b-index (omega arith))),
      next-ends l _ e c.if-line-at.false _ r _ f.0,
      sym (first-behind l _ e c.if-line-at.false _ r _ f.0),
      omega arith,
    )
