-- `put_together` meets its contract: the form has the terms that the copies passed name.
use Prim.Native.Nat.{◌+◌}
use native.Mathlib.Omega.{arith}
use mathlib.Core.Path.{refl, ◌∙◌}
use borrow.Author.Rules.{rules}
use Rattle.parts.proofs.Gathering.{gathered_none, Copyable-here, gathered-here, gathered-more, gathered-over, gathered-short, gathered-countable, gathered-long, gathered-form, AllGathered}
use Rattle.parts.proofs.put_together.Goals as goal
use Rattle.parts.proofs.put_together.Goals.{else-loop-i-test, then-loop-i-test+else-to-gt-MOST_TOKENS+else-i-end-i-gt2}
use Rattle.parts.proofs.put_together.Goals.{else-to-gt-MOST_CELLS-via-then-to-gt-MOST_CELLS+else-cells_of-gt-MOST_CELLS, else-to-gt-MOST_CELLS-via-else-to-gt-MOST_CELLS}

pub loop-i-init : goal.loop-i-init
loop-i-init c = (gathered_none _ _ _ _ _ c.requires.room, refl)

pub bounds-copies-i : goal.bounds-copies-i
bounds-copies-i c =
    let here_here : Copyable-here c.args.edition c.args.copies.now c.args.outer.now c.args.inner.now c.loop-i.form c.loop-i.i c.loop-i.to c.loop-i.invariant.0 = gathered-here _ _ _ _ _ _ _ c.loop-i.invariant.0 _ c.requires c.loop-i-test.true in
    let h = (here_here).inside in search rules

pub copy_from-to-requires : goal.copy_from-to-requires
copy_from-to-requires c =
    let here_here : Copyable-here c.args.edition c.args.copies.now c.args.outer.now c.args.inner.now c.loop-i.form c.loop-i.i c.loop-i.to c.loop-i.invariant.0 = gathered-here _ _ _ _ _ _ _ c.loop-i.invariant.0 _ c.requires c.loop-i-test.true in
    rw c.wide-x.ensures.0 (here_here).room

pub shape_of-form-then-to-gt-MOST_TOKENS : goal.shape_of-form-then-to-gt-MOST_TOKENS
shape_of-form-then-to-gt-MOST_TOKENS c = c.copy_from-to.ensures.size ∙ c.loop-i.invariant.1

pub returns-then-to-gt-MOST_TOKENS : goal.returns-then-to-gt-MOST_TOKENS
returns-then-to-gt-MOST_TOKENS c =
    gathered-over _ _ _ _ _ _ _ c.loop-i.invariant.0 c.loop-i-test.true _ c.wide-x.ensures.0 _ _ c.copy_from-to.ensures _
    (c.copy_from-to.ensures.size ∙ c.loop-i.invariant.1) c.if-to-gt-MOST_TOKENS.true

pub loop-i-preserved : goal.loop-i-preserved
loop-i-preserved c = (
  gathered-more _ _ _ _ _ _ _ c.loop-i.invariant.0 c.loop-i-test.true _ c.wide-x.ensures.0 _ _ c.copy_from-to.ensures _
      c.requires c.if-to-gt-MOST_TOKENS.false,
  c.copy_from-to.ensures.size ∙ c.loop-i.invariant.1,
)

pub cells_of-requires : goal.cells_of-requires
cells_of-requires c =
    let d : AllGathered c.args.edition c.args.copies.now c.args.outer.now c.args.inner.now c.args.form.now c.loop-i-test.form c.loop-i-test.to = elim c.loop-i-test.branch [
      | else-loop-i-test w ↦ rw (w.form-is, w.to-is) (record { at = c.loop-i.i; gathered = c.loop-i.invariant.0; ends = w.loop-i-test.false; size = c.loop-i.invariant.1 })
      | then-loop-i-test+else-to-gt-MOST_TOKENS+else-i-end-i-gt2 w ↦ rw (w.form-is, w.to-is) (record {
        at = c.loop-i.i + 2;
        gathered = gathered-more _ _ _ _ _ _ _ c.loop-i.invariant.0 w.loop-i-test.true _ w.wide-x.ensures.0 _ _ w.copy_from-to.ensures _ c.requires w.if-to-gt-MOST_TOKENS.false;
        ends = omega arith;
        size = w.copy_from-to.ensures.size ∙ c.loop-i.invariant.1;
      })
    ] in
    gathered-countable _ _ _ _ _ _ _ d.gathered d.ends _ d.size c.requires

pub returns-then-cells_of-gt-MOST_CELLS : goal.returns-then-cells_of-gt-MOST_CELLS
returns-then-cells_of-gt-MOST_CELLS c =
    let d : AllGathered c.args.edition c.args.copies.now c.args.outer.now c.args.inner.now c.args.form.now c.loop-i-test.form c.loop-i-test.to = elim c.loop-i-test.branch [
      | else-loop-i-test w ↦ rw (w.form-is, w.to-is) (record { at = c.loop-i.i; gathered = c.loop-i.invariant.0; ends = w.loop-i-test.false; size = c.loop-i.invariant.1 })
      | then-loop-i-test+else-to-gt-MOST_TOKENS+else-i-end-i-gt2 w ↦ rw (w.form-is, w.to-is) (record {
        at = c.loop-i.i + 2;
        gathered = gathered-more _ _ _ _ _ _ _ c.loop-i.invariant.0 w.loop-i-test.true _ w.wide-x.ensures.0 _ _ w.copy_from-to.ensures _ c.requires w.if-to-gt-MOST_TOKENS.false;
        ends = omega arith;
        size = w.copy_from-to.ensures.size ∙ c.loop-i.invariant.1;
      })
    ] in
    gathered-long _ _ _ _ _ _ _ d.gathered d.ends _ d.size _ c.cells_of.ensures c.if-cells_of-gt-MOST_CELLS.true

pub returns : goal.returns
returns c =
    let d : AllGathered c.args.edition c.args.copies.now c.args.outer.now c.args.inner.now c.args.form.now c.loop-i-test.form c.loop-i-test.to = elim c.loop-i-test.branch [
      | else-loop-i-test w ↦ rw (w.form-is, w.to-is) (record { at = c.loop-i.i; gathered = c.loop-i.invariant.0; ends = w.loop-i-test.false; size = c.loop-i.invariant.1 })
      | then-loop-i-test+else-to-gt-MOST_TOKENS+else-i-end-i-gt2 w ↦ rw (w.form-is, w.to-is) (record {
        at = c.loop-i.i + 2;
        gathered = gathered-more _ _ _ _ _ _ _ c.loop-i.invariant.0 w.loop-i-test.true _ w.wide-x.ensures.0 _ _ w.copy_from-to.ensures _ c.requires w.if-to-gt-MOST_TOKENS.false;
        ends = omega arith;
        size = w.copy_from-to.ensures.size ∙ c.loop-i.invariant.1;
      })
    ] in
    elim c.else-to-gt-MOST_CELLS.branch [
      | else-to-gt-MOST_CELLS-via-then-to-gt-MOST_CELLS+else-cells_of-gt-MOST_CELLS w ↦ gathered-form _ _ _ _ _ _ _ d.gathered d.ends _ d.size _ w.cells_of.ensures w.if-cells_of-gt-MOST_CELLS.false
      | else-to-gt-MOST_CELLS-via-else-to-gt-MOST_CELLS w ↦ gathered-short _ _ _ _ _ _ _ d.gathered d.ends _ d.size w.if-to-gt-MOST_CELLS.false
    ]
