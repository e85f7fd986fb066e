-- `load_cells` meets its contract: each turn passes one cell, and each answer comes by its law.
use Rattle.std.specs.Prelude.{None}
use borrow.Author.Rules.{rules}
use mathlib.Core.Path.{◌≡◌, refl, sym, ◌∙◌}
use native.Mathlib.Omega.{arith}
use Rattle.forms.specs.Cells.{arity_of}
use Rattle.convert.proofs.ScanLaws.{load-long, load-few, load-start, load-over, load-illegal, load-unordered, load-next, load-short, load_many, load-form}
use Rattle.convert.proofs.cells.load_cells.Goals as goal
use Rattle.convert.proofs.cells.load_cells.Goals.{then-n-gt-MOST_CELLS-via-then-n-gt-MOST_CELLS, then-n-gt-MOST_CELLS-via-else-n-gt-MOST_CELLS+then-n-m}
use Rattle.convert.proofs.cells.load_cells.Goals.{then-due-gt0-via-then-due-gt0, then-due-gt0-via-else-due-gt0+then-count-gt-MOST_VARIABLES}

pub returns-then-n-gt-MOST_CELLS : goal.returns-then-n-gt-MOST_CELLS
returns-then-n-gt-MOST_CELLS c = (
  (
    elim c.then-n-gt-MOST_CELLS.branch [
      | then-n-gt-MOST_CELLS-via-then-n-gt-MOST_CELLS w ↦ load-long (arity_of c.args.edition) c.args.m c.args.s.now w.if-n-gt-MOST_CELLS.true
      | then-n-gt-MOST_CELLS-via-else-n-gt-MOST_CELLS+then-n-m w ↦ load-few (arity_of c.args.edition) c.args.m c.args.s.now (omega arith) w.if-n-m.true
    ],
    tt,
  ),
  tt,
)

pub loop-at-init : goal.loop-at-init
loop-at-init c = load-start (arity_of c.args.edition) c.args.m c.args.s.now c.args.cells.now _ refl (omega arith) (omega arith) c.requires

pub shape_of-cells-then-due-eq0 : goal.shape_of-cells-then-due-eq0
shape_of-cells-then-due-eq0 c = c.loop-at.invariant.kept

pub returns-then-due-eq0 : goal.returns-then-due-eq0
returns-then-due-eq0 c = ((load-over (arity_of c.args.edition) c.args.m c.args.s.now c.args.cells.now _ c.loop-at.cells c.loop-at.at c.loop-at.due c.loop-at.count c.loop-at.invariant (omega arith) c.if-due-eq0.true, tt), tt)

pub offset_bounds-s-at : goal.offset_bounds-s-at
offset_bounds-s-at c = omega arith

pub bounds-s-at : goal.bounds-s-at
bounds-s-at c = omega arith

pub due_past-requires : goal.due_past-requires
due_past-requires c = (omega arith, omega arith)

pub returns-in_err-due : goal.returns-in_err-due
returns-in_err-due c =
    let passed : c.from_residual.result ≡ None = search rules in
    rw passed ((load-illegal (arity_of c.args.edition) c.args.m c.args.s.now c.args.cells.now _ c.loop-at.cells c.loop-at.at c.loop-at.due c.loop-at.count c.loop-at.invariant (omega arith) (sym c.in_err-due.was ∙ c.due_past.ensures.0), tt), tt)

pub returns-then-not-in_order : goal.returns-then-not-in_order
returns-then-not-in_order c =
    ((load-unordered (arity_of c.args.edition) c.args.m c.args.s.now c.args.cells.now _ c.loop-at.cells c.loop-at.at c.loop-at.due c.loop-at.count c.loop-at.invariant (omega arith) (sym c.if-not-in_order.true ∙ c.in_order.ensures), tt), tt)

pub offset_bounds-cells-at : goal.offset_bounds-cells-at
offset_bounds-cells-at c = omega arith

pub bounds-cells-at : goal.bounds-cells-at
bounds-cells-at c = omega arith

pub met_after-count-requires : goal.met_after-count-requires
met_after-count-requires c = omega arith

pub loop-at-smaller : goal.loop-at-smaller
loop-at-smaller c = omega arith

pub loop-at-preserved : goal.loop-at-preserved
loop-at-preserved c =
    load-next (arity_of c.args.edition) c.args.m c.args.s.now c.args.cells.now _ c.loop-at.cells c.loop-at.at c.loop-at.due c.loop-at.count c.loop-at.invariant
    (omega arith) (omega arith) _ (sym c.in_ok-due.was ∙ c.due_past.ensures.0) (rw c.in_ok-due.was at c.due_past.ensures.1) (omega arith)
    (sym c.if-not-in_order.false ∙ c.in_order.ensures) _ c.met_after-count.ensures

pub shape_of-cells-then-due-gt0 : goal.shape_of-cells-then-due-gt0
shape_of-cells-then-due-gt0 c = c.loop-at.invariant.kept

pub returns-then-due-gt0 : goal.returns-then-due-gt0
returns-then-due-gt0 c = (
  (
    elim c.then-due-gt0.branch [
      | then-due-gt0-via-then-due-gt0 w ↦ load-short (arity_of c.args.edition) c.args.m c.args.s.now c.args.cells.now _ c.loop-at.cells c.loop-at.at c.loop-at.due c.loop-at.count c.loop-at.invariant c.loop-at-test.false w.if-due-gt0.true
      | then-due-gt0-via-else-due-gt0+then-count-gt-MOST_VARIABLES w ↦ load_many (arity_of c.args.edition) c.args.m c.args.s.now c.args.cells.now _ c.loop-at.cells c.loop-at.at c.loop-at.due c.loop-at.count c.loop-at.invariant c.loop-at-test.false w.if-count-gt-MOST_VARIABLES.true
    ],
    tt,
  ),
  tt,
)

pub shape_of-cells : goal.shape_of-cells
shape_of-cells c = c.loop-at.invariant.kept

pub returns : goal.returns
returns c = load-form (arity_of c.args.edition) c.args.m c.args.s.now c.args.cells.now _ c.loop-at.cells c.loop-at.at c.loop-at.due c.loop-at.count c.loop-at.invariant c.loop-at-test.false c.if-due-gt0.false c.if-count-gt-MOST_VARIABLES.false
