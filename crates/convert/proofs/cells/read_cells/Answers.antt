-- `read_cells` meets its contract: each turn passes one cell, and each answer comes by its law.
use Rattle.std.specs.Prelude.{ℕ, Some, None, Result, Err}
use mathlib.Core.Path.{◌≡◌, refl, sym, ◌∙◌}
use native.Mathlib.Omega.{arith}
use borrow.Author.Rules.{rules}
use Rattle.basis.specs.declared.refusals.Refusal.{Refusal}
use Rattle.basis.specs.declared.refusals.Refusal.TheVariants as refusal
use Rattle.forms.specs.Cells.{arity_of}
use Rattle.forms.specs.Stored.{pair_stored}
use Rattle.convert.proofs.ScanLaws.{cells-refused, few-cells, read-start, read-over, read-illegal, read_next, read_short, read-crowded, read-form}
use Rattle.convert.proofs.ReadingLaws.{reading-long}
use Rattle.convert.proofs.cells.read_cells.Goals as goal

pub returns-then-n-gt-MOST_CELLS : goal.returns-then-n-gt-MOST_CELLS
returns-then-n-gt-MOST_CELLS c = (reading-long (arity_of c.args.edition) (pair_stored (arity_of c.args.edition)) c.args.m c.args.s.now c.if-n-gt-MOST_CELLS.true, tt, tt)

pub returns-then-n-m : goal.returns-then-n-m
returns-then-n-m c = (cells-refused (arity_of c.args.edition) c.args.m c.args.s.now (omega arith) (few-cells (arity_of c.args.edition) c.args.m c.args.s.now (omega arith) c.if-n-m.true), tt, tt)

pub loop-at-init : goal.loop-at-init
loop-at-init c = let r = c.requires (omega arith) in read-start (arity_of c.args.edition) c.args.m c.args.s.now c.args.vars.now c.args.form.now _ refl (omega arith) (omega arith) r.0 r.1

pub shape_of-vars-then-due-eq0 : goal.shape_of-vars-then-due-eq0
shape_of-vars-then-due-eq0 c = c.loop-at.invariant.vars-kept

pub shape_of-form-then-due-eq0 : goal.shape_of-form-then-due-eq0
shape_of-form-then-due-eq0 c = c.loop-at.invariant.form-kept

pub returns-then-due-eq0 : goal.returns-then-due-eq0
returns-then-due-eq0 c = read-over (arity_of c.args.edition) c.args.m c.args.s.now c.args.vars.now c.args.form.now _ c.loop-at.vars c.loop-at.form c.loop-at.at c.loop-at.due c.loop-at.count c.loop-at.invariant (omega arith) c.if-due-eq0.true

pub offset_bounds-s-at : goal.offset_bounds-s-at
offset_bounds-s-at c = omega arith

pub bounds-s-at : goal.bounds-s-at
bounds-s-at c = omega arith

pub due_past-requires : goal.due_past-requires
due_past-requires c = (omega arith, omega arith)

pub returns-in_err-due : goal.returns-in_err-due
returns-in_err-due c =
    let passed : c.from_residual.result ≡ Err c.in_err-due.field-0.0 = search rules in
    let none : c.due_past.result ≡ None = rw c.in_err-due.was at c.ok_or.ensures.ok_part in
    let same : ◌≡◌ {A = Result ℕ Refusal} (Err c.in_err-due.field-0.0) (Err refusal.Term) = sym c.in_err-due.was ∙ c.ok_or.ensures.value ∙ rw none refl in
    let term : c.in_err-due.field-0.0 ≡ refusal.Term = cc in
    rw (passed, term) (read-illegal (arity_of c.args.edition) c.args.m c.args.s.now c.args.vars.now c.args.form.now _ c.loop-at.vars c.loop-at.form c.loop-at.at c.loop-at.due c.loop-at.count c.loop-at.invariant (omega arith) (sym none ∙ c.due_past.ensures.0))

pub store-count-requires : goal.store-count-requires
store-count-requires c = (omega arith, omega arith, omega arith)

pub loop-at-smaller : goal.loop-at-smaller
loop-at-smaller c = omega arith

pub loop-at-preserved : goal.loop-at-preserved
loop-at-preserved c =
    let some : c.due_past.result ≡ Some c.in_ok-due.due = rw c.in_ok-due.was at c.ok_or.ensures.ok_part in
    read_next (arity_of c.args.edition) c.args.m c.args.s.now c.args.vars.now c.args.form.now _ c.loop-at.vars c.loop-at.form c.loop-at.at c.loop-at.due c.loop-at.count c.loop-at.invariant
    (omega arith) (omega arith) _ (sym some ∙ c.due_past.ensures.0) (rw some at c.due_past.ensures.1) (omega arith) _ _ _ c.store-count.ensures (search rules)

pub shape_of-vars-then-due-gt0 : goal.shape_of-vars-then-due-gt0
shape_of-vars-then-due-gt0 c = c.loop-at.invariant.vars-kept

pub shape_of-form-then-due-gt0 : goal.shape_of-form-then-due-gt0
shape_of-form-then-due-gt0 c = c.loop-at.invariant.form-kept

pub returns-then-due-gt0 : goal.returns-then-due-gt0
returns-then-due-gt0 c = read_short (arity_of c.args.edition) c.args.m c.args.s.now c.args.vars.now c.args.form.now _ c.loop-at.vars c.loop-at.form c.loop-at.at c.loop-at.due c.loop-at.count c.loop-at.invariant c.loop-at-test.false c.if-due-gt0.true

pub shape_of-vars-then-count-gt-MOST_VARIABLES : goal.shape_of-vars-then-count-gt-MOST_VARIABLES
shape_of-vars-then-count-gt-MOST_VARIABLES c = c.loop-at.invariant.vars-kept

pub shape_of-form-then-count-gt-MOST_VARIABLES : goal.shape_of-form-then-count-gt-MOST_VARIABLES
shape_of-form-then-count-gt-MOST_VARIABLES c = c.loop-at.invariant.form-kept

pub returns-then-count-gt-MOST_VARIABLES : goal.returns-then-count-gt-MOST_VARIABLES
returns-then-count-gt-MOST_VARIABLES c = read-crowded (arity_of c.args.edition) c.args.m c.args.s.now c.args.vars.now c.args.form.now _ c.loop-at.vars c.loop-at.form c.loop-at.at c.loop-at.due c.loop-at.count c.loop-at.invariant c.loop-at-test.false c.if-due-gt0.false c.if-count-gt-MOST_VARIABLES.true

pub shape_of-vars : goal.shape_of-vars
shape_of-vars c = c.loop-at.invariant.vars-kept

pub shape_of-form : goal.shape_of-form
shape_of-form c = c.loop-at.invariant.form-kept

pub returns : goal.returns
returns c = read-form (arity_of c.args.edition) c.args.m c.args.s.now c.args.vars.now c.args.form.now _ c.loop-at.vars c.loop-at.form c.loop-at.at c.loop-at.due c.loop-at.count c.loop-at.invariant c.loop-at-test.false c.if-due-gt0.false c.if-count-gt-MOST_VARIABLES.false
