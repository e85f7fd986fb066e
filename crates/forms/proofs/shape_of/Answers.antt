use mathlib.Core.Path.{sym}
use borrow.Author.Tests.{eq-eqb, ne_eqb, lt-ltb, le-ltb}
use Rattle.forms.specs.Cells.{shape_of}
use Rattle.forms.proofs.shape_of.Goals as goal

-- the arity was called for, and is 0
pub returns-then-k-eq0 : goal.returns-then-k-eq0
unfolding shape_of
returns-then-k-eq0 c = simp (eq-eqb _ _ c.if-kind-eq4.true, sym c.arity_of-k.ensures, eq-eqb _ _ c.if-k-eq0.true)

pub returns-then-kind-eq4 : goal.returns-then-kind-eq4
unfolding shape_of
returns-then-kind-eq4 c = simp (eq-eqb _ _ c.if-kind-eq4.true, sym c.arity_of-k.ensures, ne_eqb _ _ c.if-k-eq0.false)

pub returns-then-payload-eq0 : goal.returns-then-payload-eq0
unfolding shape_of
returns-then-payload-eq0 c = simp (ne_eqb _ _ c.if-kind-eq4.false, eq-eqb _ _ c.if-kind-eq5.true, eq-eqb _ _ c.if-payload-eq0.true)

pub returns-then-kind-eq5 : goal.returns-then-kind-eq5
unfolding shape_of
returns-then-kind-eq5 c = simp (ne_eqb _ _ c.if-kind-eq4.false, eq-eqb _ _ c.if-kind-eq5.true, ne_eqb _ _ c.if-payload-eq0.false)

pub returns-then-kind-eq0 : goal.returns-then-kind-eq0
unfolding shape_of
returns-then-kind-eq0 c = simp (ne_eqb _ _ c.if-kind-eq4.false, ne_eqb _ _ c.if-kind-eq5.false, eq-eqb _ _ c.if-kind-eq0.true)

pub returns-then-kind-lt4 : goal.returns-then-kind-lt4
unfolding shape_of
returns-then-kind-lt4 c = simp (ne_eqb _ _ c.if-kind-eq4.false, ne_eqb _ _ c.if-kind-eq5.false, ne_eqb _ _ c.if-kind-eq0.false, lt-ltb _ _ c.if-kind-lt4.true)

pub returns : goal.returns
unfolding shape_of
returns c = simp (ne_eqb _ _ c.if-kind-eq4.false, ne_eqb _ _ c.if-kind-eq5.false, ne_eqb _ _ c.if-kind-eq0.false, le-ltb _ _ c.if-kind-lt4.false)
