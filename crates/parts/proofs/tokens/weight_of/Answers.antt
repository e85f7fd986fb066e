-- `weight_of` meets its contract, by the shape of the token.
use mathlib.Core.Logic.{⊎_elim}
use mathlib.Core.Path.{refl, sym, ◌∙◌}
use native.Mathlib.Omega.{arith}
use borrow.Author.Tests.{eq-eqb}
use Rattle.parts.specs.Segments.{weight, solid}
use Rattle.parts.proofs.Counting.{symbol-weight, other-weight, solid-weight}
use Rattle.parts.proofs.tokens.weight_of.Goals as goal

pub returns-then-c-eq-ELIST : goal.returns-then-c-eq-ELIST
unfolding weight
returns-then-c-eq-ELIST c = (simp (eq-eqb _ _ c.if-c-eq-ELIST.true), omega arith)

pub returns-in-Symbol : goal.returns-in-Symbol
unfolding solid
returns-in-Symbol c = ⊎_elim
    (λ (k, e). (sym (symbol-weight _ _ k (sym c.shape_of.ensures ∙ e)), omega arith))
    (λ e. (sym (solid-weight _ _ _ (sym c.shape_of.ensures ∙ e) refl), omega arith))
    c.in-Symbol.is

pub returns-in-Illegal : goal.returns-in-Illegal
unfolding solid
returns-in-Illegal c = (sym (other-weight _ _ _ c.if-c-eq-ELIST.false (sym c.shape_of.ensures ∙ c.in-Illegal.is) refl), omega arith)
