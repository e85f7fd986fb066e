-- `arguments_of` meets its contract: each shape has its arguments.
use mathlib.Core.Path.{sym, ap, ◌∙◌}
use native.Mathlib.Omega.{arith}
use Rattle.forms.specs.Due.{arguments}
use Rattle.forms.proofs.ShapeLaws.{symbol-small, arity-small}
use Rattle.forms.proofs.arguments_of.Goals as goal

pub returns-in-Symbol : goal.returns-in-Symbol
unfolding arguments
returns-in-Symbol c =
    let e = sym c.in-Symbol.is ∙ c.shape_of.ensures in
    (ap arguments e, symbol-small _ (arity-small _) _ _ (sym e))

pub returns-in-Pair : goal.returns-in-Pair
unfolding arguments
returns-in-Pair c = (ap arguments (sym c.in-Pair.is ∙ c.shape_of.ensures), omega arith)

pub returns-in-Illegal : goal.returns-in-Illegal
unfolding arguments
returns-in-Illegal c = (ap arguments (sym c.in-Illegal.is ∙ c.shape_of.ensures), omega arith)
