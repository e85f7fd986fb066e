-- `sides::searches::all_shared` meets its contract.
use Rattle.sides.proofs.SharedLaws.{shared-all, shared-less}
use borrow.Author.Rules.{rules}
use borrow.Author.Tests.{ne_eqb}
use mathlib.Core.Path.{◌∙◌}
use Rattle.sides.proofs.searches.all_shared.Goals as goal

pub returns-then-k-n : goal.returns-then-k-n
returns-then-k-n c = shared-all _ _ _ (search rules)

pub returns-else-k-n : goal.returns-else-k-n
returns-else-k-n c = ne_eqb _ _ (search rules) ∙ shared-less _ _ _ (search rules)
