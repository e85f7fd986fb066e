-- `path_terms::begins` meets its contract.
use Rattle.path_terms.proofs.WorthCases.{begins-none, begins-first}
use borrow.Author.Rules.{rules}
use borrow.Author.Tests.{eq-eqb}
use Rattle.path_terms.proofs.begins.Goals as goal

pub returns-then-form-ne0 : goal.returns-then-form-ne0
returns-then-form-ne0 c = begins-first _ _ (search rules) (c.is_callable.ensures)

pub returns-else-form-ne0 : goal.returns-else-form-ne0
returns-else-form-ne0 c = rw (eq-eqb _ _ c.if-form-ne0.false) (begins-none _ (search rules))
