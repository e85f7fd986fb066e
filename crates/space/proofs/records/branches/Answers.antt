-- `space::records::branches` meets its contract.
use mathlib.Core.Path.{◌∙◌}
use Rattle.basis.proofs.Tests.{told}
use Rattle.space.proofs.JudgingCases.{and_second, and_none}
use Rattle.space.proofs.records.branches.Goals as goal

pub returns-then-follows_in : goal.returns-then-follows_in
returns-then-follows_in c = c.follows_in-then-follows_in.ensures ∙ and_second _ _ (told c.follows_in.ensures c.if-follows_in.true)

pub returns-else-follows_in : goal.returns-else-follows_in
returns-else-follows_in c = c.if-follows_in.false ∙ and_none _ _ (told c.follows_in.ensures c.if-follows_in.false)
