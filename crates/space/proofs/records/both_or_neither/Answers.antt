-- `space::records::both_or_neither` meets its contract.
use Rattle.space.proofs.JudgingCases.{none-or-both, both-or-none}
use borrow.Author.Rules.{rules}
use Rattle.space.proofs.records.both_or_neither.Goals as goal

pub returns-then-first-eq0 : goal.returns-then-first-eq0
returns-then-first-eq0 c = none-or-both _ _ (search rules)

pub returns : goal.returns
returns c = both-or-none _ _ (search rules)
