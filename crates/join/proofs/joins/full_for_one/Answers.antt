-- `join::joins::full_for_one` meets its contract.
use Rattle.join.proofs.GroundLaws.{one-fits, one-over}
use borrow.Author.Rules.{rules}
use Rattle.join.proofs.joins.full_for_one.Goals as goal

pub returns-then-h : goal.returns-then-h
returns-then-h c = one-fits _ (search rules)

pub returns : goal.returns
returns c = one-over _ (search rules)
