-- `detours::outcome_in` meets its contract.
use Rattle.detours.proofs.FindCases.{find_none, find-found}
use borrow.Author.Rules.{rules}
use Rattle.detours.proofs.outcome_in.Goals as goal

pub returns-then-work-eq-NO_TOTAL : goal.returns-then-work-eq-NO_TOTAL
returns-then-work-eq-NO_TOTAL c = find_none c.args.n c.args.work.now _ _ (search rules)

pub returns : goal.returns
returns c =
    find-found c.args.n c.args.work.now _ _ c.requires.1 (search rules)
