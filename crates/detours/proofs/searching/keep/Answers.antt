-- `detours::searching::keep` meets its contract.
use Rattle.basis.proofs.Tests.{at_most}
use Rattle.detours.proofs.WorkLaws.{kept, not-kept}
use borrow.Author.Rules.{rules}
use Rattle.detours.proofs.searching.keep.Goals as goal

pub returns-then-total-work : goal.returns-then-total-work
returns-then-total-work c =
    kept c.args.work.now _ _ c.requires.0 c.requires.1 c.requires.2 _ (search rules) c.copy_numbers.ensures

pub returns-else-total-work : goal.returns-else-total-work
returns-else-total-work c = not-kept c.args.work.now _ _ c.requires.0 c.requires.1 c.requires.2 (at_most _ _ (search rules))
