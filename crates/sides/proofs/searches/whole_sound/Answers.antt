-- `sides::searches::whole_sound` meets its contract.
use Rattle.sides.proofs.SearchCases.{whole-unlinked, whole-damaged, whole-linked}
use Rattle.basis.proofs.Tests.{told}
use borrow.Author.Rules.{rules}
use Rattle.sides.proofs.searches.whole_sound.Goals as goal

pub returns-then-a-eq0 : goal.returns-then-a-eq0
returns-then-a-eq0 c = whole-unlinked _ _ _ _ (search rules)

pub returns-in_default : goal.returns-in_default
returns-in_default c = whole-damaged _ _ _ _ (search rules) (told c.in_default.is c.read_answer.ensures)

pub returns : goal.returns
returns c = whole-linked _ _ _ _ (search rules) c.in-Some.y (told c.in-Some.is c.read_answer.ensures)
