-- `answering::last_sound` meets its contract.
use mathlib.Core.Path.{sym, ◌∙◌}
use Rattle.basis.proofs.Tests.{told}
use Rattle.store.proofs.CallsAnswers.{last_none, last-damaged, last-other, last-ends}
use borrow.Author.Rules.{rules}
use borrow.Author.Tests.{ne_eqb}
use Rattle.answering.proofs.last_sound.Goals as goal

pub returns-then-last-eq0 : goal.returns-then-last-eq0
returns-then-last-eq0 c = last_none c.args.space.now c.args.h c.args.s c.args.last c.requires.2 (search rules)

pub returns-in_default : goal.returns-in_default
returns-in_default c = last-damaged c.args.space.now c.args.h c.args.s c.args.last c.requires.2 (search rules) (told c.in_default.is c.read_answer.ensures)

pub returns-then-y-s : goal.returns-then-y-s
returns-then-y-s c = last-ends c.args.space.now c.args.h c.args.s c.args.last c.requires.2 (search rules) c.in-Some.y (sym c.in-Some.is ∙ c.read_answer.ensures) (search rules)

pub returns-else-y-s : goal.returns-else-y-s
returns-else-y-s c = ne_eqb _ _ c.if-y-s.false ∙ last-other c.args.space.now c.args.h c.args.s c.args.last c.requires.2 (search rules) c.in-Some.y (sym c.in-Some.is
    ∙ c.read_answer.ensures) (search rules)
