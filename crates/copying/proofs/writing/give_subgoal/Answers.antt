-- `copying::writing::give_subgoal` meets its contract.
use Rattle.basis.proofs.Tests.{told}
use Rattle.space.proofs.HeaderLaws.{header-bounds}
use Rattle.copying.proofs.GiveCases.{given-refused, given-entered}
use Rattle.copying.proofs.writing.give_subgoal.Goals as goal

pub returns-in_default : goal.returns-in_default
returns-in_default c =
    given-refused c.args.target.now c.args.form.now c.args.m c.requires.0 _ (told c.in_default.is c.read_header.ensures)

pub call_at-requires : goal.call_at-requires
call_at-requires c =
    (header-bounds _ _ (told c.in-Ok.is c.read_header.ensures), c.requires.1)

pub returns : goal.returns
returns c =
    given-entered c.args.target.now c.args.form.now c.args.m c.requires.0 _ (told c.in-Ok.is c.read_header.ensures) _ _ c.call_at.ensures
