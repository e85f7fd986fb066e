-- `copying::writing::give_answer` meets its contract.
use Rattle.basis.proofs.Tests.{told}
use Rattle.copying.proofs.GiveCases.{form-refused, form-entered, takes-used, takes-held}
use Rattle.copying.proofs.writing.give_answer.Goals as goal

pub returns-in_default : goal.returns-in_default
returns-in_default c =
    form-refused c.args.target.now c.args.form.now c.args.s c.requires.0 _ (told c.in_default.is c.read_header.ensures)

pub subgoal_in-g-requires : goal.subgoal_in-g-requires
subgoal_in-g-requires c =
    takes-used _ _ _ (told c.in-Ok.is c.read_header.ensures) c.requires.1

pub answer_at-requires : goal.answer_at-requires
answer_at-requires c =
    takes-held _ _ _ _ (told c.in-Ok.is c.read_header.ensures) c.requires.1 c.subgoal_in-g.ensures

pub returns : goal.returns
returns c =
    form-entered c.args.target.now c.args.form.now c.args.s c.requires.0 _ (told c.in-Ok.is c.read_header.ensures) _ c.subgoal_in-g.ensures _ _
    c.answer_at.ensures
