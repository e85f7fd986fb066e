-- `calling::call_indexed` meets its contract.
use Rattle.basis.proofs.Tests.{told}
use Rattle.space.proofs.HeaderLaws.{header-bounds}
use Rattle.store.proofs.CallsCases.{steps-refused, steps-indexed}
use Rattle.store.proofs.AnswersLaws.{call-answers}
use borrow.Author.Rules.{rules}
use Rattle.calling.proofs.call_indexed.Goals as goal

pub returns-in-Err : goal.returns-in-Err
returns-in-Err c = call-answers _ _ _ _ _ (steps-refused _ _ _ _ (told c.in-Err.is c.read_header.ensures))

pub with_form-requires : goal.with_form-requires
with_form-requires c = λ vars form room. (header-bounds _ _ (told c.in-Ok.is c.read_header.ensures), room)

pub returns-in-Ok : goal.returns-in-Ok
returns-in-Ok c =
    let h = c.with_form.ensures.5.met.1 in
    call-answers _ _ _ _ _ (steps-indexed _ _ _ (told c.in-Ok.is c.read_header.ensures) _ _ _ (h.0, search rules))
