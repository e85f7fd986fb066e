-- `calling::finish` meets its contract.
use borrow.Author.Rules.{rules}
use mathlib.Core.Path.{◌≡◌}
use Rattle.std.specs.Prelude.{Err}
use Rattle.store.proofs.CallsCases.{steps-refused, steps-sound-at}
use Rattle.basis.proofs.Tests.{told}
use Rattle.space.proofs.HeaderLaws.{header-bounds}
use Rattle.plain.specs.Requests as request
use Rattle.store.proofs.AnswersLaws.{finish-answers}
use Rattle.calling.proofs.finish.Goals as goal

pub returns-in_err-h : goal.returns-in_err-h
returns-in_err-h c =
    let passed : c.from_residual.result ≡ Err c.in_err-h.field-0.0 = search rules in
    rw passed (finish-answers _ _ _ _ _ (steps-refused _ _ _ _ (told c.in_err-h.was c.read_header.ensures)))

pub finish_in-requires : goal.finish_in-requires
finish_in-requires c = header-bounds _ _ (told c.in_ok-h.was c.read_header.ensures)

pub returns : goal.returns
returns c = finish-answers _ _ _ _ _ (steps-sound-at _ _ _ request.finish _ _ _ _ c.wide.ensures.0 (told c.in_ok-h.was c.read_header.ensures) c.finish_in.ensures)
