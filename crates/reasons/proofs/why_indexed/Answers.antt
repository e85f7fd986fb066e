-- `why_indexed` meets its contract, by the call with the buffers that it was lent.
use mathlib.Core.Path.{◌≡◌}
use Rattle.std.specs.Prelude.{Err}
use Rattle.basis.proofs.Tests.{told}
use Rattle.space.proofs.HeaderLaws.{header-bounds}
use Rattle.store.proofs.CallsCases.{steps-refused, steps-indexed}
use Rattle.store.proofs.AnswersLaws.{why-answers}
use borrow.Author.Rules.{rules}
use Rattle.reasons.proofs.why_indexed.Goals as goal

pub returns-in_err-h : goal.returns-in_err-h
returns-in_err-h c =
    let passed : c.from_residual.result ≡ Err c.in_err-h.field-0.0 = search rules in
    rw passed (record { answers_indexed = why-answers _ _ _ _ _ (steps-refused _ _ _ _ (told c.in_err-h.was c.read_header.ensures)); names_held = tt })

pub with_form-requires : goal.with_form-requires
with_form-requires c = λ vars form room. (header-bounds _ _ (told c.in_ok-h.was c.read_header.ensures), room)

pub returns-clause-answers_indexed : goal.returns-clause-answers_indexed
returns-clause-answers_indexed c =
    why-answers _ _ _ _ _ (steps-indexed _ _ _ (told c.in_ok-h.was c.read_header.ensures) _ _ _ c.with_form.ensures.5.met.0.0)
