-- `answering::answer_indexed` meets its contract.
use borrow.Author.Rules.{rules}
use mathlib.Core.Path.{◌≡◌}
use Prim.Native.Nat.{ℕ}
use Rattle.std.specs.Prelude.{Err}
use Rattle.plain.specs.Requests as request
use Rattle.basis.proofs.Tests.{told}
use Rattle.space.proofs.HeaderLaws.{header-bounds}
use Rattle.store.proofs.CallsCases.{steps-refused, steps-indexed-at}
use Rattle.store.proofs.AnswersLaws.{answer-answers}
use Rattle.answering.proofs.answer_indexed.Goals as goal

pub returns-in_err-h : goal.returns-in_err-h
returns-in_err-h c =
    let passed : c.from_residual.result ≡ Err c.in_err-h.field-0.0 = search rules in
    rw passed (answer-answers _ _ _ _ _ _ (steps-refused _ _ _ _ (told c.in_err-h.was c.read_header.ensures)))

pub answer_in-requires : goal.answer_in-requires
answer_in-requires c = header-bounds _ _ (told c.in_ok-h.was c.read_header.ensures)

pub returns : goal.returns
returns c = answer-answers _ _ _ _ _ _ (steps-indexed-at _ _ _ (told c.in_ok-h.was c.read_header.ensures) (λ (s : ℕ). request.answer s c.args.terms.now) _ _ _ _ c.wide.ensures.0 c.answer_in.ensures)
