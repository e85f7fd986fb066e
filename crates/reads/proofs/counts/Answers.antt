-- `reads::counts` meets its contract.
use Rattle.std.specs.Prelude.{Err, Ok}
use Rattle.reads.proofs.ReadsCases.{step-refused, counts-used, counts-fit}
use Rattle.plain.specs.Requests.{counts}
use Rattle.space.specs.Heading.{space_header}
use native.Mathlib.Omega.{arith}
use mathlib.Core.Path.{◌≡◌}
use borrow.Author.Rules.{rules}
use Rattle.basis.proofs.Tests.{told}
use Rattle.reads.proofs.ReadsLaws.{counts-answers}
use Rattle.reads.proofs.counts.Goals as goal

pub overflow_cast-result : goal.overflow_cast-result
overflow_cast-result c =
    let sound_header_here : Ok c.in_ok-h.h ≡ space_header c.args.space.now = told c.in_ok-h.was c.read_header.ensures in
    let f = counts-fit _ _ (sound_header_here) in omega arith

pub overflow_cast-result-2 : goal.overflow_cast-result-2
overflow_cast-result-2 c =
    let sound_header_here : Ok c.in_ok-h.h ≡ space_header c.args.space.now = told c.in_ok-h.was c.read_header.ensures in
    let f = counts-fit _ _ (sound_header_here) in omega arith

pub overflow_cast-result-3 : goal.overflow_cast-result-3
overflow_cast-result-3 c =
    let sound_header_here : Ok c.in_ok-h.h ≡ space_header c.args.space.now = told c.in_ok-h.was c.read_header.ensures in
    let f = counts-fit _ _ (sound_header_here) in omega arith

pub returns : goal.returns
returns c =
    let sound_header_here : Ok c.in_ok-h.h ≡ space_header c.args.space.now = told c.in_ok-h.was c.read_header.ensures in
    counts-answers _ _ (counts-used _ _ (sound_header_here))

pub returns-in_err-h : goal.returns-in_err-h
returns-in_err-h c =
    let passed : c.from_residual.result ≡ Err c.in_err-h.field-0.0 = search rules in
    rw passed (counts-answers _ _ (step-refused c.args.space.now counts _ (told c.in_err-h.was c.read_header.ensures)))
