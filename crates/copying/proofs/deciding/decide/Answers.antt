-- `copying::deciding::decide` meets its contract.
use Rattle.basis.proofs.Tests.{told}
use Rattle.copying.proofs.DecideCases.{decided-headless}
use Rattle.std.specs.Prelude.{◌≡◌, Err}
use borrow.Author.Rules.{rules}
use Rattle.copying.proofs.deciding.decide.Goals as goal

pub decide_in-requires : goal.decide_in-requires
decide_in-requires c = told c.in_ok-h.was c.read_header.ensures

pub returns-in_err-h : goal.returns-in_err-h
returns-in_err-h c =
    let a = c.args in
    let passed : c.from_residual.result ≡ Err c.in_err-h.field-0.0 = search rules in
    rw passed (decided-headless a.nodes a.subgoals a.answers a.source.now a.target.now _ (told c.in_err-h.was c.read_header.ensures))
