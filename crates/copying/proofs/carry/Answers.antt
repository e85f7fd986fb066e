-- `copying::carry` meets its contract: what was decided, and the cells as it was written.
use mathlib.Core.Path.{sym}
use Rattle.std.specs.Prelude.{◌≡◌, Err}
use borrow.Author.Rules.{rules}
use Rattle.basis.proofs.Tests.{told}
use Rattle.copying.proofs.DecideCases.{carried-done, carried-refused}
use Rattle.copying.proofs.carry.Goals as goal

pub write-requires : goal.write-requires
write-requires c = sym (told c.in_ok-decide.was c.decide.ensures)

pub returns : goal.returns
returns c = carried-done _ _ _ _ _ _ (told c.in_ok-decide.was c.decide.ensures) c.write.ensures

pub returns-in_err-decide : goal.returns-in_err-decide
returns-in_err-decide c =
    let a = c.args in
    let passed : c.from_residual.result ≡ Err c.in_err-decide.field-0.0 = search rules in
    rw passed (carried-refused a.nodes a.subgoals a.answers a.source.now a.target.now _ (told c.in_err-decide.was c.decide.ensures))
