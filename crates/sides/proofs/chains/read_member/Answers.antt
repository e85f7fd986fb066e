-- `sides::chains::read_member` meets its contract.
use Rattle.sides.proofs.ChainCases.{member-damaged, member-other, member-read}
use mathlib.Core.Path.{◌≡◌}
use Rattle.std.specs.Prelude.{None}
use Rattle.basis.proofs.Tests.{told}
use native.Mathlib.Omega.{arith}
use borrow.Author.Rules.{rules}
use Rattle.sides.proofs.chains.read_member.Goals as goal

pub returns-in_err-y : goal.returns-in_err-y
returns-in_err-y c =
    let passed : c.from_residual.result ≡ None = search rules in
    rw passed (member-damaged c.args.table.now c.args.s c.args.g c.args.a (λ e. omega (arith, c.requires.1)) (told c.in_err-y.was c.read_answer.ensures))

pub returns-then-y-s : goal.returns-then-y-s
returns-then-y-s c =
    member-other c.args.table.now c.args.s c.args.g c.args.a (λ e. omega (arith, c.requires.1))
    c.in_ok-y.y (told c.in_ok-y.was c.read_answer.ensures) (search rules)

pub returns : goal.returns
returns c = rw c.answer_end.ensures (
    member-read c.args.table.now c.args.s c.args.g c.args.a (λ e. omega (arith, c.requires.1))
    c.in_ok-y.y (told c.in_ok-y.was c.read_answer.ensures) (search rules) c.requires.0)
