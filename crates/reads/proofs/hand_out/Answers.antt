-- `reads::hand_out` meets its contract.
use Rattle.std.specs.Prelude.{Err, None, Some}
use Rattle.basis.specs.declared.refusals.Refusal.TheVariants as refusal
use Rattle.reads.proofs.ReadsCases.{handed-none, handed-damaged, handed-other, handed-at}
use mathlib.Core.Path.{◌≡◌, sym, ◌∙◌}
use native.Mathlib.Omega.{arith}
use borrow.Author.Rules.{rules}
use Rattle.reads.proofs.hand_out.Goals as goal

pub returns-then-a-eq0 : goal.returns-then-a-eq0
returns-then-a-eq0 c = handed-none _ _ _ _ c.args.state c.lacking.ensures (search rules) (search rules)

pub returns-in_err-y : goal.returns-in_err-y
returns-in_err-y c =
    let damaged : c.read_answer.result ≡ None = grind arith in
    let passed : c.from_residual.result ≡ Err refusal.Records = grind arith in
    rw passed (handed-damaged _ _ _ (search rules) (sym damaged ∙ c.read_answer.ensures))

pub returns-then-y-s : goal.returns-then-y-s
returns-then-y-s c =
    let came : c.read_answer.result ≡ Some c.in_ok-y.y = grind arith in
    handed-other _ _ _ (search rules) _ (sym came ∙ c.read_answer.ensures) (search rules)

pub returns : goal.returns
returns c =
    let came : c.read_answer.result ≡ Some c.in_ok-y.y = grind arith in
    handed-at _ _ _ (search rules) _ (sym came ∙ c.read_answer.ensures) (search rules)
