-- `answering::answer_old` meets its contract.
use mathlib.Core.Path.{◌≡◌, sym, ◌∙◌}
use native.Mathlib.Omega.{arith}
use Rattle.std.specs.Prelude.{Err, None, Some}
use Rattle.basis.specs.declared.refusals.Refusal.TheVariants as refusal
use Rattle.store.proofs.CallsAnswers.{old-empty, old-unlinked, old-damaged, old-other, old-found}
use borrow.Author.Rules.{rules}
use Rattle.answering.proofs.answer_old.Goals as goal

pub returns-then-is_empty : goal.returns-then-is_empty
returns-then-is_empty c = old-empty c.args.space.now c.args.h c.args.s c.args.tokens.now c.args.leaf c.args.a _ _ (search rules) (grind arith) c.answer_empty.ensures

pub returns-then-a-eq0 : goal.returns-then-a-eq0
returns-then-a-eq0 c = old-unlinked c.args.space.now c.args.h c.args.s c.args.tokens.now c.args.leaf c.args.a (search rules) (grind arith)

pub returns-in_err-y : goal.returns-in_err-y
returns-in_err-y c =
    let damaged : c.read_answer.result ≡ None = grind arith in
    let passed : c.from_residual.result ≡ Err refusal.Records = grind arith in
    rw passed (old-damaged c.args.space.now c.args.h c.args.s c.args.tokens.now c.args.leaf c.args.a (search rules) (sym damaged ∙ c.read_answer.ensures))

pub returns-then-y-leaf : goal.returns-then-y-leaf
returns-then-y-leaf c =
    let sound : c.read_answer.result ≡ Some c.in_ok-y.y = grind arith in
    old-found c.args.space.now c.args.h c.args.s c.args.tokens.now c.args.leaf c.args.a (search rules) c.in_ok-y.y (sym sound ∙ c.read_answer.ensures) (search rules)

pub returns : goal.returns
returns c =
    let sound : c.read_answer.result ≡ Some c.in_ok-y.y = grind arith in
    old-other c.args.space.now c.args.h c.args.s c.args.tokens.now c.args.leaf c.args.a (search rules) c.in_ok-y.y (sym sound ∙ c.read_answer.ensures) (search rules)
