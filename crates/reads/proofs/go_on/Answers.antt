-- `reads::go_on` meets its contract.
use Rattle.std.specs.Prelude.{Err, None, Some}
use Rattle.basis.specs.declared.refusals.Refusal.TheVariants as refusal
use Rattle.reads.proofs.ReadsCases.{onward-damaged, first-within, state-read, onward-first, onward-lost, next-within, onward-next}
use Rattle.store.specs.Clauses.{view_at}
use Rattle.store.proofs.CallsRecords.{reads-subgoal, reads-answer}
use mathlib.Core.Path.{◌≡◌, sym, ◌∙◌}
use native.Mathlib.Omega.{arith}
use borrow.Author.Rules.{rules}
use Rattle.reads.proofs.go_on.Goals as goal

pub returns-in_err-g : goal.returns-in_err-g
returns-in_err-g c =
    let damaged : c.read_subgoal.result ≡ None = grind arith in
    let passed : c.from_residual.result ≡ Err refusal.Records = grind arith in
    rw passed (onward-damaged _ _ _ (sym damaged ∙ c.read_subgoal.ensures))

pub hand_out-requires : goal.hand_out-requires
hand_out-requires c =
    let came : c.read_subgoal.result ≡ Some c.in_ok-g.g = grind arith in
    let got : Some c.in_ok-g.g ≡ reads-subgoal (view_at c.args.table.now) c.args.s = sym came ∙ c.read_subgoal.ensures in
    (first-within (view_at c.args.table.now) c.args.s c.args.a _ got, state-read (view_at c.args.table.now) c.args.s c.args.a _ got)

pub returns-then-a-eq0 : goal.returns-then-a-eq0
returns-then-a-eq0 c =
    let came : c.read_subgoal.result ≡ Some c.in_ok-g.g = grind arith in
    c.hand_out.ensures ∙ onward-first _ _ _ _ (sym came ∙ c.read_subgoal.ensures) (search rules)

pub returns-in_err-y : goal.returns-in_err-y
returns-in_err-y c =
    let came : c.read_subgoal.result ≡ Some c.in_ok-g.g = grind arith in
    let damaged : c.read_answer.result ≡ None = grind arith in
    let passed : c.from_residual-in_err-y.result ≡ Err refusal.Records = grind arith in
    rw passed (onward-lost _ _ _ _ (sym came ∙ c.read_subgoal.ensures) (search rules) (sym damaged ∙ c.read_answer.ensures))

pub hand_out-requires-2 : goal.hand_out-requires-2
hand_out-requires-2 c =
    let came : c.read_subgoal.result ≡ Some c.in_ok-g.g = grind arith in
    let also : c.read_answer.result ≡ Some c.in_ok-y.y = grind arith in
    let got : Some c.in_ok-g.g ≡ reads-subgoal (view_at c.args.table.now) c.args.s = sym came ∙ c.read_subgoal.ensures in
    let next : Some c.in_ok-y.y ≡ reads-answer (view_at c.args.table.now) c.args.a = sym also ∙ c.read_answer.ensures in
    (next-within (view_at c.args.table.now) c.args.s c.args.a _ got (search rules) _ next, state-read (view_at c.args.table.now) c.args.s c.args.a _ got)

pub returns : goal.returns
returns c =
    let came : c.read_subgoal.result ≡ Some c.in_ok-g.g = grind arith in
    let also : c.read_answer.result ≡ Some c.in_ok-y.y = grind arith in
    c.hand_out-2.ensures ∙ onward-next _ _ _ _ (sym came ∙ c.read_subgoal.ensures) (search rules) _ (sym also ∙ c.read_answer.ensures)
