-- `reads::read_pair` meets its contract.
use mathlib.Core.Path.{◌≡◌, sym, ◌∙◌}
use Rattle.std.specs.Prelude.{Err, None, Some}
use Rattle.basis.specs.declared.refusals.Refusal.TheVariants as refusal
use native.Mathlib.Omega.{arith}
use Rattle.space.proofs.JudgingLaws.{read-answer-sound, read-subgoal-sound}
use Rattle.store.specs.Clauses.{view_at}
use Rattle.reads.proofs.ReadsCases.{pair-damaged, names-subgoal, pair-lost, pair-both, known-zero, known-above, answer-damaged}
use Rattle.reads.proofs.read_pair.Goals.{then-a-eq0-via-then-a-eq0, then-a-eq0-via-else-a-eq0+then-table-a}
use Rattle.reads.proofs.read_pair.Goals as goal

pub returns-then-a-eq0 : goal.returns-then-a-eq0
returns-then-a-eq0 c = λ d. elim c.then-a-eq0.branch [
  | then-a-eq0-via-then-a-eq0 w ↦ known-zero _ _ _ w.if-a-eq0.true
  | then-a-eq0-via-else-a-eq0+then-table-a w ↦ known-above _ _ _ w.if-a-eq0.false w.if-table-a.true
]

pub returns-in_err-y : goal.returns-in_err-y
returns-in_err-y c =
    let damaged : c.read_answer.result ≡ None = grind arith in
    let passed : c.from_residual.result ≡ Err refusal.Records = grind arith in
    rw passed (λ d. answer-damaged (view_at c.args.table.now) c.args.a d c.if-a-eq0.false c.if-table-a.false
    (sym (pair-damaged (view_at c.args.table.now) c.args.a (sym damaged ∙ c.read_answer.ensures))))

pub read_subgoal-requires : goal.read_subgoal-requires
read_subgoal-requires c =
    let came : c.read_answer.result ≡ Some c.in_ok-y.y = grind arith in
    let n = names-subgoal (view_at c.args.table.now) c.args.a c.in_ok-y.y (sym came ∙ c.read_answer.ensures) in
    n

pub returns-in_err-g : goal.returns-in_err-g
returns-in_err-g c =
    let came : c.read_answer.result ≡ Some c.in_ok-y.y = grind arith in
    let damaged : c.read_subgoal.result ≡ None = grind arith in
    let passed : c.from_residual-in_err-g.result ≡ Err refusal.Records = grind arith in
    rw passed (λ d. answer-damaged (view_at c.args.table.now) c.args.a d c.if-a-eq0.false c.if-table-a.false
    (sym (pair-lost (view_at c.args.table.now) c.args.a c.in_ok-y.y (sym came ∙ c.read_answer.ensures) (sym damaged ∙ c.read_subgoal.ensures))))

pub returns : goal.returns
returns c =
    let came : c.read_answer.result ≡ Some c.in_ok-y.y = grind arith in
    let also : c.read_subgoal.result ≡ Some c.in_ok-g.g = grind arith in
    record {
      answer-is = (read-answer-sound _ _ _ _ _ (sym came ∙ c.read_answer.ensures)).0;
      subgoal-is = (read-subgoal-sound _ _ _ _ (sym also ∙ c.read_subgoal.ensures)).0;
      some = omega arith;
      within = c.if-table-a.false;
      both-sound = sym (pair-both (view_at c.args.table.now) c.args.a c.in_ok-y.y (sym came ∙ c.read_answer.ensures) _ (sym also ∙ c.read_subgoal.ensures));
    }
