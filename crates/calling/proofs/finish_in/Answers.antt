-- `calling::finish_in` meets its contract.
use native.Mathlib.Omega.{arith}
use Rattle.std.specs.Prelude.{Err, Some, None}
use Rattle.basis.specs.declared.refusals.Refusal.TheVariants as refusal
use Rattle.space.proofs.WidthLaws.{subgoals-stand}
use Rattle.store.proofs.CallsCases.{finish-zero, finish-above, finish-damaged, finish-done}
use mathlib.Core.Path.{◌≡◌, sym, ◌∙◌}
use borrow.Author.Rules.{rules}
use Rattle.calling.proofs.finish_in.Goals.{then-s-eq0-via-then-s-eq0, then-s-eq0-via-else-s-eq0+then-h-s}
use Rattle.calling.proofs.finish_in.Goals as goal

pub returns-then-s-eq0 : goal.returns-then-s-eq0
returns-then-s-eq0 c = elim c.then-s-eq0.branch [
  | then-s-eq0-via-then-s-eq0 w ↦ finish-zero _ _ _ w.if-s-eq0.true
  | then-s-eq0-via-else-s-eq0+then-h-s w ↦ finish-above _ _ _ w.if-h-s.true
]

pub returns-in_err-ok_or : goal.returns-in_err-ok_or
returns-in_err-ok_or c =
    let damaged : c.read_subgoal.result ≡ None = grind arith in
    let passed : c.from_residual.result ≡ Err refusal.Records = grind arith in
    rw passed (finish-damaged _ _ _ (search rules) (search rules) (sym damaged ∙ c.read_subgoal.ensures))

pub write_state-requires : goal.write_state-requires
write_state-requires c = (omega arith, omega (arith, subgoals-stand _ _ c.requires c.args.s (search rules)))

pub returns : goal.returns
returns c =
    let sound : c.read_subgoal.result ≡ Some c.in_ok-ok_or.field-0 = grind arith in
    finish-done _ _ _ (search rules) (search rules) _ _ (sym sound ∙ c.read_subgoal.ensures) c.write_state.ensures
