-- `answering::answer_empty` meets its contract.
use mathlib.Core.Path.{◌≡◌}
use native.Mathlib.Omega.{arith}
use Rattle.std.specs.Prelude.{Err}
use Rattle.space.proofs.WidthLaws.{subgoals-stand}
use Rattle.store.specs.Decisions.{enters_empty}
use Rattle.store.proofs.CallsAnswers.{empty-entered}
use Rattle.answering.proofs.NewCases.{not_admitted, admitted}
use borrow.Author.Rules.{rules}
use Rattle.answering.proofs.answer_empty.Goals as goal

pub returns-in_err-admit : goal.returns-in_err-admit
returns-in_err-admit c =
    let passed : c.from_residual.result ≡ Err c.in_err-admit.field-0.0 = search rules in
    rw passed (not_admitted c.args.space.now c.args.h c.args.s 0 _ c.admit.ensures _ c.in_err-admit.was (enters_empty c.args.s))

pub enter_answer-requires : goal.enter_answer-requires
enter_answer-requires c = record {
  held_last = (search rules, search rules, search rules, search rules);
  leaf_bound =
      (omega arith, omega arith, (admitted c.args.space.now c.args.h c.args.s 0 _ c.admit.ensures _ c.in_ok-admit.was).record_left);
}

pub write_state-requires : goal.write_state-requires
write_state-requires c = (omega arith, omega (arith, subgoals-stand _ _ c.requires.0 c.args.s (search rules)))

pub returns : goal.returns
returns c = (admitted c.args.space.now c.args.h c.args.s 0 _ c.admit.ensures _ c.in_ok-admit.was).decided (enters_empty c.args.s) _ _ (empty-entered c.args.space.now
    c.args.h _ _ _ _ c.requires.3 c.enter_answer.ensures c.write_state.ensures)
