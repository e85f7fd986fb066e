-- `answering::answer_new` meets its contract.
use mathlib.Core.Path.{◌≡◌}
use native.Mathlib.Omega.{arith}
use lib.ListN.{length}
use Rattle.std.specs.Prelude.{Err}
use Rattle.space.proofs.HeaderLaws.{bounds-capacity}
use Rattle.store.specs.Decisions.{enters_answer}
use Rattle.store.proofs.CallsRecords.{bounds-appended}
use Rattle.store.proofs.CallsAnswers.{path-entered}
use Rattle.answering.proofs.NewCases.{not_admitted, Admitted, admitted}
use borrow.Author.Rules.{rules}
use Rattle.answering.proofs.answer_new.Goals as goal

pub returns-in_err-admit : goal.returns-in_err-admit
returns-in_err-admit c =
    let passed : c.from_residual.result ≡ Err c.in_err-admit.field-0.0 = search rules in
    rw passed (not_admitted c.args.space.now c.args.h c.args.s (length c.args.tokens.now) _ c.admit.ensures _ c.in_err-admit.was (enters_answer c.args.s c.args.parent c.args.last c.args.tokens.now))

pub append_path-requires : goal.append_path-requires
append_path-requires c =
    let room : Admitted c.args.space.now c.args.h c.args.s (length c.args.tokens.now) = admitted _ _ _ _ _ c.admit.ensures _ c.in_ok-admit.was in
    (bounds-capacity _ _ c.requires.held.0, search rules, search rules, room.nodes_left)

pub enter_answer-requires : goal.enter_answer-requires
enter_answer-requires c =
    let room : Admitted c.args.space.now c.args.h c.args.s (length c.args.tokens.now) = admitted _ _ _ _ _ c.admit.ensures _ c.in_ok-admit.was in
    record {
      held_last = (bounds-appended _ _ _ c.requires.held.0 _ _ _ (search rules) (search rules) c.append_path.ensures, search rules, search rules, search rules);
      leaf_bound =
          (omega (arith, room.nodes_left), omega (arith, room.nodes_left), room.record_left);
    }

pub returns : goal.returns
returns c =
    let room : Admitted c.args.space.now c.args.h c.args.s (length c.args.tokens.now) = admitted _ _ _ _ _ c.admit.ensures _ c.in_ok-admit.was in
    room.decided (enters_answer c.args.s c.args.parent c.args.last c.args.tokens.now) _ _ (path-entered c.args.space.now c.args.h _ _ _ _ _ _ _ c.requires.held.3
    c.append_path.ensures c.enter_answer.ensures)
