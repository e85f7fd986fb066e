-- `answering::enter_answer` meets its contract.
use Prim.Native.Nat.{◌+◌, ◌≤◌}
use native.Mathlib.Omega.{arith}
use lib.ListN.{length}
use Rattle.space.specs.Sound.{subgoals_end, answers_end}
use Rattle.space.proofs.WidthLaws.{subgoals-stand, answers-stand}
use Rattle.store.proofs.CallsAnswers.{answer-entered}
use borrow.Author.Rules.{rules}
use Rattle.answering.proofs.enter_answer.Goals as goal

pub chain-requires : goal.chain-requires
chain-requires c =
    let subgoal_stands_here : subgoals_end c.args.h.edition c.args.h.subgoal_offset c.args.s ≤ length c.args.space.now = subgoals-stand _ _ c.requires.held_last.0 _ (search rules) in
    let last_stands_here : answers_end c.args.h.edition c.args.h.answer_offset c.args.g.last ≤ length c.args.space.now = answers-stand _ _ c.requires.held_last.0 _ (search rules) in
    record { subgoal_room = (search rules, omega (arith, subgoal_stands_here)); last_in_bounds = (omega (arith, last_stands_here), omega arith) }

pub write_answer-requires : goal.write_answer-requires
write_answer-requires c =
    let new_stands_here : answers_end c.args.h.edition c.args.h.answer_offset (c.args.h.answers + 1) ≤ length c.args.space.now =
    answers-stand _ _ c.requires.held_last.0 _ (omega (arith, c.requires.leaf_bound.2)) in
    (omega arith, omega (arith, new_stands_here), record { leaf-fits = omega arith; subgoal-fits = omega arith; next_fits = omega arith })

pub write_last-requires : goal.write_last-requires
write_last-requires c =
    let subgoal_stands_here : subgoals_end c.args.h.edition c.args.h.subgoal_offset c.args.s ≤ length c.args.space.now = subgoals-stand _ _ c.requires.held_last.0 _ (search rules) in
    (search rules, omega (arith, subgoal_stands_here))

pub returns : goal.returns
returns c = answer-entered _ _ _ _ _ _ _ _ _ _ _ c.write_link.ensures c.chain.ensures c.write_answer.ensures c.write_last.ensures c.write_answer_counts.ensures
