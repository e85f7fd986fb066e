-- `growing::rearrange` meets its contract.
use Rattle.growing.proofs.Regions.{grows-room}
use Rattle.growing.proofs.Rearranging.{rearranged-by}
use borrow.Author.Rules.{rules}
use Rattle.growing.proofs.rearrange.Goals as goal

pub nodes_end-subgoal_offset-requires : goal.nodes_end-subgoal_offset-requires
nodes_end-subgoal_offset-requires c = let r = grows-room _ _ _ _ _ c.requires in search rules

pub subgoals_end-answer_offset-requires : goal.subgoals_end-answer_offset-requires
subgoals_end-answer_offset-requires c = let r = grows-room _ _ _ _ _ c.requires in search rules

pub answers_end-end-requires : goal.answers_end-end-requires
answers_end-end-requires c = let r = grows-room _ _ _ _ _ c.requires in search rules

pub nodes_end-nodes-requires : goal.nodes_end-nodes-requires
nodes_end-nodes-requires c = let r = grows-room _ _ _ _ _ c.requires in search rules

pub subgoals_end-subgoals-requires : goal.subgoals_end-subgoals-requires
subgoals_end-subgoals-requires c = let r = grows-room _ _ _ _ _ c.requires in search rules

pub answers_end-answers-requires : goal.answers_end-answers-requires
answers_end-answers-requires c = let r = grows-room _ _ _ _ _ c.requires in search rules

pub move_both-requires : goal.move_both-requires
move_both-requires c = let r = grows-room _ _ _ _ _ c.requires in search rules

pub clear-requires : goal.clear-requires
clear-requires c = let r = grows-room _ _ _ _ _ c.requires in search rules

pub clear-requires-2 : goal.clear-requires-2
clear-requires-2 c = let r = grows-room _ _ _ _ _ c.requires in search rules

pub clear-requires-3 : goal.clear-requires-3
clear-requires-3 c = let r = grows-room _ _ _ _ _ c.requires in search rules

pub write_offsets-requires : goal.write_offsets-requires
write_offsets-requires c = let r = grows-room _ _ _ _ _ c.requires in search rules

pub returns : goal.returns
returns c = rearranged-by _ _ _ _ _ c.requires _ _ _ _ _ _
    c.nodes_end-subgoal_offset.ensures.0 c.subgoals_end-answer_offset.ensures.0 c.answers_end-end.ensures.0
    c.nodes_end-nodes.ensures.0 c.subgoals_end-subgoals.ensures.0 c.answers_end-answers.ensures.0
    _ _ _ _ _ c.move_both.ensures c.clear.ensures c.clear-2.ensures c.clear-3.ensures c.write_offsets.ensures
