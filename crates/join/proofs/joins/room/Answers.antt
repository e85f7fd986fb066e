-- `join::joins::room` meets its contract.
use Rattle.trie.specs.Index.{search_indexed}
use Rattle.join.proofs.TrialCases.{room-some, room-ready, room-counted}
use Rattle.join.proofs.GroundLaws.{ground-told}
use borrow.Author.Rules.{rules}
use Rattle.join.proofs.joins.room.Goals as goal

pub returns-then-is_empty : goal.returns-then-is_empty
returns-then-is_empty c = ground-told (search_indexed c.args.asked.now.index.now c.args.x.h.nodes) c.args.space.now c.args.x c.args.root c.args.asked.now.pairs.now c.args.asked.now.copies.now (search rules) c.requires.some_needed c.full_for_one.result c.full_for_one.ensures

pub overflow_sub-x : goal.overflow_sub-x
overflow_sub-x c = room-some c.args.space.now c.args.x c.args.root c.args.asked.now.pairs.now c.args.asked.now.copies.now c.requires.roomed

pub full-requires : goal.full-requires
full-requires c =
    let e = room-ready c.args.space.now c.args.x c.args.root c.args.asked.now.pairs.now c.args.asked.now.copies.now c.requires.roomed c.on_trial.new.space c.on_trial.ensures.0 in
    record { ready_to_count = e.0; root_lt_nodes = e.1 }

pub returns-in-None : goal.returns-in-None
returns-in-None c = room-counted c.args.space.now c.args.x c.args.root c.args.asked.now.pairs.now c.args.asked.now.copies.now c.requires.roomed (search_indexed c.args.asked.now.index.now c.args.x.h.nodes) c.on_trial.new.space c.full.result c.on_trial.ensures.0 c.full.ensures

pub returns-in-Some : goal.returns-in-Some
returns-in-Some c = rw c.in-Some.is at c.on_trial.ensures
