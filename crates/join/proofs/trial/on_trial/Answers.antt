-- `join::trial::on_trial` meets its contract.
use Rattle.trie.specs.Index.{search_indexed}
use Rattle.join.proofs.TrialCases.{trial-room, trial-blank, trial-counts, trial-settled, trial-unsettled}
use Rattle.join.proofs.trial.on_trial.Goals as goal

pub is_blank-requires : goal.is_blank-requires
is_blank-requires c = rw c.room_of.ensures (trial-room c.args.space.now c.args.x c.args.free c.args.root c.args.asked.now.pairs.now c.args.asked.now.copies.now c.requires)

pub try_all-r-requires : goal.try_all-r-requires
try_all-r-requires c = trial-blank c.args.space.now c.args.x c.args.free c.args.root c.args.asked.now.pairs.now c.args.asked.now.copies.now c.requires ((rw c.room_of.ensures at c.is_blank.ensures) c.if-is_blank.true)

pub settle-requires : goal.settle-requires
settle-requires c = trial-counts c.args.space.now c.args.x c.args.free c.args.root c.args.asked.now.pairs.now c.args.asked.now.copies.now c.requires

pub returns-then-is_blank : goal.returns-then-is_blank
returns-then-is_blank c = trial-settled c.args.space.now c.args.x c.args.free c.args.root c.args.asked.now.pairs.now c.args.asked.now.copies.now c.requires (search_indexed c.args.asked.now.index.now c.args.x.h.nodes) c.try_all-r.new.space c.try_all-r.result c.settle.result c.try_all-r.ensures c.settle.ensures

pub returns : goal.returns
returns c = trial-unsettled c.args.space.now c.args.x c.args.free c.args.root c.args.asked.now.pairs.now c.args.asked.now.copies.now c.requires (search_indexed c.args.asked.now.index.now c.args.x.h.nodes)
