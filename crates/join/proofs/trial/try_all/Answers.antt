-- `join::trial::try_all` meets its contract.
use mathlib.Core.Path.{ap}
use lib.ListN.{length}
use Rattle.trie.proofs.IndexLaws.{indexes-find}
use Rattle.drafts.proofs.Steady.{indexes-steady}
use Rattle.join.proofs.TrialLoop.{trial-nodes, tried-all}
use Rattle.join.proofs.trial.try_all.Goals as goal

pub wipe-requires : goal.wipe-requires
wipe-requires c = rw c.room_of.ensures (trial-nodes (indexes-find c.args.asked.now.index.now c.args.x.h.nodes) (indexes-steady c.args.asked.now.index.now c.args.x.h.nodes) c.args.space.now c.args.x c.args.free c.args.root c.args.asked.now.pairs.now c.args.asked.now.copies.now c.requires c.try_forms-r.new.space c.try_forms-r.ensures.0)

pub shape_of-space : goal.shape_of-space
shape_of-space c = ap length (tried-all (indexes-find c.args.asked.now.index.now c.args.x.h.nodes) (indexes-steady c.args.asked.now.index.now c.args.x.h.nodes) c.args.space.now c.args.x c.args.free c.args.root c.args.asked.now.pairs.now c.args.asked.now.copies.now c.requires c.try_forms-r.new.space c.wipe.new.space c.try_forms-r.result c.try_forms-r.ensures (rw c.room_of.ensures at c.wipe.ensures)).0

pub returns : goal.returns
returns c = tried-all (indexes-find c.args.asked.now.index.now c.args.x.h.nodes) (indexes-steady c.args.asked.now.index.now c.args.x.h.nodes) c.args.space.now c.args.x c.args.free c.args.root c.args.asked.now.pairs.now c.args.asked.now.copies.now c.requires c.try_forms-r.new.space c.wipe.new.space c.try_forms-r.result c.try_forms-r.ensures (rw c.room_of.ensures at c.wipe.ensures)
