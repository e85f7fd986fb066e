-- `pairing::counting::count` meets its contract.
use Rattle.trie.specs.Index.{search_indexed}
use Rattle.trie.proofs.IndexLaws.{indexes-find}
use Rattle.pairing.proofs.CountLaws.{counting-begun, counted-end, counted-long, counting-on, sums-small, missing-short, all-few}
use Rattle.pairing.proofs.counting.count.Goals as goal

pub loop-n-init : goal.loop-n-init
loop-n-init c = counting-begun (search_indexed c.args.asked.now.index.now c.args.x.h.nodes) _ _ _ _ _ c.requires.0 c.begin-walk.result c.begin-walk.ensures

pub add-sums-requires : goal.add-sums-requires
add-sums-requires c = sums-small (search_indexed c.args.asked.now.index.now c.args.x.h.nodes) _ _ _ _ _ _ _ _ _ c.loop-n.invariant _ _ _ _ (rw c.in-At.is at c.advance.ensures) _ c.search-met.ensures (all-few _ _ _ _ c.requires.0) (missing-short (indexes-find c.args.asked.now.index.now c.args.x.h.nodes) c.args.space.now c.args.x _ _ _ _ c.requires.1 c.search-met.ensures (rw c.in-At.is at c.advance.ensures).1.0)

pub loop-n-preserved : goal.loop-n-preserved
loop-n-preserved c = rw c.add-sums.ensures (counting-on (search_indexed c.args.asked.now.index.now c.args.x.h.nodes) _ _ _ _ _ _ _ _ _ c.loop-n.invariant _ _ _ _ (rw c.in-At.is at c.advance.ensures) _ c.search-met.ensures (missing-short (indexes-find c.args.asked.now.index.now c.args.x.h.nodes) c.args.space.now c.args.x _ _ _ _ c.requires.1 c.search-met.ensures (rw c.in-At.is at c.advance.ensures).1.0))

pub returns-in-TooLong : goal.returns-in-TooLong
returns-in-TooLong c = counted-long (search_indexed c.args.asked.now.index.now c.args.x.h.nodes) _ _ _ _ _ _ _ _ _ c.loop-n.invariant (rw c.in-TooLong.is at c.advance.ensures)

pub returns-in-End : goal.returns-in-End
returns-in-End c = counted-end (search_indexed c.args.asked.now.index.now c.args.x.h.nodes) _ _ _ _ _ _ _ _ _ c.loop-n.invariant (rw c.in-End.is at c.advance.ensures)
