-- `pairing::counting::needs` meets its contract.
use Prim.Native.Nat.{◌+◌}
use native.Mathlib.Omega.{arith}
use borrow.Author.Rules.{rules}
use lib.Seq.{length-take-le}
use Rattle.trie.specs.Index.{search_indexed}
use Rattle.pairing.proofs.CountLaws.{all-few, walk-ended}
use Rattle.pairing.proofs.NeedLaws.{needing-begun, needed-end, needed-over, passed-within, needs-small, needing-on, shared-length}
use Rattle.pairing.proofs.counting.needs.Goals as goal

pub loop-n-init : goal.loop-n-init
loop-n-init c = needing-begun (search_indexed c.args.asked.now.index.now c.args.x.h.nodes) _ _ _ _ _ c.requires.ready_to_count.0 c.requires.ready_to_count.1 c.begin-walk.result c.begin-walk.ensures

pub returns-in_default : goal.returns-in_default
returns-in_default c = needed-end (search_indexed c.args.asked.now.index.now c.args.x.h.nodes) _ _ _ _ _ _ _ _ _ _ c.loop-n.invariant c.args.free (walk-ended c.args.space.now c.args.x _ _ c.loop-n.walk c.advance.new.self _ c.advance.ensures c.in_default.not-At c.loop-n.invariant.fit)

pub earlier-before-requires : goal.earlier-before-requires
earlier-before-requires c = record { ready_to_count = c.requires.ready_to_count; count_in_bounds = passed-within (search_indexed c.args.asked.now.index.now c.args.x.h.nodes) _ _ _ _ _ _ _ _ _ _ c.loop-n.invariant _ _ _ _ (rw c.in-At.is at c.advance.ensures) }

pub need-y-requires : goal.need-y-requires
need-y-requires c =
    let s = needs-small (search_indexed c.args.asked.now.index.now c.args.x.h.nodes) _ _ _ _ _ _ _ _ _ _ c.loop-n.invariant _ _ _ _ (rw c.in-At.is at c.advance.ensures) _ c.search-met.ensures _ c.earlier-before.ensures (all-few _ _ _ _ c.requires.ready_to_count.0) in
    (s.0, s.1, omega (arith, shared-length _ _ _ _ c.earlier-before.ensures, length-take-le c.in-At.n c.advance.new.self.form (rw c.in-At.is at c.advance.ensures).1.0))

pub returns-then-free-y : goal.returns-then-free-y
returns-then-free-y c = needed-over (search_indexed c.args.asked.now.index.now c.args.x.h.nodes) c.args.space.now c.args.x c.args.root c.args.asked.now.pairs.now c.args.asked.now.copies.now c.advance.new.self.at c.advance.new.self.first c.advance.new.self.form (c.loop-n.i + 1) c.need-y.result (rw c.need-y.ensures (needing-on (search_indexed c.args.asked.now.index.now c.args.x.h.nodes) _ _ _ _ _ _ _ _ _ _ c.loop-n.invariant _ _ _ _ (rw c.in-At.is at c.advance.ensures) _ c.search-met.ensures _ c.earlier-before.ensures)) c.args.free (search rules)

pub overflow_add-i : goal.overflow_add-i
overflow_add-i c = omega (arith, passed-within (search_indexed c.args.asked.now.index.now c.args.x.h.nodes) _ _ _ _ _ _ _ _ _ _ c.loop-n.invariant _ _ _ _ (rw c.in-At.is at c.advance.ensures), all-few _ _ _ _ c.requires.ready_to_count.0)

pub loop-n-preserved : goal.loop-n-preserved
loop-n-preserved c = rw c.need-y.ensures (needing-on (search_indexed c.args.asked.now.index.now c.args.x.h.nodes) _ _ _ _ _ _ _ _ _ _ c.loop-n.invariant _ _ _ _ (rw c.in-At.is at c.advance.ensures) _ c.search-met.ensures _ c.earlier-before.ensures)
