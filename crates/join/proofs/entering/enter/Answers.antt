-- `join::entering::enter` meets its contract.
use mathlib.Core.Path.{refl, ◌∙◌}
use Rattle.trie.proofs.IndexLaws.{indexes-find}
use Rattle.basis.proofs.Tests.{told}
use Rattle.pairing.proofs.CountLaws.{walk-ended}
use Rattle.join.proofs.EnterLaws.{entering-begun, entered-end, entering-less, entering-on, entering-size, still-sound, target-givable}
use Rattle.join.proofs.entering.enter.Goals as goal

pub loop-n-init : goal.loop-n-init
loop-n-init c = (entering-begun (indexes-find c.args.asked.now.index.now c.args.x.h.nodes) c.args.space.now c.args.x c.args.s c.args.asked.now.pairs.now c.args.asked.now.copies.now c.requires.space c.requires.ready c.requires.fit c.requires.target c.begin-walk.result c.begin-walk.ensures, refl)

pub advance-requires : goal.advance-requires
advance-requires c = record { throughout = c.loop-n.invariant.0.known; stands = c.loop-n.invariant.0.stands }

pub give-requires : goal.give-requires
give-requires c = target-givable c.loop-n.space c.loop-n.y _ c.loop-n.invariant.0.known.bounds c.loop-n.invariant.0.target

pub returns-in_default-read_header : goal.returns-in_default-read_header
returns-in_default-read_header c = absurd (still-sound (indexes-find c.args.asked.now.index.now c.args.x.h.nodes) c.args.space.now c.args.x c.args.s c.args.asked.now.pairs.now c.args.asked.now.copies.now _ _ _ _ _ c.loop-n.invariant.0 _ _ _ _ (rw c.in-At.is at c.advance.ensures) _ c.give.ensures _ (told c.in_default-read_header.is c.read_header.ensures))

pub loop-n-smaller : goal.loop-n-smaller
loop-n-smaller c = entering-less (indexes-find c.args.asked.now.index.now c.args.x.h.nodes) c.args.space.now c.args.x c.args.s c.args.asked.now.pairs.now c.args.asked.now.copies.now _ _ _ _ _ c.loop-n.invariant.0 _ _ _ _ (rw c.in-At.is at c.advance.ensures) _ c.give.ensures _ (told c.in-Ok.is c.read_header.ensures)

pub loop-n-preserved : goal.loop-n-preserved
loop-n-preserved c = (entering-on (indexes-find c.args.asked.now.index.now c.args.x.h.nodes) c.args.space.now c.args.x c.args.s c.args.asked.now.pairs.now c.args.asked.now.copies.now _ _ _ _ _ c.loop-n.invariant.0 _ _ _ _ (rw c.in-At.is at c.advance.ensures) _ c.give.ensures _ (told c.in-Ok.is c.read_header.ensures), entering-size (indexes-find c.args.asked.now.index.now c.args.x.h.nodes) c.args.space.now c.args.x c.args.s c.args.asked.now.pairs.now c.args.asked.now.copies.now _ _ _ _ _ c.loop-n.invariant.0 _ _ _ _ (rw c.in-At.is at c.advance.ensures) _ c.give.ensures ∙ c.loop-n.invariant.1)

pub returns : goal.returns
returns c = entered-end (indexes-find c.args.asked.now.index.now c.args.x.h.nodes) c.args.space.now c.args.x c.args.s c.args.asked.now.pairs.now c.args.asked.now.copies.now _ _ _ _ _ c.loop-n.invariant.0 (walk-ended c.loop-n.space c.loop-n.y _ _ c.loop-n.walk c.advance.new.self _ c.advance.ensures c.in_default.not-At c.loop-n.invariant.0.fit)
