-- `drafts::entries::seek` meets its contract.
use native.Mathlib.Omega.{arith}
use Rattle.basis.proofs.Tests.{told}
use Rattle.drafts.proofs.EntryCases.{seek-begun, seek-none, seek_found, seek-on, seek-less}
use borrow.Author.Rules.{rules}
use Rattle.drafts.proofs.entries.seek.Goals as goal

pub loop-n-init : goal.loop-n-init
loop-n-init c = (c.requires, seek-begun _ _ _ _ _ c.requires _ c.slot_in-slot.ensures _ c.node_in-head.ensures)

pub node_in-y-requires : goal.node_in-y-requires
node_in-y-requires c = (c.requires.0.0, omega (arith, c.loop-n.invariant.1.within, c.loop-n.invariant.0.0.1.fits))

pub returns-then-is_entry : goal.returns-then-is_entry
returns-then-is_entry c = seek_found _ _ _ _ _ c.loop-n.invariant.0 _ c.loop-n.invariant.1 (search rules) _ c.node_in-y.ensures (told c.is_entry.ensures c.if-is_entry.true)

pub loop-n-smaller : goal.loop-n-smaller
loop-n-smaller c = seek-less _ _ _ _ _ c.loop-n.invariant.0 _ c.loop-n.invariant.1 (search rules) _ c.node_in-y.ensures

pub loop-n-preserved : goal.loop-n-preserved
loop-n-preserved c = (c.loop-n.invariant.0, seek-on _ _ _ _ _ c.loop-n.invariant.0 _ c.loop-n.invariant.1 (search rules) _ c.node_in-y.ensures (told c.is_entry.ensures c.if-is_entry.false))

pub returns : goal.returns
returns c = seek-none _ _ _ _ _ c.loop-n.invariant.0 _ c.loop-n.invariant.1 (search rules)
