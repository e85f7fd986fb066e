-- `join::trial::try_forms` meets its contract.
use mathlib.Core.Path.{◌≡◌}
use borrow.Author.Rules.{rules}
use Rattle.std.specs.Prelude.{Err}
use Rattle.trie.proofs.IndexLaws.{indexes-find}
use Rattle.drafts.proofs.Steady.{indexes-steady}
use Rattle.join.proofs.TrialLoop.{trying-begun, trying-known, trying-stands, tried-long, tried-end, trying-less, trying-on, trying-formable, tried-none}
use Rattle.join.proofs.trial.try_forms.Goals as goal

pub loop-n-init : goal.loop-n-init
loop-n-init c = trying-begun (indexes-find c.args.asked.now.index.now c.args.x.h.nodes) (indexes-steady c.args.asked.now.index.now c.args.x.h.nodes) c.args.space.now c.args.x c.args.free c.args.root c.args.asked.now.pairs.now c.args.asked.now.copies.now c.requires c.begin-walk.result c.begin-walk.ensures

pub advance-requires : goal.advance-requires
advance-requires c = record { throughout = trying-known (indexes-find c.args.asked.now.index.now c.args.x.h.nodes) (indexes-steady c.args.asked.now.index.now c.args.x.h.nodes) c.args.space.now c.args.x c.args.free c.args.root c.args.asked.now.pairs.now c.args.asked.now.copies.now c.requires _ _ _ _ _ c.loop-n.invariant; stands = trying-stands (indexes-find c.args.asked.now.index.now c.args.x.h.nodes) (indexes-steady c.args.asked.now.index.now c.args.x.h.nodes) c.args.space.now c.args.x c.args.free c.args.root c.args.asked.now.pairs.now c.args.asked.now.copies.now c.requires _ _ _ _ _ c.loop-n.invariant }

pub try_form-requires : goal.try_form-requires
try_form-requires c = trying-formable (indexes-find c.args.asked.now.index.now c.args.x.h.nodes) (indexes-steady c.args.asked.now.index.now c.args.x.h.nodes) c.args.space.now c.args.x c.args.free c.args.root c.args.asked.now.pairs.now c.args.asked.now.copies.now c.requires _ _ _ _ _ c.loop-n.invariant _ _ _ _ (rw c.in-At.is at c.advance.ensures)

pub loop-n-smaller : goal.loop-n-smaller
loop-n-smaller c = trying-less (indexes-find c.args.asked.now.index.now c.args.x.h.nodes) (indexes-steady c.args.asked.now.index.now c.args.x.h.nodes) c.args.space.now c.args.x c.args.free c.args.root c.args.asked.now.pairs.now c.args.asked.now.copies.now c.requires _ _ _ _ _ c.loop-n.invariant _ _ _ _ (rw c.in-At.is at c.advance.ensures)

pub loop-n-preserved : goal.loop-n-preserved
loop-n-preserved c = trying-on (indexes-find c.args.asked.now.index.now c.args.x.h.nodes) (indexes-steady c.args.asked.now.index.now c.args.x.h.nodes) c.args.space.now c.args.x c.args.free c.args.root c.args.asked.now.pairs.now c.args.asked.now.copies.now c.requires _ _ _ _ _ c.loop-n.invariant _ _ _ _ (rw c.in-At.is at c.advance.ensures) _ _ (rw c.in_ok-y-in-At.was at c.try_form.ensures)

pub returns-in_err-y-in-At : goal.returns-in_err-y-in-At
returns-in_err-y-in-At c =
    let passed : c.from_residual.result ≡ Err c.in_err-y-in-At.field-0.0 = search rules in
    rw passed (tried-none (indexes-find c.args.asked.now.index.now c.args.x.h.nodes) (indexes-steady c.args.asked.now.index.now c.args.x.h.nodes) c.args.space.now c.args.x c.args.free c.args.root c.args.asked.now.pairs.now c.args.asked.now.copies.now c.requires _ _ _ _ _ c.loop-n.invariant _ _ _ _ (rw c.in-At.is at c.advance.ensures) _ _ (rw c.in_err-y-in-At.was at c.try_form.ensures))

pub returns-in-TooLong : goal.returns-in-TooLong
returns-in-TooLong c = tried-long (indexes-find c.args.asked.now.index.now c.args.x.h.nodes) (indexes-steady c.args.asked.now.index.now c.args.x.h.nodes) c.args.space.now c.args.x c.args.free c.args.root c.args.asked.now.pairs.now c.args.asked.now.copies.now c.requires _ _ _ _ _ c.loop-n.invariant

pub returns-in-End : goal.returns-in-End
returns-in-End c = tried-end (indexes-find c.args.asked.now.index.now c.args.x.h.nodes) (indexes-steady c.args.asked.now.index.now c.args.x.h.nodes) c.args.space.now c.args.x c.args.free c.args.root c.args.asked.now.pairs.now c.args.asked.now.copies.now c.requires _ _ _ _ _ c.loop-n.invariant (rw c.in-End.is at c.advance.ensures)
