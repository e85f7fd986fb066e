-- `space::fresh::fresh` meets its contract.
use borrow.Author.Rules.{rules}
use Rattle.basis.proofs.Tests.{told}
use Rattle.space.specs.Layout.{sizes_of}
use Rattle.space.proofs.FreshCases.{fresh-unknown, refused-at, done_at, fits-bounds, Fits}
use Rattle.space.proofs.fresh.fresh.Goals as goal

pub fill-requires : goal.fill-requires
fill-requires c =
    let holds_here : Fits (sizes_of c.args.edition) c.wide-nodes.result c.wide-subgoals.result c.wide-answers.result c.args.space.now = fits-bounds _ _ _ _ _ (told c.fits.ensures c.if-fits.true) in
    let b = holds_here in search rules

pub returns-then-fits : goal.returns-then-fits
returns-then-fits c = done_at _ _ _ _ _ _ _ _ (told c.is_edition.ensures c.if-is_edition.true) c.wide-nodes.ensures.0 c.wide-subgoals.ensures.0 c.wide-answers.ensures.0 _ (told c.fits.ensures c.if-fits.true) c.fill.ensures

pub returns-else-fits : goal.returns-else-fits
returns-else-fits c = refused-at _ _ _ _ _ _ _ _ (told c.is_edition.ensures c.if-is_edition.true) c.wide-nodes.ensures.0 c.wide-subgoals.ensures.0 c.wide-answers.ensures.0 (told c.fits.ensures c.if-fits.false)

pub returns-else-is_edition : goal.returns-else-is_edition
returns-else-is_edition c = fresh-unknown _ _ _ _ _ (told c.is_edition.ensures c.if-is_edition.false)
