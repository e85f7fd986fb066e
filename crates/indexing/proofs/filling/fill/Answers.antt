-- `indexing::filling::fill` meets its contract.
use Rattle.indexing.proofs.FillCases.{fill-roomy, fill-full, half-most, cleared-length, freed_is}
use Rattle.indexing.specs.Parts.{tries_in, Slots}
use mathlib.Core.Path.{sym, subst, ◌∙◌}
use lib.ListN.{length}
use borrow.Author.Rules.{rules}
use borrow.Author.Tests.{leb-true, leb-false}
use native.Mathlib.Omega.{arith}
use Rattle.indexing.proofs.filling.fill.Goals as goal

pub enter_all-requires : goal.enter_all-requires
enter_all-requires c = (c.requires.0, subst Slots (sym (cleared-length c.args.index.now _ (c.fill.ensures.after (λ y k. search rules) ∙ freed_is _))) c.requires.1)

pub returns-then-roomy : goal.returns-then-roomy
returns-then-roomy c = (half-most c.args.count (length c.args.index.now), fill-roomy _ c.args.index.now c.args.count (omega (arith, leb-true)) _ _ (c.fill.ensures.after (λ y k. search rules) ∙ freed_is _) c.enter_all.ensures)

pub returns-else-roomy : goal.returns-else-roomy
returns-else-roomy c = (half-most c.args.count (length c.args.index.now), fill-full (tries_in c.args.space.now c.args.h) c.args.index.now c.args.count (omega (arith, leb-false)))
