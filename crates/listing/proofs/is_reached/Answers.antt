-- `is_reached` meets its contract: the symbols that are left reach what all of them reach.
use Rattle.basis.proofs.Tests.{told}
use mathlib.Core.Path.{◌∙◌, sym}
use Rattle.listing.proofs.Turns.{reached-here, reached-later, reached-none}
use Rattle.listing.proofs.is_reached.Goals as goal

pub returns-then-is_leading : goal.returns-then-is_leading
returns-then-is_leading c = reached-here _ _ _ c.args.symbols.now c.loop-c.c-index c.loop-c-test.true _ c.arguments_of.ensures.0 (told c.is_leading.ensures c.if-is_leading.true) ∙ sym c.loop-c.invariant

pub loop-c-preserved : goal.loop-c-preserved
loop-c-preserved c = c.loop-c.invariant ∙ reached-later _ _ _ c.args.symbols.now c.loop-c.c-index c.loop-c-test.true _ c.arguments_of.ensures.0 (told c.is_leading.ensures c.if-is_leading.false)

pub returns : goal.returns
returns c = reached-none _ _ _ c.args.symbols.now c.loop-c.c-index c.loop-c-test.false ∙ sym c.loop-c.invariant
