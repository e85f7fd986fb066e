-- `goes_on` meets its contract, one case to each return.
use mathlib.Core.Path.{◌∙◌}
use Rattle.listing.proofs.Tests.{refuted, confirmed}
use native.Mathlib.Omega.{arith}
use Rattle.listing.proofs.Cases.{allowed-due, goes-not, goes-fits}
use Rattle.listing.proofs.Terms.goes_on.Goals as goal

pub place_after-requires : goal.place_after-requires
place_after-requires c = let h = allowed-due c.args.place c.args.c (confirmed c.is_allowed.ensures c.if-is_allowed.true) in (omega arith, h, omega arith)

pub returns-then-is_allowed : goal.returns-then-is_allowed
returns-then-is_allowed c = goes-fits _ _ _ _ _ (confirmed c.is_allowed.ensures c.if-is_allowed.true) _ c.place_after.ensures _ c.can_fit.ensures

pub returns-else-is_allowed : goal.returns-else-is_allowed
returns-else-is_allowed c = c.if-is_allowed.false ∙ goes-not _ _ _ _ _ (refuted c.is_allowed.ensures c.if-is_allowed.false)
