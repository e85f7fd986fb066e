-- `first_term` meets its contract: the first way to fill a term of s cells is the first term of the list.
use native.Mathlib.Omega.{arith}
use Rattle.listing.proofs.Tests.{refuted, confirmed}
use mathlib.Core.Path.{refl}
use Rattle.listing.specs.Clauses.{listed_result}
use Rattle.listing.proofs.Turns.{offers-end}
use Rattle.listing.proofs.Calls.{given}
use Rattle.listing.proofs.Filling.{start-at}
use Rattle.listing.proofs.Answers.{first-refused, first-offered}
use Rattle.listing.proofs.first_term.Goals as goal

pub returns-then-not-is_listable : goal.returns-then-not-is_listable
returns-then-not-is_listable c = first-refused _ _ _ _ (search refuted)

pub fill-requires : goal.fill-requires
fill-requires c =
    let h = confirmed c.is_listable.ensures c.if-not-is_listable.false in
    let g = given _ _ _ h in
    let z = start-at _ c.beginning.ensures in
    (record { within = omega (arith, z.0); few = omega (arith, z.1) }, refl)

pub offer-requires : goal.offer-requires
offer-requires c =
    let g = given _ _ _ (confirmed c.is_listable.ensures c.if-not-is_listable.false) in
    omega arith

pub returns-then-not-fill : goal.returns-then-not-fill
unfolding listed_result
returns-then-not-fill c =
    first-offered _ _ _ _ (search confirmed) _ c.beginning.ensures _ _ (rw c.if-not-fill.true at c.fill.ensures.0) _ _ (offers-end _ _)

pub returns : goal.returns
unfolding listed_result
returns c =
    first-offered _ _ _ _ (search confirmed) _ c.beginning.ensures _ _ (rw c.if-not-fill.false at c.fill.ensures.0) _ _ c.offer.ensures
