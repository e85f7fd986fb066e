-- `fill` meets its contract: what is left to be filled gives the whole.
use native.Mathlib.Omega.{arith}
use mathlib.Core.Path.{refl, ◌∙◌, sym}
use lib.ListN.{length-set}
use lib.Seq.{take-set-le}
use borrow.Author.Rules.{rules}
use Rattle.listing.specs.Clauses.{listed_result}
use Rattle.listing.proofs.Calls.{given}
use Rattle.listing.proofs.Filling.{chosen-due, passed-at, fill_step, fill_none, fill_done}
use Rattle.listing.proofs.Terms.fill.Goals as goal

pub loop-at-init : goal.loop-at-init
loop-at-init c = (refl, omega arith, search rules, refl, refl)

pub choose-requires : goal.choose-requires
choose-requires c = (record { within = omega arith; few = omega arith }, omega arith)

pub returns-in_default : goal.returns-in_default
unfolding listed_result
returns-in_default c =
    let g = given _ _ _ c.args.self.now.given in
    let v = c.loop-at.invariant in
    (fill_none _ _ _ c.loop-at.place c.loop-at.term (omega arith) (omega arith) (sym c.in_default.is ∙ c.choose.ensures) ∙ v.3, v.4, omega arith)

pub offset_bounds-term-at : goal.offset_bounds-term-at
offset_bounds-term-at c = let g = given _ _ _ c.args.self.now.given in omega arith

pub bounds-term-at : goal.bounds-term-at
bounds-term-at c = let g = given _ _ _ c.args.self.now.given in omega arith

pub place_after-place-requires : goal.place_after-place-requires
place_after-place-requires c =
    let g = given _ _ _ c.args.self.now.given in
    let h = chosen-due _ _ _ _ _ _ (sym c.in-Some.is ∙ c.choose.ensures) in
    (omega arith, h.some-due, omega arith)

pub loop-at-preserved : goal.loop-at-preserved
loop-at-preserved c =
    let g = given _ _ _ c.args.self.now.given in
    let v = c.loop-at.invariant in
    let k = sym c.in-Some.is ∙ c.choose.ensures in
    let h = chosen-due _ _ _ _ _ _ k in
    let z = passed-at _ _ _ _ c.place_after-place.ensures in (
      omega (arith, z.0),
      omega (arith, z.1, h.few-due),
      simp length-set v.2,
      rw (← v.0) (fill_step _ _ _ c.loop-at.place c.loop-at.term (omega arith) _ _ (omega arith) k c.place_after-place.ensures ∙ v.3),
      take-set-le _ c.loop-at.term _ _ c.loop-at.auto.at ∙ v.4,
    )

pub returns : goal.returns
unfolding listed_result
returns c =
    let g = given _ _ _ c.args.self.now.given in
    let v = c.loop-at.invariant in
    (fill_done _ _ _ c.loop-at.place c.loop-at.term (omega arith) (omega arith) (omega arith) ∙ v.3, v.4, omega arith)
