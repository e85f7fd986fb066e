-- `sums_of` meets its contract: what is written so far is the table so far.
use native.Mathlib.Omega.{arith}
use mathlib.Core.Path.{◌≡◌, refl, ◌∙◌, sym, ap}
use lib.ListN.{length-set}
use lib.Seq.{take_all}
use Rattle.listing.specs.Steps.{sums_below}
use Rattle.listing.proofs.Letters.{sums_first, sums_next}
use borrow.Author.Rules.{rules}
use Rattle.listing.proofs.sums_of.Goals as goal

pub loop-t-init : goal.loop-t-init
loop-t-init c = (refl, sums_first _ _)

pub loop-t-preserved : goal.loop-t-preserved
loop-t-preserved c = (simp length-set c.loop-t.invariant.0, sums_next _ _ c.loop-t.sums c.loop-t.t (search rules) (search rules) c.loop-t.invariant.1 _ c.is_reached.ensures)

pub returns : goal.returns
returns c =
    let e : c.loop-t.t ≡ 8 = omega arith in
    sym (take_all c.loop-t.t c.loop-t.sums (omega arith)) ∙ c.loop-t.invariant.1
    ∙ ap (sums_below _ _) e
