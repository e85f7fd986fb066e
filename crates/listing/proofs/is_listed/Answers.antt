-- `is_listed` meets its contract: what is left of the term goes on to its end where the whole does.
use native.Mathlib.Omega.{arith}
use Prim.Native.Nat.{ℕ}
use lib.ListN.{get_or}
use Rattle.listing.proofs.Tests.{refuted, confirmed}
use mathlib.Core.Path.{◌∙◌, sym, ap}
use Rattle.listing.proofs.Calls.{given}
use Rattle.listing.proofs.Filling.{start-at}
use Rattle.listing.proofs.Cases.{allowed-due}
use Rattle.listing.proofs.Letters.{listed-length, listed_start, listed-end, listed-strange, listed-refused, listed_next}
use Rattle.listing.proofs.is_listed.Goals as goal
use Rattle.listing.proofs.is_listed.Goals.{then-not-is_letter-via-then-not-is_letter, then-not-is_letter-via-else-not-is_letter+then-not-is_allowed}

pub returns-then-term-s : goal.returns-then-term-s
returns-then-term-s c = listed-length _ _ _ _ c.if-term-s.true

pub loop-c-init : goal.loop-c-init
loop-c-init c =
    let z = start-at _ c.beginning-place.ensures in
    (z.0, omega arith, omega (arith, z.0, z.1), listed_start _ _ _ _ _ c.beginning-place.ensures (omega arith))

pub returns-then-not-is_letter : goal.returns-then-not-is_letter
returns-then-not-is_letter c =
    let v = c.loop-c.invariant in
    let e = ap (λ (i : ℕ). get_or c.args.term.now i 0) (sym v.0) in
    elim c.then-not-is_letter.branch [
      | then-not-is_letter-via-then-not-is_letter w ↦ listed-strange _ _ _ c.args.term.now (given _ _ _ c.requires) c.loop-c.place (omega arith) _ e (refuted c.is_letter.ensures w.if-not-is_letter.true) ∙ sym v.3
      | then-not-is_letter-via-else-not-is_letter+then-not-is_allowed w ↦ listed-refused _ _ _ c.args.term.now (given _ _ _ c.requires) c.loop-c.place (omega arith) _ e (refuted w.is_allowed.ensures w.if-not-is_allowed.true) ∙ sym v.3
    ]

pub place_after-place-requires : goal.place_after-place-requires
place_after-place-requires c = let g = given _ _ _ c.requires in let h = allowed-due _ _ (confirmed c.is_allowed.ensures c.if-not-is_allowed.false) in (omega arith, h, omega arith)

pub loop-c-preserved : goal.loop-c-preserved
loop-c-preserved c =
    let v = c.loop-c.invariant in
    let w = listed_next _ _ _ c.args.term.now (given _ _ _ c.requires) c.loop-c.place (omega arith) _ (ap (λ (i : ℕ). get_or c.args.term.now i 0) (sym v.0)) (confirmed c.is_letter.ensures c.if-not-is_letter.false) (confirmed c.is_allowed.ensures c.if-not-is_allowed.false) _ c.place_after-place.ensures in
    (omega (arith, w.1), v.1, omega (arith, w.1, w.2), v.3 ∙ w.0)

pub returns : goal.returns
returns c = listed-end _ _ _ c.args.term.now c.loop-c.place (omega arith) (omega arith) ∙ sym c.loop-c.invariant.3
