-- The proof of the cycle of calls {search, try_offer}. The measure is twice the goals left, and one more for a choice.
use mathlib.Core.Path.{ap, ◌∙◌}
use native.Mathlib.Omega.{arith}
use borrow.Author.Rules.{rules}
use Rattle.basis.proofs.Tests.{told}
use Rattle.space.specs.Sound.{subgoal_under}
use Rattle.detours.specs.declared.Offer.{Offer}
use Rattle.store.proofs.ChainMeasure.{ahead-less}
use Rattle.detours.proofs.SearchCases.{searchable-kept, searchable-next, look-stopped, look-taken, look-last, look-deeper, put-size}
use Rattle.detours.proofs.GoalSteps.{trying-begun, trying-ended, trying-stopped, trying-on, stop}
use Rattle.detours.proofs.searching.+search_try_offer.Goals as goal

pub search-loop-a-init : goal.search-loop-a-init
search-loop-a-init t c =
    trying-begun c.args.table.now c.args.goals.now c.args.at c.args.sum c.args.work.now
    c.requires c.subgoal-g.result
    (c.subgoal-g.ensures ∙ ap (subgoal_under c.args.table.now.cells.now c.args.table.now.head) c.wide.ensures.0)

pub search-offer_in-offer-requires : goal.search-offer_in-offer-requires
search-offer_in-offer-requires t c =
    let x = stop c.args.table.now c.args.goals.now c.args.at c.args.sum c.args.work.now
    c.requires c.loop-a.work c.loop-a.a c.loop-a.invariant c.answer-y.result c.answer-y.ensures (search rules) in (
      x.leaf-in,
      x.parent_in,
      c.loop-a.invariant.within,
    )

pub search-try_offer-requires : goal.search-try_offer-requires
search-try_offer-requires t c = (
  omega (arith, c.decreases, c.requires.here),
  (
    searchable-kept c.requires c.loop-a.invariant.stays.size,
    omega
        (arith, ap (λ (o : Offer). o.minutes) c.offer_in-offer.ensures),
  ),
)

pub search-returns-then-not-try_offer : goal.search-returns-then-not-try_offer
search-returns-then-not-try_offer t c =
    trying-stopped c.args.table.now c.args.goals.now c.args.at c.args.sum c.args.work.now
    c.requires c.loop-a.work c.loop-a.a c.loop-a.invariant c.answer-y.result
    c.answer-y.ensures (search rules) c.offer_in-offer.result
    c.offer_in-offer.ensures _ (rw (c.if-not-try_offer.true) at c.try_offer.ensures)

pub search-loop-a-smaller : goal.search-loop-a-smaller
search-loop-a-smaller t c =
    let x = stop c.args.table.now c.args.goals.now c.args.at c.args.sum c.args.work.now
    c.requires c.loop-a.work c.loop-a.a c.loop-a.invariant c.answer-y.result
    c.answer-y.ensures (search rules) in
    ahead-less _ _ _ (search rules) c.loop-a.invariant.within x.rises

pub search-loop-a-preserved : goal.search-loop-a-preserved
search-loop-a-preserved t c =
    trying-on c.args.table.now c.args.goals.now c.args.at c.args.sum c.args.work.now
    c.requires c.loop-a.work c.loop-a.a c.loop-a.invariant c.answer-y.result
    c.answer-y.ensures (search rules) c.offer_in-offer.result
    c.offer_in-offer.ensures _ (rw (c.if-not-try_offer.false) at c.try_offer.ensures)

pub search-returns : goal.search-returns
search-returns t c =
    trying-ended c.args.table.now c.args.goals.now c.args.at c.args.sum c.args.work.now
    c.requires c.loop-a.work c.loop-a.a c.loop-a.invariant (search rules)

pub try_offer-returns-then-work-eq0 : goal.try_offer-returns-then-work-eq0
try_offer-returns-then-work-eq0 t c =
    look-stopped c.args.table.now c.args.goals.now c.args.at c.args.sum c.args.offer
    c.args.work.now (search rules)

pub try_offer-returns-then-is_taken : goal.try_offer-returns-then-is_taken
try_offer-returns-then-is_taken t c =
    look-taken c.args.table.now c.args.goals.now c.args.at c.args.sum c.args.offer
    c.args.work.now c.requires.0.few c.requires.0.size (search rules) (told c.if-is_taken.true c.is_taken.ensures)

pub try_offer-keep-requires : goal.try_offer-keep-requires
try_offer-keep-requires t c = (
  omega (arith, c.requires.0.here, c.requires.0.few),
  put-size c.args.table.now c.args.goals.now c.args.at c.args.sum c.args.offer
      c.args.work.now c.requires.0.few c.requires.0.size (search rules)
      (told c.if-is_taken.false c.is_taken.ensures) c.requires.0.here,
  omega (arith, c.requires.0.here, c.requires.0.few, c.requires.0.small, c.requires.1),
)

pub try_offer-returns-then-at-goals : goal.try_offer-returns-then-at-goals
try_offer-returns-then-at-goals t c =
    look-last c.args.table.now c.args.goals.now c.args.at c.args.sum c.args.offer
    c.args.work.now c.requires.0.few c.requires.0.size (search rules)
    (told c.if-is_taken.false c.is_taken.ensures) c.requires.0.here _
    (omega arith) _ (search rules) c.keep.ensures

pub try_offer-search-requires : goal.try_offer-search-requires
try_offer-search-requires t c = (
  omega (arith, c.decreases),
  searchable-next c.requires.0 _ _ (omega arith) (omega (arith, c.requires.0.here)) c.requires.1
      (put-size c.args.table.now c.args.goals.now c.args.at c.args.sum c.args.offer
      c.args.work.now c.requires.0.few c.requires.0.size (search rules)
      (told c.if-is_taken.false c.is_taken.ensures) c.requires.0.here),
)

pub try_offer-returns : goal.try_offer-returns
try_offer-returns t c =
    look-deeper c.args.table.now c.args.goals.now c.args.at c.args.sum c.args.offer
    c.args.work.now c.requires.0.few c.requires.0.size (search rules)
    (told c.if-is_taken.false c.is_taken.ensures) c.requires.0.here _
    (omega arith) _ _ c.search.ensures
