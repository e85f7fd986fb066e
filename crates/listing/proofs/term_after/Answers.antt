-- `term_after` meets its contract: the next way to go on from the start of the term is the term after it in the list.
use native.Mathlib.Omega.{arith}
use Rattle.listing.proofs.Tests.{refuted, confirmed}
use lib.ListN.{replicate}
use Rattle.listing.specs.Clauses.{listed_result}
use Rattle.listing.proofs.Turns.{offers-end}
use Rattle.listing.proofs.Calls.{given}
use Rattle.listing.proofs.Filling.{start-at}
use Rattle.listing.proofs.Answers.{after-refused, after-strange, listed-whole, copied-long, copied-goes, after-offered}
use Rattle.listing.proofs.term_after.Goals as goal

pub returns-then-not-is_listable : goal.returns-then-not-is_listable
returns-then-not-is_listable c = after-refused _ _ _ _ _ (search refuted)

pub is_listed-requires : goal.is_listed-requires
is_listed-requires c = search confirmed

pub returns-then-not-is_listed : goal.returns-then-not-is_listed
returns-then-not-is_listed c = after-strange _ _ _ _ _ (search confirmed) (search refuted)

pub copy-requires : goal.copy-requires
copy-requires c =
    let g = given _ _ _ (confirmed c.is_listable.ensures c.if-not-is_listable.false) in
    let w = listed-whole c.args.edition c.args.s c.args.symbols.now c.args.given.now c.args.out.now (confirmed c.is_listable.ensures c.if-not-is_listable.false) (confirmed c.is_listed.ensures c.if-not-is_listed.false) in
    (omega (arith, w.0), omega arith)

pub advance-requires : goal.advance-requires
advance-requires c =
    let h = (confirmed c.is_listable.ensures c.if-not-is_listable.false) in
    let g = given _ _ _ h in
    let z = start-at _ c.beginning.ensures in
    let w = copied-goes c.args.edition c.args.s c.args.symbols.now c.args.given.now c.args.out.now h (confirmed c.is_listed.ensures c.if-not-is_listed.false) _ _ c.copy.ensures _ c.beginning.ensures in
    record {
      room = record { within = omega (arith, z.0); few = omega (arith, z.1) };
      long = copied-long c.args.edition c.args.s c.args.symbols.now c.args.given.now c.args.out.now h (confirmed c.is_listed.ensures c.if-not-is_listed.false) (replicate 8 0) _ (omega arith) c.copy.ensures;
      letters = w.letters;
      ends = w.ends;
    }

pub offer-requires : goal.offer-requires
offer-requires c =
    let g = given _ _ _ (confirmed c.is_listable.ensures c.if-not-is_listable.false) in
    omega arith

pub returns-then-not-advance : goal.returns-then-not-advance
unfolding listed_result
returns-then-not-advance c =
    after-offered c.args.edition c.args.s c.args.symbols.now c.args.given.now c.args.out.now (search confirmed) (search confirmed) _ _ c.copy.ensures
    _ c.beginning.ensures _ (rw c.if-not-advance.true at c.advance.ensures.0) _ _ (offers-end _ _)

pub returns : goal.returns
unfolding listed_result
returns c =
    after-offered c.args.edition c.args.s c.args.symbols.now c.args.given.now c.args.out.now (search confirmed) (search confirmed) _ _ c.copy.ensures
    _ c.beginning.ensures _ (rw c.if-not-advance.false at c.advance.ensures.0) _ _ c.offer.ensures
