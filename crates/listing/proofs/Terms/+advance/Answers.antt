-- The proof of the cycle of calls {advance}: what is found after the place is taken, and else the next cell is put there. The measure is
-- the cells left.
use mathlib.Core.Path.{refl, sym, ◌∙◌}
use native.Mathlib.Omega.{arith}
use lib.ListN.{length-set}
use borrow.Author.Rules.{rules}
use Rattle.listing.specs.Clauses.{listed_result}
use Rattle.listing.proofs.Calls.{given}
use Rattle.listing.proofs.Letters.{rank_most, place-rank}
use Rattle.listing.proofs.Turns.{alphabet-length}
use Rattle.listing.proofs.Filling.{chosen-due, passed-at, shorter, still-room, next-goes, next-letters, advance-end, advance-found, advance-none, advance-cell}
use Rattle.listing.proofs.Terms.+advance.Goals as goal

pub returns-then-self-at : goal.returns-then-self-at
unfolding listed_result
returns-then-self-at t c =
    let g = given _ _ _ c.args.self.now.given in
    (advance-end c.args.self.now.edition c.args.self.now.s c.args.self.now.symbols.now c.args.place c.args.term.now (omega arith) (search rules), refl, refl)

pub offset_bounds-term-at : goal.offset_bounds-term-at
offset_bounds-term-at t c =
    let g = given _ _ _ c.args.self.now.given in omega arith

pub bounds-term-at : goal.bounds-term-at
bounds-term-at t c =
    let g = given _ _ _ c.args.self.now.given in omega arith

pub place_after-next-requires : goal.place_after-next-requires
place_after-next-requires t c =
    let g = given _ _ _ c.args.self.now.given in
    let w = next-goes c.args.self.now.edition c.args.self.now.s c.args.self.now.symbols.now c.args.place c.args.term.now (omega (arith, c.requires.long)) (search rules) _ refl _ refl c.requires.ends in
    (omega arith, w.0, omega arith)

pub advance-requires : goal.advance-requires
advance-requires t c =
    let g = given _ _ _ c.args.self.now.given in
    let w = next-goes c.args.self.now.edition c.args.self.now.s c.args.self.now.symbols.now c.args.place c.args.term.now (omega (arith, c.requires.long)) (search rules) _ refl _ c.place_after-next.ensures c.requires.ends in
    let l = next-letters c.args.self.now.edition c.args.self.now.s c.args.self.now.symbols.now c.args.place c.args.term.now (omega (arith, c.requires.long)) (search rules) _ refl _ c.place_after-next.ensures c.requires.letters in
    let z = passed-at _ _ _ _ c.place_after-next.ensures in (
      omega (arith, z.0, c.decreases),
      record {
        room = record { within = omega (arith, z.0); few = omega (arith, w.1) };
        long = c.requires.long;
        letters = l.1;
        ends = w.2;
      },
    )

pub returns-then-advance : goal.returns-then-advance
unfolding listed_result
returns-then-advance t c =
    let g = given _ _ _ c.args.self.now.given in
    let v = c.advance.ensures in
    let z = passed-at _ _ _ _ c.place_after-next.ensures in (
      advance-found c.args.self.now.edition c.args.self.now.s c.args.self.now.symbols.now c.args.place c.args.term.now (omega (arith, c.requires.long)) (search rules) _ refl _ c.place_after-next.ensures _ (rw c.if-advance.true at c.advance.ensures.0),
      shorter c.args.place.at c.args.term.now _ (rw z.0 at v.1),
      v.2,
    )

pub place_of-later-requires : goal.place_of-later-requires
place_of-later-requires t c =
    let g = given _ _ _ c.args.self.now.given in omega arith

pub overflow_add-later : goal.overflow_add-later
overflow_add-later t c =
    let g = given _ _ _ c.args.self.now.given in
    let l = next-letters c.args.self.now.edition c.args.self.now.s c.args.self.now.symbols.now c.args.place c.args.term.now (omega (arith, c.requires.long)) (search rules) _ refl _ c.place_after-next.ensures c.requires.letters in
    let j = (c.place_of-later.ensures ∙ place-rank _ _ _ g _ l.0) in
    omega (arith, rank_most _ _ _ j, alphabet-length c.args.self.now.s c.args.self.now.symbols.now)

pub choose-requires : goal.choose-requires
choose-requires t c = (c.requires.room, search rules)

pub returns-in_default : goal.returns-in_default
unfolding listed_result
returns-in_default t c =
    let g = given _ _ _ c.args.self.now.given in
    let l = next-letters c.args.self.now.edition c.args.self.now.s c.args.self.now.symbols.now c.args.place c.args.term.now (omega (arith, c.requires.long)) (search rules) _ refl _ c.place_after-next.ensures c.requires.letters in
    let v = c.advance.ensures in
    let z = passed-at _ _ _ _ c.place_after-next.ensures in (
      advance-none c.args.self.now.edition c.args.self.now.s c.args.self.now.symbols.now c.args.place c.args.term.now (omega (arith, c.requires.long)) (search rules) _ refl _ c.place_after-next.ensures (rw c.if-advance.false at c.advance.ensures.0)
          _ (sym c.in_default.is ∙ c.choose.ensures) (omega (arith, c.place_of-later.ensures, place-rank _ _ _ g _ l.0)),
      shorter c.args.place.at c.args.term.now _ (rw z.0 at v.1),
      v.2,
    )

pub offset_bounds-term-at-2 : goal.offset_bounds-term-at-2
offset_bounds-term-at-2 t c =
    let g = given _ _ _ c.args.self.now.given in omega arith

pub bounds-term-at-2 : goal.bounds-term-at-2
bounds-term-at-2 t c =
    let g = given _ _ _ c.args.self.now.given in omega arith

pub place_after-next-requires-2 : goal.place_after-next-requires-2
place_after-next-requires-2 t c =
    let g = given _ _ _ c.args.self.now.given in
    let h = chosen-due _ _ _ _ _ _ (sym c.in-Some.is ∙ c.choose.ensures) in
    (omega arith, h.some-due, omega arith)

pub fill-requires : goal.fill-requires
fill-requires t c =
    let g = given _ _ _ c.args.self.now.given in
    let h = chosen-due _ _ _ _ _ _ (sym c.in-Some.is ∙ c.choose.ensures) in
    let z = passed-at _ _ _ _ c.place_after-next-2.ensures in (
      record { within = omega (arith, z.0); few = omega (arith, z.1, h.few-due) },
      simp length-set (c.advance.ensures.2 ∙ c.requires.long),
    )

pub returns : goal.returns
unfolding listed_result
returns t c =
    let g = given _ _ _ c.args.self.now.given in
    let l = next-letters c.args.self.now.edition c.args.self.now.s c.args.self.now.symbols.now c.args.place c.args.term.now (omega (arith, c.requires.long)) (search rules) _ refl _ c.place_after-next.ensures c.requires.letters in
    let v = c.advance.ensures in
    let f = c.fill.ensures in
    let z = passed-at _ _ _ _ c.place_after-next-2.ensures in
    let x = advance-cell c.args.self.now.edition c.args.self.now.s c.args.self.now.symbols.now c.args.place c.args.term.now (omega (arith, c.requires.long)) (search rules) _ refl _ c.place_after-next.ensures (rw c.if-advance.false at c.advance.ensures.0)
    _ _ (sym c.in-Some.is ∙ c.choose.ensures) (omega (arith, c.place_of-later.ensures, place-rank _ _ _ g _ l.0)) _ c.place_after-next-2.ensures c.advance.new.term
    (still-room c.args.self.now.s c.args.term.now c.advance.new.term (omega (arith, c.requires.long)) v.2) v.1 in (
      f.0 ∙ x.0,
      shorter c.args.place.at _ _ (rw z.0 at f.1) ∙ x.1,
      f.2 ∙ simp length-set v.2,
    )
