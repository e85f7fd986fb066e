-- `join::joins::join_new` meets its contract.
use Rattle.join.proofs.CallCases.{target-last, sums-room, new-bounds, new-last, may-enter, new-by-sums, new-exactly, new-full}
use Rattle.join.proofs.TrialCases.{new-roomed, enter-after, entered-after, refused-after}
use Rattle.join.proofs.GroundLaws.{new-needed}
use mathlib.Core.Path.{◌≡◌}
use Rattle.std.specs.Prelude.{Err}
use Rattle.basis.specs.Refusals.{number_of}
use Rattle.join.specs.Joining.{join_asked}
use Rattle.plain.specs.Requests.{refused}
use Rattle.basis.proofs.Tests.{told}
use Rattle.trie.specs.Index.{search_indexed}
use borrow.Author.Rules.{rules}
use Rattle.join.proofs.joins.join_new.Goals as goal

pub last_sound-requires : goal.last_sound-requires
last_sound-requires c = target-last c.args.space.now c.args.h c.args.y c.requires.grounded.parties

pub sums_fit-requires : goal.sums_fit-requires
sums_fit-requires c =
    let e = sums-room c.args.space.now c.args.h (new-bounds (search_indexed c.args.asked.now.index.now) c.args.space.now c.args.h c.args.y c.args.asked.now.pairs.now c.args.asked.now.copies.now c.args.sums c.requires) in
    record { nodes_bound = e.0; node_capacity_bound = e.1 }

pub join_entered-requires : goal.join_entered-requires
join_entered-requires c = may-enter (search_indexed c.args.asked.now.index.now) c.args.space.now c.args.h c.args.y c.args.asked.now.pairs.now c.args.asked.now.copies.now c.args.sums c.requires _ c.sides_of-x.ensures

pub returns-then-sums_fit : goal.returns-then-sums_fit
returns-then-sums_fit c = new-by-sums (search_indexed c.args.asked.now.index.now) c.args.space.now c.args.h c.args.y c.args.asked.now.pairs.now c.args.asked.now.copies.now c.args.sums c.requires _ c.sides_of-x.ensures (told c.last_sound.ensures c.if-last_sound.true) (told c.sums_fit.ensures c.if-sums_fit.true) c.join_entered.result _ c.join_entered.ensures

pub room-requires : goal.room-requires
room-requires c = record { roomed = new-roomed (search_indexed c.args.asked.now.index.now) c.args.space.now c.args.h c.args.y c.args.asked.now.pairs.now c.args.asked.now.copies.now c.args.sums c.requires c.sides_of-x.result c.sides_of-x.ensures; some_needed = new-needed (search_indexed c.args.asked.now.index.now) c.args.space.now c.args.h c.args.y c.args.asked.now.pairs.now c.args.asked.now.copies.now c.args.sums c.requires c.sides_of-x.result c.sides_of-x.ensures }

pub join_entered-requires-then-last_sound : goal.join_entered-requires-then-last_sound
join_entered-requires-then-last_sound c = enter-after (search_indexed c.args.asked.now.index.now) c.args.space.now c.args.h c.args.y c.args.asked.now.pairs.now c.args.asked.now.copies.now c.args.sums c.requires c.sides_of-x.result c.sides_of-x.ensures c.room.new.space c.room.ensures.0

pub returns-then-last_sound : goal.returns-then-last_sound
returns-then-last_sound c = new-exactly (search_indexed c.args.asked.now.index.now) c.args.space.now c.args.h c.args.y c.args.asked.now.pairs.now c.args.asked.now.copies.now c.args.sums c.requires c.sides_of-x.result c.sides_of-x.ensures (told c.last_sound.ensures c.if-last_sound.true) c.room.result c.room.ensures.1 (search rules) c.join_entered-then-last_sound.result _ (entered-after (search_indexed c.args.asked.now.index.now c.sides_of-x.result.h.nodes) c.args.space.now c.room.new.space c.sides_of-x.result c.args.y.target c.args.asked.now.pairs.now c.args.asked.now.copies.now c.join_entered-then-last_sound.result _ c.room.ensures.0 c.join_entered-then-last_sound.ensures)

pub returns-in_err-room : goal.returns-in_err-room
returns-in_err-room c =
    let passed : c.from_residual.result ≡ Err c.in_err-room.field-0.0 = search rules in
    rw passed (refused-after (search_indexed c.args.asked.now.index.now c.args.h.nodes) c.args.space.now c.room.new.space c.args.h (join_asked c.args.y c.args.asked.now.pairs.now c.args.asked.now.copies.now) (refused (number_of c.in_err-room.field-0.0)) c.room.ensures.0 (new-full (search_indexed c.args.asked.now.index.now) c.args.space.now c.args.h c.args.y c.args.asked.now.pairs.now c.args.asked.now.copies.now c.args.sums c.requires c.sides_of-x.result c.sides_of-x.ensures (told c.last_sound.ensures c.if-last_sound.true) c.room.result c.room.ensures.1 _ c.in_err-room.was))

pub returns : goal.returns
returns c = new-last (search_indexed c.args.asked.now.index.now) c.args.space.now c.args.h c.args.y c.args.asked.now.pairs.now c.args.asked.now.copies.now c.args.sums c.requires (told c.last_sound.ensures c.if-last_sound.false)
