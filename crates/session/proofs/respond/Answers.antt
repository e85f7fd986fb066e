-- `respond` meets its contract.
use native.Mathlib.Omega.{arith}
use borrow.Author.Tests.{leb-true, leb-false}
use Rattle.basis.proofs.Tests.{told}
use Rattle.store.specs.Calls.{space_step}
use Rattle.asking.specs.Lines.{means}
use Rattle.asking.specs.Saying.{said_of}
use Rattle.session.proofs.LineLaws.{response-none, response-line, response-parts, line-within}
use Rattle.session.proofs.respond.Goals as goal

pub reply_or_bad-end-requires : goal.reply_or_bad-end-requires
reply_or_bad-end-requires c = leb-true _ _ (told c.has_room.ensures c.if-has_room.true)

pub bounds-text-end : goal.bounds-text-end
bounds-text-end c = omega (arith, c.reply_or_bad-end.ensures.line_puts.2)

pub overflow_add-result : goal.overflow_add-result
overflow_add-result c = omega (arith, c.reply_or_bad-end.ensures.line_puts.2)

pub returns-then-has_room : goal.returns-then-has_room
returns-then-has_room c = let p = response-parts _ _ _ _ _ (response-line c.args.line.now c.args.text.now c.args.space.now c.args.out.now _ _ _ _ (leb-true _ _ (told c.has_room.ensures c.if-has_room.true)) (c.reply_or_bad-end.ensures.line_puts, c.reply_or_bad-end.ensures.space_value) c.reply_or_bad-end.ensures.out_value) in record { value = p.0; text_value = p.1; space_value = p.2; out_value = p.3; upper_bound = line-within (said_of space_step (means c.args.line.now c.args.out.now) c.args.space.now c.args.out.now).text c.args.text.now _ _ c.reply_or_bad-end.ensures.line_puts }

pub returns-else-has_room : goal.returns-else-has_room
returns-else-has_room c = let p = response-parts _ _ _ _ _ (response-none c.args.line.now c.args.text.now c.args.space.now c.args.out.now c.args.text.now 0 (leb-false _ _ (told c.has_room.ensures c.if-has_room.false))) in record { value = p.0; text_value = p.1; space_value = p.2; out_value = p.3; upper_bound = omega arith }
