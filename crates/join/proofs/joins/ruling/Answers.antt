-- `join::joins::ruling` meets its contract.
use Rattle.join.proofs.RuleCases.{on-finished, on-first-open, on-second-open, on-first-variable, on-second-variable, on-unnamed, on-named}
use Rattle.basis.proofs.Tests.{told}
use borrow.Author.Rules.{rules}
use Rattle.join.proofs.joins.ruling.Goals.{then-y-eq0-via-then-y-eq0, then-y-eq0-via-else-y-eq0+then-y-eq0-2, else-is_ground-via-then-is_ground+else-is_ground-2, else-is_ground-via-else-is_ground}
use Rattle.join.proofs.joins.ruling.Goals as goal

pub returns-then-y-ne0 : goal.returns-then-y-ne0
returns-then-y-ne0 c = on-finished c.args.y c.args.f c.args.g c.args.asked.now.pairs.now c.args.asked.now.copies.now (search rules)

pub returns-then-y-eq0 : goal.returns-then-y-eq0
returns-then-y-eq0 c = elim c.then-y-eq0.branch [
  | then-y-eq0-via-then-y-eq0 w ↦ on-first-open c.args.y c.args.f c.args.g c.args.asked.now.pairs.now c.args.asked.now.copies.now (search rules) w.if-y-eq0.true
  | then-y-eq0-via-else-y-eq0+then-y-eq0-2 w ↦ on-second-open c.args.y c.args.f c.args.g c.args.asked.now.pairs.now c.args.asked.now.copies.now (search rules) w.if-y-eq0.false w.if-y-eq0-2.true
]

pub returns-then-named : goal.returns-then-named
returns-then-named c = on-named c.args.y c.args.f c.args.g c.args.asked.now.pairs.now c.args.asked.now.copies.now (search rules) c.if-y-eq0.false c.if-y-eq0-2.false (told c.is_ground.ensures c.if-is_ground.true) (told c.is_ground-then-is_ground.ensures c.if-is_ground-2.true) (told c.named.ensures c.if-named.true)

pub returns-then-is_ground-2 : goal.returns-then-is_ground-2
returns-then-is_ground-2 c = on-unnamed c.args.y c.args.f c.args.g c.args.asked.now.pairs.now c.args.asked.now.copies.now (search rules) c.if-y-eq0.false c.if-y-eq0-2.false (told c.is_ground.ensures c.if-is_ground.true) (told c.is_ground-then-is_ground.ensures c.if-is_ground-2.true) (told c.named.ensures c.if-named.false)

pub returns : goal.returns
returns c = elim c.else-is_ground.branch [
  | else-is_ground-via-then-is_ground+else-is_ground-2 w ↦ on-second-variable c.args.y c.args.f c.args.g c.args.asked.now.pairs.now c.args.asked.now.copies.now (search rules) c.if-y-eq0.false c.if-y-eq0-2.false (told c.is_ground.ensures w.if-is_ground.true) (told w.is_ground-then-is_ground.ensures w.if-is_ground-2.false)
  | else-is_ground-via-else-is_ground w ↦ on-first-variable c.args.y c.args.f c.args.g c.args.asked.now.pairs.now c.args.asked.now.copies.now (search rules) c.if-y-eq0.false c.if-y-eq0-2.false (told c.is_ground.ensures w.if-is_ground.false)
]
