-- `join::joins::rule` meets its contract.
use Rattle.join.proofs.RuleCases.{rule-first, rule-second, rule-whole}
use Rattle.basis.proofs.Tests.{told}
use Rattle.join.proofs.joins.rule.Goals.{else-is_whole-via-then-is_whole+else-is_whole-2, else-is_whole-via-else-is_whole}
use Rattle.join.proofs.joins.rule.Goals as goal

pub returns-then-is_whole-2 : goal.returns-then-is_whole-2
returns-then-is_whole-2 c = rule-whole c.args.y c.args.f c.args.g c.args.asked.now.pairs.now c.args.asked.now.copies.now (told c.is_whole.ensures c.if-is_whole.true) _ (told c.is_whole-then-is_whole.ensures c.if-is_whole-2.true) c.ruling.ensures

pub returns : goal.returns
returns c = elim c.else-is_whole.branch [
  | else-is_whole-via-then-is_whole+else-is_whole-2 w ↦ rule-second c.args.y c.args.f c.args.g c.args.asked.now.pairs.now c.args.asked.now.copies.now (told c.is_whole.ensures w.if-is_whole.true) (told w.is_whole-then-is_whole.ensures w.if-is_whole-2.false)
  | else-is_whole-via-else-is_whole w ↦ rule-first c.args.y c.args.f c.args.g c.args.asked.now.pairs.now c.args.asked.now.copies.now (told c.is_whole.ensures w.if-is_whole.false)
]
