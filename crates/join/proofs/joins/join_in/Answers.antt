-- `join::joins::join_in` meets its contract.
use Rattle.join.proofs.CallCases.{first-none, second_none, target_none}
use Rattle.basis.proofs.Tests.{told}
use Rattle.trie.specs.Index.{search_indexed}
use Rattle.join.proofs.joins.join_in.Goals.{else-is_number-via-then-is_number+then-is_number-2+else-is_number-3, else-is_number-via-then-is_number+else-is_number-2, else-is_number-via-else-is_number}
use Rattle.join.proofs.joins.join_in.Goals as goal

pub returns : goal.returns
returns c = elim c.else-is_number.branch [
  | else-is_number-via-then-is_number+then-is_number-2+else-is_number-3 w ↦ target_none (search_indexed c.args.asked.now.index.now c.args.h.nodes) c.args.space.now c.args.h c.args.a.first c.args.a.second c.args.asked.now.pairs.now c.args.a.target c.args.asked.now.copies.now (told c.is_number.ensures w.if-is_number.true) (told w.is_number-then-is_number.ensures w.if-is_number-2.true) (told w.is_number-then-is_number-2.ensures w.if-is_number-3.false)
  | else-is_number-via-then-is_number+else-is_number-2 w ↦ second_none (search_indexed c.args.asked.now.index.now c.args.h.nodes) c.args.space.now c.args.h c.args.a.first c.args.a.second c.args.asked.now.pairs.now c.args.a.target c.args.asked.now.copies.now (told c.is_number.ensures w.if-is_number.true) (told w.is_number-then-is_number.ensures w.if-is_number-2.false)
  | else-is_number-via-else-is_number w ↦ first-none (search_indexed c.args.asked.now.index.now c.args.h.nodes) c.args.space.now c.args.h c.args.a.first c.args.a.second c.args.asked.now.pairs.now c.args.a.target c.args.asked.now.copies.now (told c.is_number.ensures w.if-is_number.false)
]
