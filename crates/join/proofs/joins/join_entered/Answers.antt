-- `join::joins::join_entered` meets its contract.
use Rattle.join.proofs.CallCases.{entered-unsound, entered-bounds, entered-more, entered-said}
use native.Mathlib.Omega.{arith}
use Rattle.basis.proofs.Tests.{told}
use Rattle.trie.proofs.IndexLaws.{indexes-find}
use Rattle.join.proofs.joins.join_entered.Goals as goal

pub returns-in_err-h : goal.returns-in_err-h
returns-in_err-h c = absurd (entered-unsound (indexes-find c.args.asked.now.index.now c.args.x.h.nodes) c.args.space.now c.args.x c.args.s c.args.asked.now.pairs.now c.args.asked.now.copies.now c.requires _ c.enter.ensures _ (told c.in_err-h.was c.read_header.ensures))

pub overflow_sub-more : goal.overflow_sub-more
overflow_sub-more c = entered-more (indexes-find c.args.asked.now.index.now c.args.x.h.nodes) c.args.space.now c.args.x c.args.s c.args.asked.now.pairs.now c.args.asked.now.copies.now c.requires _ c.enter.ensures _ (told c.in_ok-h.was c.read_header.ensures)

pub overflow_cast-result : goal.overflow_cast-result
overflow_cast-result c = let b = entered-bounds (indexes-find c.args.asked.now.index.now c.args.x.h.nodes) c.args.space.now c.args.x c.args.s c.args.asked.now.pairs.now c.args.asked.now.copies.now c.requires _ c.enter.ensures _ (told c.in_ok-h.was c.read_header.ensures) in omega (arith, b.answers-within, b.answers-most)

pub returns : goal.returns
returns c = entered-said (indexes-find c.args.asked.now.index.now c.args.x.h.nodes) c.args.space.now c.args.x c.args.s c.args.asked.now.pairs.now c.args.asked.now.copies.now c.requires _ c.enter.ensures _ (told c.in_ok-h.was c.read_header.ensures)
