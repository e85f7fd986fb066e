-- `join::joins::join_ground` meets its contract.
use Rattle.join.proofs.CallCases.{may-count, ground-long, ground-unsound, ground-none, ground-some}
use mathlib.Core.Path.{◌≡◌}
use native.Mathlib.Omega.{arith}
use Rattle.std.specs.Prelude.{Some, None, Err}
use Rattle.basis.specs.declared.refusals.Refusal.TheVariants as refusal
use Rattle.trie.specs.Index.{search_indexed}
use borrow.Author.Rules.{rules}
use Rattle.join.proofs.joins.join_ground.Goals as goal

pub count-requires : goal.count-requires
count-requires c = may-count c.args.space.now c.args.h c.args.y c.args.asked.now.pairs.now c.args.asked.now.copies.now c.requires _ c.sides_of.ensures

pub returns-in_err-sums : goal.returns-in_err-sums
returns-in_err-sums c =
    let long : c.count.result ≡ None = grind arith in
    let passed : c.from_residual.result ≡ Err refusal.Length = grind arith in
    rw passed (ground-long c.args.space.now c.args.h c.args.y c.args.asked.now.pairs.now c.args.asked.now.copies.now c.requires _ c.sides_of.ensures (search_indexed c.args.asked.now.index.now) _ c.count.ensures long)

pub returns-then-sums-eq0 : goal.returns-then-sums-eq0
returns-then-sums-eq0 c =
    let summed : c.count.result ≡ Some c.in_ok-sums.sums = grind arith in
    ground-none c.args.space.now c.args.h c.args.y c.args.asked.now.pairs.now c.args.asked.now.copies.now c.requires _ c.sides_of.ensures (search_indexed c.args.asked.now.index.now) _ c.count.ensures _ summed c.if-sums.true (search rules)

pub join_new-requires : goal.join_new-requires
join_new-requires c =
    let summed : c.count.result ≡ Some c.in_ok-sums.sums = grind arith in
    ground-some c.args.space.now c.args.h c.args.y c.args.asked.now.pairs.now c.args.asked.now.copies.now c.requires _ c.sides_of.ensures (search_indexed c.args.asked.now.index.now) _ c.count.ensures _ summed c.if-sums.true (search rules)

pub returns : goal.returns
returns c =
    let summed : c.count.result ≡ Some c.in_ok-sums.sums = grind arith in
    ground-unsound c.args.space.now c.args.h c.args.y c.args.asked.now.pairs.now c.args.asked.now.copies.now c.requires _ c.sides_of.ensures (search_indexed c.args.asked.now.index.now) _ c.count.ensures _ summed c.if-sums.false
