-- `trie::paths::climb` meets its contract.
use Rattle.trie.proofs.PathCases.{climb-damaged, climb-lower, climb-root, climb-other, climb-more, climb-cut}
use Rattle.trie.specs.Siblings.{trie_in}
use Rattle.space.specs.Layout.{sizes}
use Rattle.std.proofs.Common.{[], arith, length-set, rules}
use Rattle.trie.proofs.paths.+climb.Goals as goal

pub returns-in_default : goal.returns-in_default
returns-in_default t c = climb-damaged _ (trie_in sizes c.args.space.now.now c.args.nodes c.args.links) _ _ _ (search rules) c.in_default.ensures

pub returns-then-n-root : goal.returns-then-n-root
returns-then-n-root t c = climb-root _ (trie_in sizes c.args.space.now.now c.args.nodes c.args.links) _ _ _ (search rules) c.in-Some.y c.in-Some.ensures (search rules) (search rules)

pub returns-else-n-root : goal.returns-else-n-root
returns-else-n-root t c = climb-other _ (trie_in sizes c.args.space.now.now c.args.nodes c.args.links) _ _ _ (search rules) c.in-Some.y c.in-Some.ensures (search rules) (search rules)

pub overflow_sub-at : goal.overflow_sub-at
overflow_sub-at t c = omega arith

pub offset_bounds-run-at : goal.offset_bounds-run-at
offset_bounds-run-at t c = omega arith

pub bounds-run-at : goal.bounds-run-at
bounds-run-at t c = omega arith

pub overflow_add-result : goal.overflow_add-result
overflow_add-result t c = let l = climb-lower 1 (trie_in sizes c.args.space.now.now c.args.nodes c.args.links) 0 c.args.n [] (omega arith) c.in-Some.y c.in-Some.ensures in omega arith

pub returns-then-at-eq0 : goal.returns-then-at-eq0
returns-then-at-eq0 t c = climb-cut _ (trie_in sizes c.args.space.now.now c.args.nodes c.args.links) _ _ _ (search rules) c.in-Some.y c.in-Some.ensures (search rules) (omega arith) (search rules)

pub climb-requires : goal.climb-requires
climb-requires t c = let l = climb-lower 1 (trie_in sizes c.args.space.now.now c.args.nodes c.args.links) 0 c.args.n [] (omega arith) c.in-Some.y c.in-Some.ensures in simp length-set (search rules)

pub returns : goal.returns
returns t c = climb-more _ (trie_in sizes c.args.space.now.now c.args.nodes c.args.links) _ _ _ (search rules) c.in-Some.y c.in-Some.ensures (search rules) (omega arith) _ _ c.climb.ensures
