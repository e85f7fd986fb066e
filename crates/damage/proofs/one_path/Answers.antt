-- `damage::one_path` meets its contract.
use Rattle.trie.proofs.PathCases.{gathers-within}
use Rattle.std.proofs.Common.{arith}
use Rattle.damage.proofs.one_path.Goals as goal

pub offset_bounds-path-k : goal.offset_bounds-path-k
offset_bounds-path-k c = omega (arith, gathers-within c.args.space.now c.args.end _ _ c.whole_path-k.ensures)

pub slice_bounds-with_tokens-count : goal.slice_bounds-with_tokens-count
slice_bounds-with_tokens-count c = omega (arith, gathers-within c.args.space.now c.args.end _ _ c.whole_path-k.ensures)
