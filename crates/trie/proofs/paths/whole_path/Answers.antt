-- `trie::paths::whole_path` meets its contract.
use Rattle.trie.proofs.PathCases.{begun-size, begun-on, begun-found}
use Rattle.std.proofs.Common.{arith}
use Rattle.trie.proofs.paths.whole_path.Goals as goal

pub climb_runs-requires : goal.climb_runs-requires
climb_runs-requires c =
    let p = c.requires in
    let b = p.1 in
    record { run_begun = (p.0.0, begun-size _ _ _ _ b, begun-on _ _ _ _ b p.0.1); le_runs = (omega arith, omega (arith, p.2)) }

pub returns : goal.returns
returns c = begun-found _ _ _ _ c.requires.1 _ _ _ c.requires.2 c.climb_runs.ensures
