use Rattle.std.proofs.Common.{◌≡◌, ◌+◌, ◌≤◌, ◌++◌, drop}
use Rattle.trie.specs.Runs.{levels}
use Rattle.trie.proofs.paths.copy_run.Given as goal

abbrev pub invariant-loop-i : goal.invariant-loop-i
invariant-loop-i l = (l.i ≤ levels) × (drop (l.from + l.i) l.path ≡ drop l.i l.run ++ drop (l.from + levels) l.initial.path)
