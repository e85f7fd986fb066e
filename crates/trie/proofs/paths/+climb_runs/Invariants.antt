use Rattle.trie.proofs.paths.+climb_runs.Given as goal

abbrev pub decreases-climb_runs : goal.decreases-climb_runs
decreases-climb_runs l = l.begun
