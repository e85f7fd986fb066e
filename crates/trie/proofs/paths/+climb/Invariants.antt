use Rattle.trie.proofs.paths.+climb.Given as goal

abbrev pub decreases-climb : goal.decreases-climb
decreases-climb l = l.n
