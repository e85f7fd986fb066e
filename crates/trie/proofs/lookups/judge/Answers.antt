-- `trie::lookups::judge` meets its contract.
use Rattle.trie.proofs.TurnCases.{judge-damaged, judge-sound}
use Rattle.trie.proofs.lookups.judge.Goals as goal

pub returns-in-Some : goal.returns-in-Some
returns-in-Some c = judge-sound _ _ _ _ _ c.in-Some.ensures

pub returns-in-None : goal.returns-in-None
returns-in-None c = judge-damaged _ _ _ _ c.in-None.ensures
