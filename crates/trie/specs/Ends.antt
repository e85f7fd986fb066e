-- Where the paths of records end.
use Rattle.space.specs.declared.Head.{Head}
use Rattle.space.specs.declared.Subgoal.{Subgoal}
use Rattle.space.specs.declared.Answer.{Answer}
use Rattle.trie.specs.declared.End.{End}

-- the path of answer y to a subgoal whose record is g
abbrev pub answer_end : Head → Subgoal → Answer → End
answer_end h g y = record { nodes = h.nodes; links = h.answers; root = g.root; leaf = y.leaf }

-- the path of a subgoal whose record is g
abbrev pub subgoal_end : Head → Subgoal → End
subgoal_end h g = record { nodes = h.nodes; links = h.subgoals; root = 0; leaf = g.leaf }
