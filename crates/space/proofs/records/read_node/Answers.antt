-- `space::records::read_node` meets its contract.
use Rattle.basis.proofs.Tests.{told}
use Rattle.space.proofs.JudgingCases.{node-read, node-damaged}
use borrow.Author.Rules.{rules}
use Rattle.space.proofs.records.read_node.Goals as goal

pub returns-then-node_sound : goal.returns-then-node_sound
returns-then-node_sound c = node-read _ _ _ _ _ (search rules) (search told)

pub returns : goal.returns
returns c = node-damaged _ _ _ _ c.node_in-y.result (search rules) (search told)
