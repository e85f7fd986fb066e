-- `integrity::check_in` meets its contract.
use Rattle.integrity.proofs.CheckCases.{pass-whole, fault-node, fault-subgoal, fault-answer, fault-chains, all_whole}
use Rattle.integrity.specs.Tests.{node_test}
use mathlib.Core.Path.{◌∙◌}
use borrow.Author.Rules.{rules}
use Rattle.integrity.proofs.check_in.Goals as goal

pub returns-then-n-table : goal.returns-then-n-table
returns-then-n-table c = fault-node c.args.table.now (c.first_node-n.result) (c.first_node-n.ensures) (search rules)

pub first_subgoal-s-requires : goal.first_subgoal-s-requires
first_subgoal-s-requires c = pass-whole (node_test c.args.table.now) (c.args.table.now.head.nodes) (c.first_node-n.result) (c.first_node-n.ensures) (search rules)

pub returns-then-s-table : goal.returns-then-s-table
returns-then-s-table c = fault-subgoal c.args.table.now (c.first_node-n.result) (c.first_node-n.ensures) (search rules) (c.first_subgoal-s.result) (c.first_subgoal-s.ensures) (search rules)

pub returns-then-a-table : goal.returns-then-a-table
returns-then-a-table c = fault-answer c.args.table.now (c.first_node-n.result) (c.first_node-n.ensures) (search rules) (c.first_subgoal-s.result) (c.first_subgoal-s.ensures) (search rules) (c.first_answer-a.result) (c.first_answer-a.ensures) (search rules)

pub check_chains-requires : goal.check_chains-requires
check_chains-requires c = all_whole c.args.table.now (c.first_node-n.result) (c.first_node-n.ensures) (search rules) (c.first_subgoal-s.result) (c.first_subgoal-s.ensures) (search rules) (c.first_answer-a.result) (c.first_answer-a.ensures) (search rules)

pub returns : goal.returns
returns c = c.check_chains.ensures ∙ fault-chains c.args.table.now (c.first_node-n.result) (c.first_node-n.ensures) (search rules) (c.first_subgoal-s.result) (c.first_subgoal-s.ensures) (search rules) (c.first_answer-a.result) (c.first_answer-a.ensures) (search rules)
