-- `sides::chains::judge_path` meets its contract.
use Rattle.sides.proofs.ChainCases.{path-severed, path-ground, path-variable}
use Rattle.trie.specs.Runs.{path_to}
use borrow.Author.Rules.{rules}
use native.Mathlib.Omega.{arith}
use Rattle.sides.proofs.chains.judge_path.Goals as goal

pub returns-in-0 : goal.returns-in-0
returns-in-0 c = path-severed c.args.edition c.args.m (path_to c.args.space.now c.args.end) _ c.path_worth.ensures (search rules)

pub returns-in-1 : goal.returns-in-1
returns-in-1 c = path-ground c.args.edition c.args.m (path_to c.args.space.now c.args.end) _ c.path_worth.ensures (omega arith) (search rules)

pub returns-in_default : goal.returns-in_default
returns-in_default c = path-variable c.args.edition c.args.m (path_to c.args.space.now c.args.end) _ c.path_worth.ensures (search rules) (search rules)
