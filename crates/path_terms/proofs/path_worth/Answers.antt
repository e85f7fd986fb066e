-- `path_terms::path_worth` meets its contract.
use mathlib.Core.Bool.{true, false}
use Rattle.trie.specs.Runs.{path_to}
use Rattle.path_terms.proofs.WorthCases.{worth-as}
use Rattle.path_terms.proofs.path_worth.Goals as goal

pub returns-then-called : goal.returns-then-called
returns-then-called c = worth-as c.args.edition c.args.m (path_to c.args.space.now c.args.end) _ {known = true} c.if-called.true c.use_one.ensures.0

pub returns : goal.returns
returns c = worth-as c.args.edition c.args.m (path_to c.args.space.now c.args.end) _ {known = false} c.if-called.false c.use_one-2.ensures.0
