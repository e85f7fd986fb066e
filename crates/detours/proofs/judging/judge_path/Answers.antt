-- `detours::judging::judge_path` meets its contract.
use Rattle.basis.proofs.Tests.{told}
use Rattle.trie.specs.Runs.{path_to}
use Rattle.sides.proofs.ChainCases.{path-severed}
use Rattle.detours.proofs.JudgeCases.{path-fit, path-unfit}
use borrow.Author.Rules.{rules}
use Rattle.detours.proofs.judging.judge_path.Goals as goal

pub returns-then-is_fit : goal.returns-then-is_fit
returns-then-is_fit c =
    path-fit c.args.edition c.args.m (path_to c.args.space.now c.args.end)
    (told c.if-is_fit.true c.is_fit.ensures)

pub returns-then-path_worth-eq0 : goal.returns-then-path_worth-eq0
returns-then-path_worth-eq0 c =
    path-severed c.args.edition c.args.m (path_to c.args.space.now c.args.end) _ c.path_worth.ensures
    (search rules)

pub returns : goal.returns
returns c =
    path-unfit c.args.edition c.args.m (path_to c.args.space.now c.args.end) _ c.path_worth.ensures
    (search rules) (told c.if-is_fit.false c.is_fit.ensures)
