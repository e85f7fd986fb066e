-- `join::joins::is_root` meets its contract.
use Rattle.join.proofs.CallCases.{root-unsound, root-read}
use Rattle.basis.proofs.Tests.{told}
use Rattle.join.proofs.joins.is_root.Goals as goal

pub returns-in_default : goal.returns-in_default
returns-in_default c = root-unsound c.args.space.now c.args.h c.args.root (told c.in_default.is c.read_node.ensures)

pub returns : goal.returns
returns c = root-read c.args.space.now c.args.h c.args.root c.in-Some.y (told c.in-Some.is c.read_node.ensures)
