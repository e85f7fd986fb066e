-- `why_old` meets its contract.
use mathlib.Core.Path.{◌≡◌}
use Rattle.std.specs.Prelude.{Err}
use borrow.Author.Rules.{rules}
use Rattle.reasons.proofs.WhyCases.{old-lost, old-found}
use Rattle.reasons.proofs.why_old.Goals as goal

pub returns-in_err-s : goal.returns-in_err-s
returns-in_err-s c =
    let passed : c.from_residual.result ≡ Err c.in_err-s.field-0.0 = search rules in
    rw passed (old-lost c.args.space.now c.args.h c.args.leaf c.args.m _ (rw c.in_err-s.was at c.subgoal_of.ensures))

pub returns : goal.returns
returns c =
    old-found c.args.space.now c.args.h c.args.leaf c.args.m _ (rw c.in_ok-s.was at c.subgoal_of.ensures)
