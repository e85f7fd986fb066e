-- `is_leading` meets its contract, one case to each return.
use native.Mathlib.Omega.{arith}
use Rattle.listing.proofs.Cases.{leads-none, leads-over, leads-from}
use Rattle.listing.proofs.is_leading.Goals as goal
use Rattle.listing.proofs.is_leading.Goals.{then-arity-eq0-via-then-arity-eq0, then-arity-eq0-via-else-arity-eq0+then-t-arity}

pub returns-then-arity-eq0 : goal.returns-then-arity-eq0
returns-then-arity-eq0 c = elim c.then-arity-eq0.branch [
  | then-arity-eq0-via-then-arity-eq0 w ↦ leads-none _ _ _ w.if-arity-eq0.true
  | then-arity-eq0-via-else-arity-eq0+then-t-arity w ↦ leads-over _ _ _ (omega (arith, w.if-arity-eq0.false)) w.if-t-arity.true
]

pub returns : goal.returns
returns c = leads-from _ _ _ (omega arith) c.if-t-arity.false
