-- `sides::names::pairs_named` meets its contract.
use Rattle.sides.proofs.NameCases.{pairs-ended, pairs_first, pairs-second, pairs_next}
use mathlib.Core.Path.{◌∙◌}
use native.Mathlib.Omega.{arith}
use Rattle.sides.proofs.names.pairs_named.Goals.{then-m-wide-via-then-m-wide, then-m-wide-via-else-m-wide+then-n-wide}
use Rattle.sides.proofs.names.pairs_named.Goals as goal

pub returns-then-m-wide : goal.returns-then-m-wide
returns-then-m-wide c = elim c.then-m-wide.branch [
  | then-m-wide-via-then-m-wide w ↦ pairs_first _ _ c.loop-rest.rest.now (omega arith) (omega arith) ∙ c.loop-rest.invariant
  | then-m-wide-via-else-m-wide+then-n-wide w ↦
      pairs-second _ _ c.loop-rest.rest.now (omega arith) (omega arith) (omega arith) ∙ c.loop-rest.invariant
]

pub loop-rest-preserved : goal.loop-rest-preserved
loop-rest-preserved c =
    pairs_next _ _ c.loop-rest.rest.now (omega arith) (omega arith) (omega arith) ∙ c.loop-rest.invariant

pub returns : goal.returns
returns c = c.is_empty.ensures ∙ pairs-ended _ _ c.loop-rest.rest.now c.in_default.len_below ∙ c.loop-rest.invariant
