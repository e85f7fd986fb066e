-- `sides::names::copies_named` meets its contract.
use Rattle.sides.proofs.NameCases.{copies-ended, copies-above, copies-next}
use mathlib.Core.Path.{◌∙◌}
use native.Mathlib.Omega.{arith}
use Rattle.sides.proofs.names.copies_named.Goals as goal

pub returns-then-variables_of-wide : goal.returns-then-variables_of-wide
returns-then-variables_of-wide c = copies-above _ _ c.loop-rest.rest.now (omega arith) (omega arith) ∙ c.loop-rest.invariant

pub loop-rest-preserved : goal.loop-rest-preserved
loop-rest-preserved c = copies-next _ _ c.loop-rest.rest.now (omega arith) (omega arith) ∙ c.loop-rest.invariant

pub returns : goal.returns
returns c = c.is_empty.ensures ∙ copies-ended _ _ c.loop-rest.rest.now c.in_default.len_below ∙ c.loop-rest.invariant
