-- `copying::tokens::widened` meets its contract, one case to each side of its test.
use native.Mathlib.Omega.{arith}
use mathlib.Core.Path.{sym}
use Rattle.carrying.proofs.RecodingLaws.{named_small, wider-functor, wider-other}
use Rattle.copying.proofs.tokens.widened.Goals as goal

pub overflow_add-result : goal.overflow_add-result
overflow_add-result c = omega (arith, named_small _ c.if-x-eq4.true c.requires)

pub overflow_add-result-then-x-eq4 : goal.overflow_add-result-then-x-eq4
overflow_add-result-then-x-eq4 c = omega (arith, named_small _ c.if-x-eq4.true c.requires)

pub returns-then-x-eq4 : goal.returns-then-x-eq4
returns-then-x-eq4 c = sym (wider-functor _ c.if-x-eq4.true)

pub returns : goal.returns
returns c = sym (wider-other _ c.if-x-eq4.false)
