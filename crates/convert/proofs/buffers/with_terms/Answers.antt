-- `with_terms` meets its contract: each rung has room for the terms, and the call was made with its buffer.
use native.Mathlib.Omega.{arith}
use Rattle.convert.proofs.buffers.with_terms.Goals as goal

pub returns-then-rung-le-FEW_TOKENS : goal.returns-then-rung-le-FEW_TOKENS
returns-then-rung-le-FEW_TOKENS g c = (_, _, (λ h. omega (arith, c.tokens_rung-rung.ensures, c.if-rung-le-FEW_TOKENS.true)), c.run.ensures)

pub returns-then-rung-le-SOME_TOKENS : goal.returns-then-rung-le-SOME_TOKENS
returns-then-rung-le-SOME_TOKENS g c = (_, _, (λ h. omega (arith, c.tokens_rung-rung.ensures, c.if-rung-le-SOME_TOKENS.true)), c.run-then-rung-le-SOME_TOKENS.ensures)

pub returns : goal.returns
returns g c = (_, _, (λ h. omega (arith, h)), c.run-2.ensures)
