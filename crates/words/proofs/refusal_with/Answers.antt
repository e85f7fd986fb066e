-- `refusal_with` meets its contract.
use native.Mathlib.Omega.{arith}
use Rattle.basis.specs.Refusals.{number-small}
use Rattle.words.proofs.refusal_with.Goals as goal

pub overflow_add-from : goal.overflow_add-from
overflow_add-from c = omega (arith, c.from.ensures, number-small c.args.r)

pub returns : goal.returns
returns c = rw c.from.ensures at c.result_word.ensures
