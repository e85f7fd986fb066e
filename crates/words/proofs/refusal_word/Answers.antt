-- `refusal_word` meets its contract.
use native.Mathlib.Omega.{arith}
use Rattle.words.specs.Words.{word}
use Rattle.words.proofs.refusal_word.Goals as goal

pub overflow_add-number : goal.overflow_add-number
overflow_add-number g c = omega (arith, c.number.ensures, g.met.R.Numbered.small c.args.r c.requires)

pub returns : goal.returns
unfolding word
returns g c = rw c.number.ensures at c.result_word.ensures
