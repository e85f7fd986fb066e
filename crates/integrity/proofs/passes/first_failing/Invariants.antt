use Rattle.integrity.specs.Tests.{AnswersAs}
use Rattle.agreement.specs.Whole.{every_below}
use Prim.Native.Nat.{ℕ}
use mathlib.Core.Bool.{Bool, true}
use mathlib.Core.Path.{◌≡◌}
use Rattle.integrity.proofs.passes.first_failing.Given as goal

abbrev pub invariant-loop-i : goal.invariant-loop-i
invariant-loop-i g l = (test : ℕ → Bool) → AnswersAs (goal.F-post g l.test) test l.n → every_below test l.i ≡ true
