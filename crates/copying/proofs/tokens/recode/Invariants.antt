use mathlib.Core.Path.{◌≡◌}
use lib.ListN.{length}
use Rattle.copying.proofs.TokenCases.{Turned}
use Rattle.copying.proofs.tokens.recode.Given as goal

abbrev pub invariant-loop-x : goal.invariant-loop-x
invariant-loop-x l = Turned l.initial.form l.x-index l.form × (length l.form ≡ length l.initial.form)
