use mathlib.Core.Path.{◌≡◌}
use mathlib.Core.Bool.{true}
use Rattle.agreement.specs.Whole.{every_below}
use Rattle.copying.proofs.TokenCases.{token_named}
use Rattle.copying.proofs.tokens.are_named.Given as goal

abbrev pub invariant-loop-i : goal.invariant-loop-i
invariant-loop-i l = every_below (token_named l.space l.h) l.i ≡ true
