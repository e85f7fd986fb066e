-- `are_equal` meets its contract: `==` of slices is `same`.
use mathlib.Core.Path.{◌∙◌}
use Rattle.parts.proofs.EqualTokens.{pointwise-same}
use Rattle.parts.proofs.hands.are_equal.Goals as goal

pub returns : goal.returns
returns c = c.eq.ensures ∙ rw (c.tokens_of.ensures, c.tokens_of-2.ensures) (pointwise-same _ _)
