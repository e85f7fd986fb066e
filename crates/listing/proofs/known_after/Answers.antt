-- `known_after` meets its contract, one case to each return.
use Rattle.basis.proofs.Tests.{told}
use mathlib.Core.Path.{ap, ◌∙◌}
use Prim.Native.Nat.{ℕ, ◌+◌, max}
use Rattle.listing.proofs.Cases.{known-most, known_same}
use Rattle.listing.proofs.known_after.Goals as goal

pub returns-then-is_variable : goal.returns-then-is_variable
returns-then-is_variable c = c.max.ensures ∙ ap (λ (x : ℕ). max c.args.known (x + 1)) c.payload_of.ensures ∙ known-most _ _ (told c.is_variable.ensures c.if-is_variable.true)

pub returns : goal.returns
returns c = known_same _ _ (told c.is_variable.ensures c.if-is_variable.false)
