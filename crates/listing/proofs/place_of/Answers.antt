-- `place_of` meets its contract, one case to each return.
use Rattle.basis.proofs.Tests.{told}
use mathlib.Core.Path.{ap, ◌∙◌}
use Prim.Native.Nat.{ℕ, ◌+◌}
use lib.ListN.{length}
use Rattle.listing.proofs.Cases.{place-variable, place-symbol, rank-found}
use Rattle.listing.proofs.place_of.Goals as goal

pub returns-then-is_variable : goal.returns-then-is_variable
returns-then-is_variable c = ap (λ (n : ℕ). length c.args.symbols.now + n) c.payload_of.ensures ∙ place-variable _ _ (search told)

pub returns : goal.returns
returns c = place-symbol _ _ _ (search told) (rank-found _ _ _ _ c.find.ensures c.unwrap_or.ensures)
