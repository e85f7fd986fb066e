-- `is_letter` meets its contract, one case to each return.
use Rattle.basis.proofs.Tests.{told}
use mathlib.Core.Path.{ap, ◌∙◌}
use Prim.Native.Nat.{ℕ}
use lib.Dec.{ltb}
use Rattle.listing.proofs.Cases.{is-variable-letter, is-symbol-letter, any-contains}
use Rattle.listing.proofs.is_letter.Goals as goal

pub returns-then-is_variable : goal.returns-then-is_variable
returns-then-is_variable c = ap (λ (n : ℕ). ltb n c.args.s) c.payload_of.ensures ∙ is-variable-letter _ _ _ (search told)

pub returns : goal.returns
returns c = c.contains.ensures.value ∙ any-contains c.args.symbols.now c.args.c ∙ is-symbol-letter _ _ _ (search told)
