-- `detours::searching::offer_in` meets its contract.
use mathlib.Core.Path.{refl}
use Rattle.detours.proofs.searching.offer_in.Goals as goal

pub returns : goal.returns
returns c = rw (c.payload_of.ensures, c.node-first.ensures, c.node-last.ensures) refl
