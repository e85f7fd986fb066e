-- `place_after` meets its contract.
use native.Mathlib.Numerals.{add-one}
use Rattle.listing.specs.Steps.{passed}
use Rattle.listing.proofs.place_after.Goals as goal

pub returns : goal.returns
unfolding passed
returns c = rw (add-one, c.known_after.ensures, c.due_after.ensures, c.arguments_of.ensures.0)
