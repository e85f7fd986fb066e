use mathlib.Core.Path.{◌≡◌}
use lib.ListN.{drop}
use Rattle.listing.specs.Listing.{are_symbols}
use Rattle.listing.proofs.are_symbols.Given as goal

abbrev pub invariant-loop-i : goal.invariant-loop-i
invariant-loop-i l = are_symbols l.edition l.symbols ≡ are_symbols l.edition (drop l.i l.symbols)
