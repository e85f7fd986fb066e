use Prim.Native.Nat.{◌+◌, ◌*◌, ◌≤◌}
use mathlib.Core.Path.{◌≡◌}
use lib.ListN.{length}
use Rattle.listing.specs.Steps.{is_listed}
use Rattle.listing.proofs.Letters.{Left}
use Rattle.listing.proofs.is_listed.Given as goal

abbrev pub invariant-loop-c : goal.invariant-loop-c
invariant-loop-c l = (l.place.at ≡ l.c-index) × (length l.term ≡ l.s) × (l.place.due ≤ 1 + 254 * l.place.at) × (is_listed l.edition l.s l.symbols l.term ≡ Left l.edition l.s l.symbols l.term l.place)
