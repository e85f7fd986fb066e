use Prim.Native.Nat.{◌<◌}
use mathlib.Core.Path.{◌≡◌}
use lib.ListN.{drop}
use Rattle.listing.specs.Listing.{alphabet}
use Rattle.listing.specs.Steps.{can_go_on, first_of}
use Rattle.listing.proofs.Terms.choose.Given as goal

abbrev pub invariant-loop-j : goal.invariant-loop-j
invariant-loop-j l = (first_of (can_go_on l.self.edition l.self.symbols.now l.place l.left) (drop l.from (alphabet l.self.s l.self.symbols.now)) ≡ first_of (can_go_on l.self.edition l.self.symbols.now l.place l.left) (drop l.j (alphabet l.self.s l.self.symbols.now))) × (l.left < 8)
