use Prim.Native.Nat.{◌-◌}
use Rattle.listing.proofs.Terms.+advance.Given as goal

abbrev pub decreases-advance : goal.decreases-advance
decreases-advance l = l.self.now.s - l.place.at
