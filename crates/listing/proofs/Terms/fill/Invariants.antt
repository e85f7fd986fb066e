use Prim.Native.Nat.{◌-◌, ◌≤◌}
use mathlib.Core.Path.{◌≡◌}
use lib.ListN.{length, take}
use Rattle.listing.specs.Listing.{alphabet}
use Rattle.listing.specs.Steps.{prefixed, first_way}
use Rattle.listing.proofs.Terms.fill.Given as goal

abbrev pub invariant-loop-at : goal.invariant-loop-at
invariant-loop-at l = (l.place.at ≡ l.at) × (l.place.due ≤ 8) × (length l.term ≡ 8) × (prefixed (take l.place.at l.term) (first_way l.self.edition l.self.symbols.now (alphabet l.self.s l.self.symbols.now) l.place (l.self.s - l.place.at)) ≡ prefixed (take l.initial.place.at l.initial.term) (first_way l.self.edition l.self.symbols.now (alphabet l.self.s l.self.symbols.now) l.initial.place (l.self.s - l.initial.place.at))) × (take l.initial.place.at l.term ≡ take l.initial.place.at l.initial.term)
