-- `keeping::walking::used_slots` meets its contract.
use Rattle.keeping.proofs.Cases.{held-some}
use native.Mathlib.Omega.{arith}
use Rattle.keeping.proofs.walking.used_slots.Goals as goal

pub bounds-lasts-0 : goal.bounds-lasts-0
bounds-lasts-0 c = omega (arith, (held-some _ _ _ c.capacity.ensures (omega (arith, c.requires))).lasts-room)
