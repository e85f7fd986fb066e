use Rattle.integrity.proofs.ChainCases.{lengths_to}
use Rattle.space.specs.Layout.{most}
use Prim.Native.Nat.{◌≤◌, ◌*◌}
use mathlib.Core.Path.{◌≡◌}
use Rattle.integrity.proofs.chains.chains_length.Given as goal

abbrev pub invariant-loop-i : goal.invariant-loop-i
invariant-loop-i l = (l.count ≡ lengths_to l.table l.i) × (l.count ≤ most * l.i)
