use Prim.Native.Nat.{◌≤◌, ◌<◌, ◌-◌, ◌^◌}
use mathlib.Core.Path.{◌≡◌}
use lib.ListN.{length, drop}
use Rattle.text.specs.Digits.{digits, digits_before}
use Rattle.text.proofs.digits.fill.Given as goal

abbrev pub invariant-loop-i : goal.invariant-loop-i
invariant-loop-i l =
    (l.i ≤ 10) × (length l.buffer ≡ 10) × (l.left < 10 ^ l.i) × (digits l.base l.width l.n ≡ digits_before l.base l.i (l.width - (10 - l.i)) l.left (drop l.i l.buffer))

abbrev pub decreases-loop-i : goal.decreases-loop-i
decreases-loop-i l = l.i
