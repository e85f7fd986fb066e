use Rattle.integrity.proofs.FirstCases.{Climbing}
use Prim.Native.Nat.{◌-◌}
use Rattle.integrity.proofs.firsts.led_up.Given as goal

abbrev pub invariant-loop : goal.invariant-loop
invariant-loop l = Climbing l.table l.s l.i l.n (383 - l.counter)
