-- `missing` meets its contract: what each cell could stand for at most is enough, or the need is counted.
use Rattle.std.specs.Prelude.{Some}
use Prim.Native.Nat.{ℕ, ◌+◌, ◌*◌, ◌≤◌}
use mathlib.Core.Path.{refl, ap}
use native.Mathlib.Omega.{arith}
use native.Mathlib.Nat.{mul-le-mul}
use lib.ListN.{length}
use Rattle.instances.proofs.InstanceLaws.{needed-most}
use Rattle.instances.proofs.missing.Goals as goal

pub overflow_mul-cells : goal.overflow_mul-cells
overflow_mul-cells c = let z : length c.args.cells.now * (c.args.end + 1) ≤ 256 * 257 = mul-le-mul {n₂ = 256} {m₂ = 257} (omega arith) (omega arith) in omega arith

pub returns-then-cells-end : goal.returns-then-cells-end
returns-then-cells-end c = (λ h. refl, λ h. absurd (omega (arith, needed-most c.args.end c.args.starts.now c.args.cells.now c.requires.2, c.if-cells-end.true)))

pub need-k-requires : goal.need-k-requires
need-k-requires c = (c.requires.1, λ k h q. let p = c.requires.2 k h q in (p.0, p.1, omega (arith, p.2, c.requires.0)))

pub returns-then-room-k : goal.returns-then-room-k
returns-then-room-k c = (λ h. absurd (omega (arith, c.need-k.ensures, c.if-room-k.true, h)), λ h. ap (λ (n : ℕ). Some n) c.need-k.ensures)

pub returns : goal.returns
returns c = (λ h. refl, λ h. absurd (omega (arith, c.need-k.ensures, c.if-room-k.false, h)))
