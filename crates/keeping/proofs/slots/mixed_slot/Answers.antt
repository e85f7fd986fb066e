-- `keeping::slots::mixed_slot` meets its contract.
use Rattle.keeping.proofs.Cases.{product-fits, mixed-is}
use native.Mathlib.Nat.{mod-lt}
use native.Mathlib.Omega.{arith}
use Prim.Native.Nat.{ℕ, ◌+◌, ◌*◌, ◌%◌, ◌^◌, ◌<◌}
use borrow.Author.Rules.{rules}
use Rattle.keeping.proofs.slots.mixed_slot.Goals as goal

pub overflow_mul-result : goal.overflow_mul-result
overflow_mul-result c =
    let y : ℕ = c.args.parent * 1780508695 + c.wide.result * 97174869 in
    let x : ℕ = y % 4294967296 in
    let h : x < 2 ^ 32 = mod-lt y (omega arith) in
    let a : x * c.args.size < 2 ^ 64 = product-fits x c.args.size h (search rules) in
    omega arith

pub returns : goal.returns
returns c = mixed-is _ _ _ _ (search rules) c.wide.ensures.0
