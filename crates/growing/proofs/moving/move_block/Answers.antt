-- `growing::moving::move_block` meets its contract.
use Prim.Native.Nat.{ℕ, ◌+◌, ◌-◌}
use mathlib.Core.Path.{◌≡◌, ap, ◌∙◌}
use native.Mathlib.Omega.{arith}
use lib.ListN.{drop}
use lib.Seq.{paste}
use Rattle.growing.specs.Moving.{moved}
use Rattle.growing.proofs.moving.move_block.Goals as goal

pub returns : goal.returns
unfolding moved
returns c =
    let b = c.args.block in
    let s = c.args.space.now in
    let n : b.from + b.count - b.from ≡ b.count = omega arith in
    c.copy_within.ensures.after ∙ ap (λ (k : ℕ). paste s b.to (drop b.from s) k) n
