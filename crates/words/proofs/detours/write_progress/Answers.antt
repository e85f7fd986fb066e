-- `words::detours::write_progress` meets its contract.
use Prim.Native.Nat.{ℕ}
use mathlib.Core.Bool.{Bool, true, false}
use mathlib.Core.Path.{◌≡◌, refl, ap, ◌∙◌}
use mir.Val.{bool_byte}
use lib.ListN.{set}
use Rattle.basis.specs.Choice.{pick}
use Rattle.words.proofs.DetourWords.{two-set}
use Rattle.words.proofs.detours.write_progress.Goals as goal

bit : (b : Bool) → bool_byte b ≡ pick b 1 0
bit true = refl
bit false = refl

pub returns : goal.returns
returns c =
    ap (λ (x : ℕ). set (set c.args.out.now 0 c.args.tried) 1 x) (c.from.ensures ∙ bit c.args.ended) ∙ two-set c.args.out.now _ _ c.requires
