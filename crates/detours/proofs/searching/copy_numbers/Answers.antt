-- `detours::searching::copy_numbers` meets its contract.
use Prim.Native.Nat.{ℕ, ◌+◌, ◌-◌}
use mathlib.Core.Path.{◌≡◌, sym, ap, ◌∙◌, subst}
use native.Mathlib.Omega.{arith}
use lib.ListN.{drop}
use lib.Seq.{paste}
use Rattle.detours.specs.Searching.{best_from, numbers_from, Copied}
use Rattle.detours.proofs.WorkLaws.{copied_all}
use Rattle.detours.proofs.searching.copy_numbers.Goals as goal

pub returns : goal.returns
returns c =
    let n : numbers_from + c.args.n - numbers_from ≡ c.args.n = omega arith in
    let e = c.copy_within.ensures.after ∙ ap (λ (k : ℕ). paste c.args.work.now best_from (drop numbers_from c.args.work.now) k) n in
    subst (Copied c.args.work.now c.args.n) (sym e) (copied_all c.args.work.now c.args.n c.requires.0 c.requires.1)
