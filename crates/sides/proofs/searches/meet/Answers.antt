use Prim.Native.Nat.{ℕ, max}
use lib.ListN.{length}
use Rattle.basis.proofs.Both.{either-on, either-off}
use Rattle.sides.specs.Searches.{all_shared}
use Rattle.sides.proofs.SharedLaws.{meets}
use mathlib.Core.Path.{refl, ◌∙◌, ap}
use Rattle.sides.proofs.searches.meet.Goals as goal

pub returns-then-all_shared : goal.returns-then-all_shared
returns-then-all_shared c = meets c.args.e c.args.other.now c.args.form.now (record { shared = c.max.result; held = c.all_shared.result }) (c.max.ensures
    ∙ ap (λ (k : ℕ). max k c.args.e.shared) c.common-k.ensures) c.all_shared.result (c.all_shared.ensures
    ∙ ap (λ (k : ℕ). all_shared k (length c.args.other.now) (length c.args.form.now)) c.common-k.ensures) (either-on _ c.if-all_shared.true refl)

pub returns-else-all_shared : goal.returns-else-all_shared
returns-else-all_shared c = meets c.args.e c.args.other.now c.args.form.now (record { shared = c.max.result; held = c.args.e.held }) (c.max.ensures
    ∙ ap (λ (k : ℕ). max k c.args.e.shared) c.common-k.ensures) c.all_shared.result (c.all_shared.ensures
    ∙ ap (λ (k : ℕ). all_shared k (length c.args.other.now) (length c.args.form.now)) c.common-k.ensures) (either-off c.if-all_shared.false refl)
