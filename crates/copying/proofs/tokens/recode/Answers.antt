-- `copying::tokens::recode` meets its contract.
use mathlib.Core.Path.{refl, ap, ◌∙◌}
use lib.ListN.{length-set}
use native.Mathlib.Omega.{arith}
use Rattle.carrying.specs.Recoding.{wider, name_fits}
use Rattle.copying.proofs.TokenCases.{turned-begin, turned-at, turned_on, turned-ended, taken_at}
use Rattle.copying.proofs.tokens.recode.Goals as goal

pub loop-x-init : goal.loop-x-init
loop-x-init c = (turned-begin c.args.form.now, refl)

pub widened-requires : goal.widened-requires
widened-requires c =
    ap name_fits (turned-at c.args.form.now c.loop-x.form c.loop-x.x-index c.loop-x.invariant.0)
    ∙ taken_at c.args.form.now c.requires c.loop-x.x-index (omega arith)

pub loop-x-preserved : goal.loop-x-preserved
loop-x-preserved c =
    let l = c.loop-x in (
      turned_on c.args.form.now l.form l.x-index _ (omega arith)
          (c.widened.ensures ∙ ap wider (turned-at c.args.form.now l.form l.x-index l.invariant.0))
          l.invariant.0,
      simp length-set l.invariant.1,
    )

pub returns : goal.returns
returns c = turned-ended c.args.form.now c.loop-x.form c.loop-x.x-index (omega arith) c.loop-x.invariant.1 c.loop-x.invariant.0
