-- `indexing::filling::enter_all` meets its contract.
use Rattle.indexing.proofs.FillCases.{entered-begin, entered_on, entered-ended, entered-length}
use Rattle.indexing.specs.Parts.{Slots}
use mathlib.Core.Path.{refl, sym, ◌∙◌, subst}
use native.Mathlib.Omega.{arith}
use Rattle.indexing.proofs.filling.enter_all.Goals as goal

pub loop-n-init : goal.loop-n-init
loop-n-init c = (entered-begin _ _, refl)

pub enter-requires : goal.enter-requires
enter-requires c = ((c.requires.0, omega arith), subst Slots (sym c.loop-n.invariant.1) c.requires.1)

pub loop-n-preserved : goal.loop-n-preserved
loop-n-preserved c = (entered_on _ _ _ _ _ c.loop-n.invariant.0 c.enter.ensures, entered-length _ _ _ _ c.enter.ensures ∙ c.loop-n.invariant.1)

pub returns : goal.returns
returns c = entered-ended _ _ _ _ _ (omega arith) (omega arith) c.loop-n.invariant.0
