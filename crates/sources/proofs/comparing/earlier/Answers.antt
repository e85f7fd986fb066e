-- `sources::comparing::earlier` meets its contract.
use mathlib.Core.Path.{refl}
use native.Mathlib.Omega.{arith}
use Rattle.sources.proofs.CompareCases.{earlier-begin, earlier_on, earlier-ended}
use Rattle.sources.proofs.comparing.earlier.Goals as goal

pub loop-j-init : goal.loop-j-init
loop-j-init c =
    let p = c.args in
    (earlier-begin p.source.now p.x p.owner p.form.now, refl)

pub meet_record-e-requires : goal.meet_record-e-requires
meet_record-e-requires c = ((c.requires.0, omega arith), c.loop-j.invariant.1)

pub loop-j-preserved : goal.loop-j-preserved
loop-j-preserved c =
    let p = c.args in (
      earlier_on p.source.now p.x p.owner p.form.now c.loop-j.j _ _ c.loop-j.invariant.0
          c.meet_record-e.ensures.0,
      c.meet_record-e.ensures.1,
    )

pub returns : goal.returns
returns c =
    let p = c.args in
    earlier-ended p.source.now p.x p.owner p.form.now p.i c.loop-j.j _ (omega arith) (omega arith) c.loop-j.invariant.0
