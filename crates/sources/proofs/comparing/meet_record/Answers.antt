-- `sources::comparing::meet_record` meets its contract.
use native.Mathlib.Omega.{arith}
use Rattle.sources.proofs.PlaceCases.{gathered}
use Rattle.sources.proofs.CompareCases.{meets-other, meets-same}
use Rattle.sources.proofs.comparing.meet_record.Goals as goal

pub returns-then-other-owner : goal.returns-then-other-owner
returns-then-other-owner c =
    let p = c.args in (
      meets-other p.source.now p.x p.j p.owner p.form.now p.e _ c.find_record-other.ensures.owner
          c.if-other-owner.true,
      c.requires.1,
    )

pub offset_bounds-path-k : goal.offset_bounds-path-k
offset_bounds-path-k c =
    let g = gathered _ _ c.find_record-other.ensures.path _ _ c.gather-k.ensures in
    omega (arith, g.within)

pub slice_bounds-meet-count : goal.slice_bounds-meet-count
slice_bounds-meet-count c =
    let g = gathered _ _ c.find_record-other.ensures.path _ _ c.gather-k.ensures in
    omega (arith, g.within, g.long)

pub returns : goal.returns
returns c =
    let p = c.args in
    let g = gathered _ _ c.find_record-other.ensures.path _ _ c.gather-k.ensures in
    let o = c.find_record-other.ensures.owner in
    (meets-same p.source.now p.x p.j p.owner p.form.now p.e _ o c.if-other-owner.false _ g.is _ c.meet.ensures, g.long)
