-- `sources::comparing::compare` meets its contract.
use native.Mathlib.Omega.{arith}
use Rattle.sources.proofs.PlaceCases.{gathered}
use Rattle.sources.proofs.CompareCases.{compares, fewer}
use Rattle.sources.proofs.comparing.compare.Goals as goal

pub offset_bounds-path-k : goal.offset_bounds-path-k
offset_bounds-path-k c =
    let g = gathered _ _ c.find_record-own.ensures.path _ _ c.gather-k.ensures in
    omega (arith, g.within)

pub slice_bounds-earlier-count : goal.slice_bounds-earlier-count
slice_bounds-earlier-count c =
    let g = gathered _ _ c.find_record-own.ensures.path _ _ c.gather-k.ensures in
    omega (arith, g.within, g.long)

pub earlier-e-requires : goal.earlier-e-requires
earlier-e-requires c = (c.requires.0, omega (arith, c.requires.1))

pub overflow_sub-result : goal.overflow_sub-result
overflow_sub-result c =
    let g = gathered _ _ c.find_record-own.ensures.path _ _ c.gather-k.ensures in
    omega (arith, g.within, g.long)

pub overflow_sub-result-2 : goal.overflow_sub-result-2
overflow_sub-result-2 c =
    let p = c.args in
    let g = gathered _ _ c.find_record-own.ensures.path _ _ c.gather-k.ensures in
    omega (arith, fewer p.source.now p.x p.i _ _ g _ _ g.is _ c.earlier-e.ensures)

pub returns : goal.returns
returns c =
    let p = c.args in
    let g = gathered _ _ c.find_record-own.ensures.path _ _ c.gather-k.ensures in
    compares p.source.now p.x p.i _ _ g _ c.find_record-own.ensures.owner _ g.is _ c.earlier-e.ensures
