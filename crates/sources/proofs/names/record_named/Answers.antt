-- `sources::names::record_named` meets its contract.
use native.Mathlib.Omega.{arith}
use mathlib.Core.Path.{◌∙◌}
use Rattle.sources.proofs.PlaceCases.{gathered}
use Rattle.sources.proofs.NameCases.{named-is}
use Rattle.sources.proofs.names.record_named.Goals as goal

pub offset_bounds-path-k : goal.offset_bounds-path-k
offset_bounds-path-k c =
    let g = gathered _ _ c.find_record-own.ensures.path _ _ c.gather-k.ensures in
    omega (arith, g.within)

pub slice_bounds-form_named-count : goal.slice_bounds-form_named-count
slice_bounds-form_named-count c =
    let g = gathered _ _ c.find_record-own.ensures.path _ _ c.gather-k.ensures in
    omega (arith, g.within, g.long)

pub returns : goal.returns
returns c =
    let p = c.args in
    let g = gathered _ _ c.find_record-own.ensures.path _ _ c.gather-k.ensures in
    (c.form_named.ensures ∙ named-is p.source.now p.x p.i _ g.is, g.long)
