-- `write` meets its contract: at each turn what is still to be written gives the whole.
use mathlib.Core.Path.{refl, sym, ◌∙◌}
use native.Mathlib.Omega.{arith}
use Rattle.instances.proofs.InstanceLaws.{write_step, write-room, write-end, write-none}
use Rattle.instances.proofs.write.Goals as goal

pub loop-c-init : goal.loop-c-init
loop-c-init c = (omega (arith, c.requires.1), refl, refl, omega arith)

pub replace-to-requires : goal.replace-to-requires
replace-to-requires c =
    let l = c.loop-c in
    (c.requires.0 l.c-index (omega arith), omega (arith, l.invariant.0, write-room c.args.terms.now c.args.starts.now c.args.cells.now l.out l.c-index l.to (omega arith)))

pub loop-c-preserved : goal.loop-c-preserved
loop-c-preserved c =
    let l = c.loop-c in
    let e = c.replace-to.ensures in
    let w = write_step c.args.terms.now c.args.starts.now c.args.cells.now l.out l.c-index l.to _ c.args.out.now c.replace-to.new.out c.replace-to.result (omega arith) l.invariant.0 l.invariant.1 l.invariant.2 e.0 e.1 in
    let m = write-room c.args.terms.now c.args.starts.now c.args.cells.now l.out l.c-index l.to (omega arith) in
    (w.0, w.1, w.2, omega (arith, l.invariant.3, e.0, m))

pub shape_of-out : goal.shape_of-out
shape_of-out c = c.loop-c.invariant.2

pub returns : goal.returns
returns c =
    let l = c.loop-c in (
      omega (arith, l.invariant.3, write-none c.args.terms.now c.args.starts.now c.args.cells.now l.out l.c-index l.to (omega arith)),
      sym (write-end c.args.terms.now c.args.starts.now c.args.cells.now l.out l.c-index l.to (omega arith)) ∙ l.invariant.1,
    )
